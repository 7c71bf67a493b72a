-- What stands in a line that says a part or a fit: its very bytes.
-- Assumes nothing.
--
--   SaysPart l p, says-part      a `part` line: the word, a name, the numbers behind it
--   SaysFit l t p, says-fit      a `fit` line: the word, and two names
--   name-exact                   two fields that give one name are equal in length and in all bytes
use mathlib.Core.Path.{◌≡◌, refl, sym, ap, ◌∙◌}
use mathlib.Core.Bool.{Bool, true, false, cond, ◌&&◌}
use mathlib.Core.List.{List, [], ◌∷◌}
use Prim.Native.Nat.{ℕ}
use native.Mathlib.Omega.{arith}
use lib.ListN.{length}
use Rattle.std.proofs.Common.{Option, Some, None}
use Rattle.std.specs.Option.{option_map}
use Rattle.demand.specs.Lists.{padded}
use Rattle.demand.specs.declared.Costs.{Costs}
use Rattle.demand.proofs.PaddedLaws.{padded-take}
use Rattle.demand.proofs.Tests.{both_left, both_right}
use Rattle.task.specs.declared.Name.{Name}
use Rattle.task.specs.declared.Part.{Part}
use Rattle.task.specs.declared.Machine.{Machine}
use Rattle.task.specs.Names.{same_bytes, name_most}
use Rattle.task.proofs.NameLaws.{same-bytes-exact}
use Rattle.lines.specs.declared.forms.Word.{Word}
use Rattle.lines.specs.declared.Line.{Line}
use Rattle.lines.specs.Lines.{bytes_of, tab, up_to, beyond, fields, name_of, is_name}
use Rattle.lines.specs.Forms.{times_of, numbered, values, machine_form, cost_form, part_form, fit_form, word_of, form_of, line_of}
use Rattle.lines.proofs.LineLaws.{kept-some}
use Rattle.lines.proofs.FieldLaws.{name-short}

-- ---- words

third-word : (a b c d : Bool)
    → cond a (Some Word.Machine) (cond b (Some Word.Cost) (cond c (Some Word.Part) (cond d (Some Word.Fit) None))) ≡ Some Word.Part → c ≡ true
third-word true b c d e = cc
third-word false true c d e = cc
third-word false false true d e = refl
third-word false false false true e = cc
third-word false false false false e = cc

fourth-word : (a b c d : Bool)
    → cond a (Some Word.Machine) (cond b (Some Word.Cost) (cond c (Some Word.Part) (cond d (Some Word.Fit) None))) ≡ Some Word.Fit → d ≡ true
fourth-word true b c d e = cc
fourth-word false true c d e = cc
fourth-word false false true d e = cc
fourth-word false false false true e = refl
fourth-word false false false false e = cc

module _ (f : List ℕ) where
  part-word : word_of f ≡ Some Word.Part → f ≡ bytes_of "part"
  unfolding word_of
  part-word e =
      (same-bytes-exact f (bytes_of "part")).0 (third-word (same_bytes f (bytes_of "machine")) (same_bytes f (bytes_of "cost"))
      (same_bytes f (bytes_of "part")) (same_bytes f (bytes_of "fit")) e)

  fit_word : word_of f ≡ Some Word.Fit → f ≡ bytes_of "fit"
  unfolding word_of
  fit_word e =
      (same-bytes-exact f (bytes_of "fit")).0 (fourth-word (same_bytes f (bytes_of "machine")) (same_bytes f (bytes_of "cost"))
      (same_bytes f (bytes_of "part")) (same_bytes f (bytes_of "fit")) e)

-- ---- lines

pub record SaysPart (l : List ℕ) (p : Part) : Type 0 where
  pub name : List ℕ
  pub numbers : List (List ℕ)
  pub reads : fields l ≡ bytes_of "part" ∷ name ∷ numbers
  pub named : is_name name ≡ true
  pub part : p ≡ record { name = name_of name; times = times_of (values numbers) }

pub says-part : (l : List ℕ) (p : Part) → line_of l ≡ Some (Line.Part p) → SaysPart l p
unfolding line_of part_form fit_form
says-part l p line = by_word (word_of (up_to tab l)) refl (beyond tab l) refl line
  where
    machines : (o : Option Machine) → option_map Line.Machine o ≡ Some (Line.Part p) → SaysPart l p
    machines None e = absurd (let z : ◌≡◌ {A = ℕ} 0 1 = cc in omega arith)
    machines (Some m) e = absurd (let z : ◌≡◌ {A = ℕ} 0 1 = cc in omega arith)

    costs : (o : Option Costs) → option_map Line.Cost o ≡ Some (Line.Part p) → SaysPart l p
    costs None e = absurd (let z : ◌≡◌ {A = ℕ} 0 1 = cc in omega arith)
    costs (Some m) e = absurd (let z : ◌≡◌ {A = ℕ} 0 1 = cc in omega arith)

    mapped : (o : Option Part) → option_map Line.Part o ≡ Some (Line.Part p) → o ≡ Some p
    mapped None e = cc
    mapped (Some q) e = cc

    by_word : (w : Option Word) → word_of (up_to tab l) ≡ w → (fs : List (List ℕ)) → beyond tab l ≡ fs → form_of w fs ≡ Some (Line.Part p) → SaysPart l p
    by_word (Some Word.Machine) w fs more e = machines (machine_form fs) e
    by_word (Some Word.Cost) w fs more e = costs (cost_form fs) e
    by_word (Some Word.Part) w [] more e = absurd (let z : ◌≡◌ {A = ℕ} 0 1 = cc in omega arith)
    by_word (Some Word.Part) w (f ∷ fs) more e =
        let good = kept-some (is_name f && numbered 6 fs) (record { name = name_of f; times = times_of (values fs) }) p (mapped (part_form (f ∷ fs)) e) in
        record {
          name = f;
          numbers = fs;
          reads = cc (part-word (up_to tab l) w, more);
          named = both_left (is_name f) (numbered 6 fs) good.0;
          part = sym good.1;
        }
    by_word (Some Word.Fit) w [] more e = absurd (let z : ◌≡◌ {A = ℕ} 0 1 = cc in omega arith)
    by_word (Some Word.Fit) w (f ∷ []) more e = absurd (let z : ◌≡◌ {A = ℕ} 0 1 = cc in omega arith)
    by_word (Some Word.Fit) w (f ∷ g ∷ []) more e =
        let good = kept-some (is_name f && is_name g) (Line.Fit (name_of f) (name_of g)) (Line.Part p) e in
        absurd (let z : ◌≡◌ {A = ℕ} 0 1 = cc good.1 in omega arith)
    by_word (Some Word.Fit) w (f ∷ g ∷ h ∷ fs) more e = absurd (let z : ◌≡◌ {A = ℕ} 0 1 = cc in omega arith)
    by_word None w fs more e = absurd (let z : ◌≡◌ {A = ℕ} 0 1 = cc in omega arith)

pub record SaysFit (l : List ℕ) (t p : Name) : Type 0 where
  pub task : List ℕ
  pub name : List ℕ
  pub reads : fields l ≡ bytes_of "fit" ∷ task ∷ name ∷ []
  pub called : is_name task ≡ true
  pub named : is_name name ≡ true
  pub task-is : t ≡ name_of task
  pub part-is : p ≡ name_of name

pub says-fit : (l : List ℕ) (t p : Name) → line_of l ≡ Some (Line.Fit t p) → SaysFit l t p
unfolding line_of fit_form
says-fit l t p line = by_word (word_of (up_to tab l)) refl (beyond tab l) refl line
  where
    machines : (o : Option Machine) → option_map Line.Machine o ≡ Some (Line.Fit t p) → SaysFit l t p
    machines None e = absurd (let z : ◌≡◌ {A = ℕ} 0 1 = cc in omega arith)
    machines (Some m) e = absurd (let z : ◌≡◌ {A = ℕ} 0 1 = cc in omega arith)

    costs : (o : Option Costs) → option_map Line.Cost o ≡ Some (Line.Fit t p) → SaysFit l t p
    costs None e = absurd (let z : ◌≡◌ {A = ℕ} 0 1 = cc in omega arith)
    costs (Some m) e = absurd (let z : ◌≡◌ {A = ℕ} 0 1 = cc in omega arith)

    parts : (o : Option Part) → option_map Line.Part o ≡ Some (Line.Fit t p) → SaysFit l t p
    parts None e = absurd (let z : ◌≡◌ {A = ℕ} 0 1 = cc in omega arith)
    parts (Some m) e = absurd (let z : ◌≡◌ {A = ℕ} 0 1 = cc in omega arith)

    by_word : (w : Option Word) → word_of (up_to tab l) ≡ w → (fs : List (List ℕ)) → beyond tab l ≡ fs → form_of w fs ≡ Some (Line.Fit t p) → SaysFit l t p
    by_word (Some Word.Machine) w fs more e = machines (machine_form fs) e
    by_word (Some Word.Cost) w fs more e = costs (cost_form fs) e
    by_word (Some Word.Part) w fs more e = parts (part_form fs) e
    by_word (Some Word.Fit) w [] more e = absurd (let z : ◌≡◌ {A = ℕ} 0 1 = cc in omega arith)
    by_word (Some Word.Fit) w (f ∷ []) more e = absurd (let z : ◌≡◌ {A = ℕ} 0 1 = cc in omega arith)
    by_word (Some Word.Fit) w (f ∷ g ∷ []) more e =
        let good = kept-some (is_name f && is_name g) (Line.Fit (name_of f) (name_of g)) (Line.Fit t p) e in
        record {
          task = f;
          name = g;
          reads = cc (fit_word (up_to tab l) w, more);
          called = both_left (is_name f) (is_name g) good.0;
          named = both_right (is_name f) (is_name g) good.0;
          task-is = cc good.1;
          part-is = cc good.1;
        }
    by_word (Some Word.Fit) w (f ∷ g ∷ h ∷ fs) more e = absurd (let z : ◌≡◌ {A = ℕ} 0 1 = cc in omega arith)
    by_word None w fs more e = absurd (let z : ◌≡◌ {A = ℕ} 0 1 = cc in omega arith)

-- ---- names

pub name-exact : (f g : List ℕ) → is_name f ≡ true → is_name g ≡ true → name_of f ≡ name_of g → f ≡ g
unfolding name_of
name-exact f g good fine same =
    let long : length f ≡ length g = ap (λ (n : Name). n.len) same in
    let bytes : padded name_most 0 f ≡ padded name_most 0 g = ap (λ (n : Name). n.bytes) same in
    sym (padded-take 0 name_most f (name-short f good)) ∙ rw (long, bytes) (padded-take 0 name_most g (name-short g fine))
