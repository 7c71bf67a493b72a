-- What can be said of a sheet that is read, from what each of its lines keeps.
-- Assumes nothing.
--
--   read_keeps    what each good line keeps holds of the whole sheet
--   read_whole    number 0 is no refusal: the sheet is whole
--   read_fits     what stands at the end has room in its arrays
--   read-shown    what is given back is what stands at the end
--   read-tasks    the tasks given back are those that stand at the end
--   Found, found  the part that a name finds among parts, with what is known of each
use mathlib.Core.Path.{◌≡◌, refl, ap}
use mathlib.Core.Bool.{Bool, true, false, cond}
use mathlib.Core.List.{List, [], ◌∷◌, ◌++◌, append_assoc, append-nil, drop_last}
use Prim.Native.Nat.{ℕ, zero, suc, ◌+◌, ◌≤◌}
use native.Mathlib.Omega.{arith}
use borrow.Author.Tests.{leb-true}
use lib.Dec.{leb}
use lib.ListN.{length}
use Rattle.demand.specs.Sizes.{Each}
use Rattle.task.specs.declared.Name.{Name}
use Rattle.task.specs.Names.{same_name}
use Rattle.task.specs.Tasks.{tasks_most, no_task, part_place, list_of}
use Rattle.task.specs.declared.Part.{Part}
use Rattle.task.proofs.NameLaws.{same-name-exact}
use Rattle.lines.specs.Lines.{newline, up_to, beyond}
use Rattle.lines.specs.Forms.{line_of}
use Rattle.demand.proofs.PaddedLaws.{padded-take}
use Rattle.sheet.specs.Sheet.{Above, top, among_parts, line_fault, part_named, after, Outcome, refused, whole}
use Rattle.sheet.specs.Sheet.{ending, next, read_from, sheet_most, outcome_of, shown, read_of}
use Rattle.sheet.specs.Fitted.{lines_of}
use Rattle.sheet.proofs.ReadLaws.{Fits, after-fits}

-- ---- the lines that are read

next-good : (k n : ℕ) (o : Outcome) (b : Above) → next k n o ≡ whole b → (k ≡ 0) × (o ≡ whole b)
next-good zero n o b e = (refl, e)
next-good (suc k) n o b e = absurd (let z : ◌≡◌ {A = ℕ} 0 1 = cc in omega arith)

ending-good : (a : Above) (n : ℕ) (l : List ℕ) (b : Above) → ending a n l ≡ whole b → (a ≡ b) × (among_parts ≤ a.stage)
ending-good a n [] b e = by-test (leb among_parts a.stage) refl e
  where
    by-test : (t : Bool) → leb among_parts a.stage ≡ t → cond t (whole a) (refused 8 n) ≡ whole b → (a ≡ b) × (among_parts ≤ a.stage)
    by-test true late e = (cc, leb-true among_parts a.stage late)
    by-test false early e = absurd (let z : ◌≡◌ {A = ℕ} 0 1 = cc in omega arith)
ending-good a n (x ∷ l) b e = absurd (let z : ◌≡◌ {A = ℕ} 0 1 = cc in omega arith)

module _ (P : List (List ℕ) → Above → Type 0)
    (start : P [] top)
    (step : (ls : List (List ℕ)) (a : Above) (l : List ℕ) → P ls a → line_fault a (line_of l) ≡ 0 → P (ls ++ (l ∷ [])) (after a (line_of l))) where
  keeps-from : (ms : List (List ℕ)) (ls : List (List ℕ)) (a : Above) (n : ℕ) (l : List ℕ) (b : Above) → P ls a → read_from a n l ms ≡ whole b
      → P (ls ++ drop_last (l ∷ ms)) b × (among_parts ≤ b.stage)
  unfolding read_from
  keeps-from [] ls a n l b so_far e =
      let end = ending-good a n l b e in
      (rw (append-nil ls, ← end.0) so_far, rw (← end.0) end.1)
  keeps-from (m ∷ ms) ls a n l b so_far e =
      let good = next-good (line_fault a (line_of l)) n (read_from (after a (line_of l)) (n + 1) m ms) b e in
      let on = keeps-from ms (ls ++ (l ∷ [])) (after a (line_of l)) (n + 1) m b (step ls a l so_far good.0) good.1 in
      (rw append_assoc at on.0, on.1)

  pub read_keeps : (bytes : List ℕ) (b : Above) → outcome_of bytes ≡ whole b → P (lines_of bytes) b × (among_parts ≤ b.stage)
  unfolding outcome_of lines_of
  read_keeps bytes b e = by_length (leb (length bytes) sheet_most) e
    where
      by_length : (t : Bool) → cond t (read_from top 1 (up_to newline bytes) (beyond newline bytes)) (refused 9 0) ≡ whole b
          → P (drop_last (up_to newline bytes ∷ beyond newline bytes)) b × (among_parts ≤ b.stage)
      by_length true e = keeps-from (beyond newline bytes) [] top 1 (up_to newline bytes) b start e
      by_length false e = absurd (let z : ◌≡◌ {A = ℕ} 0 1 = cc in omega arith)

-- ---- number 0 is no refusal

Refuses : Outcome → Type 0
Refuses o = (n l : ℕ) → o ≡ refused n l → n ≡ 0 → ⊥

refuses-next : (k n : ℕ) (o : Outcome) → Refuses o → Refuses (next k n o)
unfolding Refuses
refuses-next zero n o h = h
refuses-next (suc k) n o h = λ m l e z. let y : suc k ≡ m = cc in omega arith

refuses-ending : (a : Above) (n : ℕ) (l : List ℕ) → Refuses (ending a n l)
unfolding Refuses
refuses-ending a n [] = by-test (leb among_parts a.stage)
  where
    by-test : (t : Bool) → (m k : ℕ) → cond t (whole a) (refused 8 n) ≡ refused m k → m ≡ 0 → ⊥
    by-test true m k e z = let y : ◌≡◌ {A = ℕ} 0 1 = cc in omega arith
    by-test false m k e z = let y : 8 ≡ m = cc in omega arith
refuses-ending a n (b ∷ l) = λ m k e z. let y : 8 ≡ m = cc in omega arith

refuses-from : (ms : List (List ℕ)) (a : Above) (n : ℕ) (l : List ℕ) → Refuses (read_from a n l ms)
unfolding read_from
refuses-from [] a n l = refuses-ending a n l
refuses-from (m ∷ ms) a n l =
    refuses-next (line_fault a (line_of l)) n (read_from (after a (line_of l)) (n + 1) m ms) (refuses-from ms (after a (line_of l)) (n + 1) m)

refuses-all : (bytes : List ℕ) → Refuses (outcome_of bytes)
unfolding outcome_of Refuses
refuses-all bytes = by_length (leb (length bytes) sheet_most)
  where
    by_length : (t : Bool) → (m k : ℕ) → cond t (read_from top 1 (up_to newline bytes) (beyond newline bytes)) (refused 9 0) ≡ refused m k → m ≡ 0 → ⊥
    by_length true = refuses-from (beyond newline bytes) top 1 (up_to newline bytes)
    by_length false = λ m k e z. let y : 9 ≡ m = cc in omega arith

pub read_whole : (bytes : List ℕ) → (read_of bytes).number ≡ 0 → (b : Above) × (outcome_of bytes ≡ whole b)
unfolding read_of Refuses
read_whole bytes none = by-outcome (outcome_of bytes) refl none
  where
    by-outcome : (o : Outcome) → outcome_of bytes ≡ o → (shown o).number ≡ 0 → (b : Above) × (outcome_of bytes ≡ whole b)
    by-outcome (refused n l) e z = absurd (refuses-all bytes n l e z)
    by-outcome (whole b) e z = (b, e)

-- ---- the tasks that are given back

pub read_fits : (bytes : List ℕ) (b : Above) → outcome_of bytes ≡ whole b → Fits b
read_fits bytes b e =
    (read_keeps (λ (ls : List (List ℕ)) (a : Above). Fits a) (record { parts-fit = omega arith; tasks-fit = omega arith })
    (λ ls a l fits none. after-fits a (line_of l) none fits) bytes b e).0

pub read-shown : (bytes : List ℕ) (b : Above) → outcome_of bytes ≡ whole b → read_of bytes ≡ shown (whole b)
unfolding read_of
read-shown bytes b e = ap shown e

pub read-tasks : (bytes : List ℕ) (b : Above) → outcome_of bytes ≡ whole b → list_of (read_of bytes).sheet.tasks ≡ b.tasks
read-tasks bytes b e = rw (read-shown bytes b e) (padded-take no_task tasks_most b.tasks (read_fits bytes b e).tasks-fit)

-- ---- a part that is known by its name

pub record Found (Q : Part → Type 0) (n : Name) (ps : List Part) : Type 0 where
  pub part : Part
  pub holds : Q part
  pub same : n ≡ part.name
  pub is : part_named n ps ≡ part

pub found : (Q : Part → Type 0) (k : ℕ) (n : Name) (ps : List Part) → Each Q ps → (part_place k n ps ≡ 0 → ⊥) → Found Q n ps
found Q k n [] each some = absurd (some refl)
found Q k n (p ∷ ps) each some = by-test (same_name n p.name) refl (λ h. found Q (k + 1) n ps each.1 h) some
  where
    by-test : (t : Bool) → same_name n p.name ≡ t
        → ((part_place (k + 1) n ps ≡ 0 → ⊥) → Found Q n ps) → (cond t k (part_place (k + 1) n ps) ≡ 0 → ⊥) → Found Q n (p ∷ ps)
    by-test true e h some = record { part = p; holds = each.0; same = (same-name-exact n p.name).0 e; is = rw e }
    by-test false e h some =
        let f = h some in
        record { part = f.part; holds = f.holds; same = f.same; is = rw e f.is }
