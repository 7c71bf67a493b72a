-- Laws of reading a listing back: its bytes determine the entries that it was written from.
-- Assumes nothing.
--
--   Lacks b f              the byte b is not one of f
--   cut-alike              two texts that are equal are so up to the first byte b, and behind it
--   fields_on fs r          the fields fs, each ended by a tab, and then r
--   fields-alike           two such runs with as many fields are equal in each of them
--   decimal-lacks          digits are no bytes below 48, so no tabs and no newlines
--   word-lacks, word-one   the kinds' words have no tab, and no two of them are the same
--   line-cut               a line of fields of which the last is a number
--   Readable e             what an entry needs to be read back
--   lines-alike            the lines of such entries determine them
--   head-alike             and two listings that are equal are so in their first lines' numbers and in the lines below
use mathlib.Core.Path.{◌≡◌, refl, sym, ap, ◌∙◌}
use mathlib.Core.Bool.{Bool, true, false, not, cond}
use mathlib.Core.List.{List, [], ◌∷◌, ◌++◌, append_assoc}
use Prim.Native.Nat.{ℕ, ◌^◌, ◌<◌}
use native.Mathlib.Omega.{arith}
use borrow.Author.Tests.{eq-eqb, eqb-true}
use lib.Dec.{eqb}
use lib.ListN.{length, get_or}
use Rattle.demand.specs.declared.Kind.{Kind}
use Rattle.demand.specs.Kinds.{kind_number}
use Rattle.demand.specs.Sizes.{Each}
use Rattle.demand.proofs.Tests.{both_left, both_right}
use Rattle.demand.proofs.KindLaws.{kind-one, all_kinds, every-kind}
use Rattle.lines.specs.Lines.{bytes_of, tab, newline, is_digit, every}
use Rattle.lines.proofs.FieldLaws.{digit_low}
use Rattle.listing.specs.Text.{decimal}
use Rattle.listing.specs.Listing.{Entry, kind_word, entry_line, entry_lines, header}
use Rattle.listing.proofs.DigitLaws.{decimal-digits, decimal-one}

-- ---- runs that a byte ends

abbrev pub Lacks : ℕ → List ℕ → Type 0
Lacks b f = Each (λ a. a ≡ b → ⊥) f

pub cut-alike : (b : ℕ) (x z y w : List ℕ) → Lacks b x → Lacks b z → x ++ (b ∷ y) ≡ z ++ (b ∷ w) → (x ≡ z) × (y ≡ w)
cut-alike b [] [] y w h k e = (refl, cc)
cut-alike b [] (a ∷ z) y w h k e = absurd (k.0 (cc))
cut-alike b (a ∷ x) [] y w h k e = absurd (h.0 (cc))
cut-alike b (a ∷ x) (d ∷ z) y w h k e = let r = cut-alike b x z y w h.1 k.1 (cc) in (cc r.0, r.1)

abbrev pub fields_on : List (List ℕ) → List ℕ → List ℕ
fields_on [] r = r
fields_on (f ∷ fs) r = f ++ (tab ∷ fields_on fs r)

pub fields-alike : (fs gs : List (List ℕ)) (r s : List ℕ) → length fs ≡ length gs → Each (Lacks tab) fs → Each (Lacks tab) gs
    → fields_on fs r ≡ fields_on gs s → (fs ≡ gs) × (r ≡ s)
fields-alike [] [] r s l h k e = (refl, e)
fields-alike [] (g ∷ gs) r s l h k e = absurd (omega arith)
fields-alike (f ∷ fs) [] r s l h k e = absurd (omega arith)
fields-alike (f ∷ fs) (g ∷ gs) r s l h k e =
    let one = cut-alike tab f g (fields_on fs r) (fields_on gs s) h.0 k.0 e in
    let others = fields-alike fs gs r s (omega arith) h.1 k.1 one.1 in
    (cc (one.0, others.0), others.1)

-- ---- the fields of a line

lacks-by : (b : ℕ) (f : List ℕ) → every (λ a. not (eqb a b)) f ≡ true → Lacks b f
lacks-by b [] ok = tt
lacks-by b (a ∷ f) ok = (
  (λ e. let z : false ≡ true = (let h = both_left (not (eqb a b)) (every (λ a. not (eqb a b)) f) ok in rw (eq-eqb a b e) at h) in
      let y : ◌≡◌ {A = ℕ} 0 1 = cc in omega arith),
  lacks-by b f (both_right (not (eqb a b)) (every (λ a. not (eqb a b)) f) ok),
)

digits-lack : (b : ℕ) → b < 48 → (f : List ℕ) → every is_digit f ≡ true → Lacks b f
digits-lack b low [] ok = tt
digits-lack b low (a ∷ f) ok = (
  (λ e. omega (arith, digit_low a (both_left (is_digit a) (every is_digit f) ok))),
  digits-lack b low f (both_right (is_digit a) (every is_digit f) ok),
)

pub decimal-lacks : (b : ℕ) → b < 48 → (n : ℕ) → Lacks b (decimal n)
decimal-lacks b low n = digits-lack b low (decimal n) (decimal-digits n)

pub word-lacks : (k : Kind) → Lacks tab (kind_word k)
word-lacks k = lacks-by tab (kind_word k) (every-kind (λ k. every (λ a. not (eqb a tab)) (kind_word k)) refl k)

-- their first letters tell them apart
abbrev letter : Kind → ℕ
letter k = get_or (kind_word k) 0 0

abbrev told-by-letter : Kind → Kind → Bool
told-by-letter k l = cond (eqb (letter k) (letter l)) (eqb (kind_number k) (kind_number l)) true

pub word-one : (k l : Kind) → kind_word k ≡ kind_word l → k ≡ l
word-one k l e =
    let told = every-kind (told-by-letter k) (every-kind (λ k. all_kinds (told-by-letter k)) refl k) l in
    let alike : eqb (letter k) (letter l) ≡ true = eq-eqb (letter k) (letter l) (ap (λ (w : List ℕ). get_or w 0 0) e) in
    kind-one k l (eqb-true (kind_number k) (kind_number l) (rw alike at told))

pub line-cut : (fs gs : List (List ℕ)) (n m : ℕ) (r s : List ℕ) → length fs ≡ length gs → Each (Lacks tab) fs → Each (Lacks tab) gs
    → fields_on fs (decimal n ++ (newline ∷ r)) ≡ fields_on gs (decimal m ++ (newline ∷ s)) → (fs ≡ gs) × (decimal n ≡ decimal m) × (r ≡ s)
line-cut fs gs n m r s l h k e =
    let before = fields-alike fs gs (decimal n ++ (newline ∷ r)) (decimal m ++ (newline ∷ s)) l h k e in
    let after = cut-alike newline (decimal n) (decimal m) r s (decimal-lacks newline (omega arith) n) (decimal-lacks newline (omega arith) m) before.1 in
    (before.0, after.0, after.1)

-- ---- the line of an entry

pub record Readable (e : Entry) : Type 0 where
  pub core-fits : e.core < 2 ^ 64
  pub task-plain : Lacks tab e.task
  pub budget-fits : e.budget < 2 ^ 64
  pub window-fits : e.window < 2 ^ 64
  pub jitter-fits : e.jitter < 2 ^ 64
  pub charged-fits : e.charged < 2 ^ 64

-- all its fields but the last, which a newline ends
abbrev front : Entry → List (List ℕ)
front e = bytes_of "piece" ∷ decimal e.core ∷ e.task ∷ kind_word e.kind ∷ decimal e.budget ∷ decimal e.window ∷ decimal e.jitter ∷ []

line-parts : (e : Entry) (r : List ℕ) → entry_line e ++ r ≡ fields_on (front e) (decimal e.charged ++ (newline ∷ r))
unfolding entry_line
line-parts e r = simp append_assoc

front-lacks : (e : Entry) → Readable e → Each (Lacks tab) (front e)
front-lacks e ok = (
  lacks-by tab (bytes_of "piece") refl,
  (digits e.core, (ok.task-plain, (word-lacks e.kind, (digits e.budget, (digits e.window, (digits e.jitter, tt)))))),
)
  where
    digits : (n : ℕ) → Lacks tab (decimal n)
    digits n = decimal-lacks tab (omega arith) n

line-alike : (e f : Entry) (r s : List ℕ) → Readable e → Readable f → entry_line e ++ r ≡ entry_line f ++ s → (e ≡ f) × (r ≡ s)
line-alike e f r s ok good same =
    let cut =
    line-cut (front e) (front f) e.charged f.charged r s refl (front-lacks e ok) (front-lacks f good)
    (sym (line-parts e r) ∙ (same ∙ line-parts f s)) in
    let core = decimal-one e.core f.core ok.core-fits good.core-fits (cc cut.0) in
    let task : e.task ≡ f.task = cc cut.0 in
    let kind = word-one e.kind f.kind (cc cut.0) in
    let budget = decimal-one e.budget f.budget ok.budget-fits good.budget-fits (cc cut.0) in
    let window = decimal-one e.window f.window ok.window-fits good.window-fits (cc cut.0) in
    let jitter = decimal-one e.jitter f.jitter ok.jitter-fits good.jitter-fits (cc cut.0) in
    let charged = decimal-one e.charged f.charged ok.charged-fits good.charged-fits cut.1 in
    let all : ◌≡◌ {A = Entry} (record {
      core = e.core;
      task = e.task;
      kind = e.kind;
      budget = e.budget;
      window = e.window;
      jitter = e.jitter;
      charged = e.charged;
    })
    (record { core = f.core; task = f.task; kind = f.kind; budget = f.budget; window = f.window; jitter = f.jitter; charged = f.charged }) = cc in
    (all, cut.2)

-- a line has bytes
line-some : (e : Entry) (r : List ℕ) → entry_line e ++ r ≡ [] → ⊥
line-some e r same = let parts = sym (line-parts e r) ∙ same in let z : ◌≡◌ {A = ℕ} 0 1 = cc in omega arith

pub lines-alike : (es fs : List Entry) → Each Readable es → Each Readable fs → entry_lines es ≡ entry_lines fs → es ≡ fs
lines-alike [] [] ok good same = refl
lines-alike [] (f ∷ fs) ok good same = absurd (line-some f (entry_lines fs) (sym same))
lines-alike (e ∷ es) [] ok good same = absurd (line-some e (entry_lines es) same)
lines-alike (e ∷ es) (f ∷ fs) ok good same =
    let one = line-alike e f (entry_lines es) (entry_lines fs) ok.0 good.0 same in
    cc (one.0, lines-alike es fs ok.1 good.1 one.1)

-- ---- the first line

abbrev head_front : ℕ → List (List ℕ)
head_front t = bytes_of "plan" ∷ decimal t ∷ []

head-parts : (t k : ℕ) (r : List ℕ) → header t k ++ r ≡ fields_on (head_front t) (decimal k ++ (newline ∷ r))
unfolding header
head-parts t k r = simp append_assoc

head-lacks : (t : ℕ) → Each (Lacks tab) (head_front t)
head-lacks t = (lacks-by tab (bytes_of "plan") refl, (decimal-lacks tab (omega arith) t, tt))

pub head-alike : (t k t' k' : ℕ) (r s : List ℕ) → header t k ++ r ≡ header t' k' ++ s → (decimal t ≡ decimal t') × (decimal k ≡ decimal k') × (r ≡ s)
head-alike t k t' k' r s same =
    let cut =
    line-cut (head_front t) (head_front t') k k' r s refl (head-lacks t) (head-lacks t') (sym (head-parts t k r) ∙ (same ∙ head-parts t' k' s)) in
    (cc cut.0, cut.1, cut.2)
