-- Laws of lists in arrays, and of the part of a name.
-- Assumes nothing.
--
--   held_is, put-on           what a list in its array holds; one more
--   found-none, found-some    the part of a name is the first that has it
use mathlib.Core.Path.{◌≡◌, refl}
use mathlib.Core.Bool.{Bool, true, false, cond}
use mathlib.Core.List.{List, [], ◌∷◌, ◌++◌}
use Prim.Native.Nat.{ℕ, ◌+◌, ◌≤◌, ◌<◌}
use native.Mathlib.Omega.{arith}
use borrow.Author.Tests.{ne_eqb}
use lib.Dec.{eqb}
use lib.ListN.{length, take, set, length-append}
use Rattle.std.proofs.Common.{Some, None}
use Rattle.std.specs.List.{find}
use Rattle.demand.specs.Lists.{padded}
use Rattle.demand.proofs.PaddedLaws.{padded-take, padded-put, padded-length}
use Rattle.task.specs.declared.Name.{Name}
use Rattle.task.specs.declared.Part.{Part}
use Rattle.task.specs.Names.{same_name}
use Rattle.task.specs.Tasks.{tasks_most, part_place}
use Rattle.sheet.specs.declared.drafts.Listed.{Listed}
use Rattle.sheet.specs.Sheet.{part_named}
use Rattle.sheet.specs.Ways.ReaderHolds.{list_in}

module _ {A : Type 0} (z : A) (q : Listed A) (xs : List A) (kept : q ≡ list_in z xs) where
  pub held_is : length xs ≤ tasks_most → take q.count q.list ≡ xs
  held_is few = rw kept (padded-take z tasks_most xs few)

  pub list-long : length q.list ≡ tasks_most
  list-long = rw kept (padded-length z tasks_most xs)

  pub put-on : (n : ℕ) (l : List A) (x : A) → length xs < tasks_most → n ≡ q.count + 1 → l ≡ set q.list q.count x
      → ◌≡◌ {A = Listed A} (record { count = n; list = l }) (list_in z (xs ++ (x ∷ [])))
  put-on n l x space more put =
      let long : length (xs ++ (x ∷ [])) ≡ q.count + 1 = rw (kept, length-append) in
      let there : set q.list q.count x ≡ padded tasks_most z (xs ++ (x ∷ [])) = rw kept (padded-put z tasks_most xs x space) in
      cc

-- ---- the part of a name, as the search finds it

module _ (n : Name) where
  abbrev pub has_name : Part → Bool
  has_name p = same_name n p.name

  pub found-none : (k : ℕ) (ps : List Part) → find has_name ps ≡ None → part_place k n ps ≡ 0
  found-none k [] e = refl
  found-none k (q ∷ ps) e = by (same_name n q.name) (λ h. found-none (k + 1) ps h) e
    where
      by : (t : Bool) → (find has_name ps ≡ None → part_place (k + 1) n ps ≡ 0) → cond t (Some q) (find has_name ps) ≡ None
          → cond t k (part_place (k + 1) n ps) ≡ 0
      by true h e = absurd (let z : ◌≡◌ {A = ℕ} 0 1 = cc in omega arith)
      by false h e = h e

  pub found-some : (k : ℕ) (ps : List Part) (p : Part) → 1 ≤ k → find has_name ps ≡ Some p → (eqb (part_place k n ps) 0 ≡ false) × (part_named n ps ≡ p)
  found-some k [] p pos e = absurd (let z : ◌≡◌ {A = ℕ} 0 1 = cc in omega arith)
  found-some k (q ∷ ps) p pos e = by (same_name n q.name) (λ h. found-some (k + 1) ps p (omega arith) h) e
    where
      by : (t : Bool) → (find has_name ps ≡ Some p → (eqb (part_place (k + 1) n ps) 0 ≡ false) × (part_named n ps ≡ p))
          → cond t (Some q) (find has_name ps) ≡ Some p
          → (eqb (cond t k (part_place (k + 1) n ps)) 0 ≡ false) × (cond t q (part_named n ps) ≡ p)
      by true h e = (ne_eqb k 0 (λ z. omega arith), cc)
      by false h e = h e
