-- What probing for an end promises. It is a way and no meaning; the laws are in `proofs/MonotoneSearchLaws.antt`.
--
--   ShowsIf P r                an answer of true shows P
--   NoneHolds qs base top m    no length up to the top holds the base, m and the interrupts of the pieces qs
--   Lowered P top r            r is the top, or below it with P
use Rattle.std.specs.Prelude.{Bool, true, false, List, ◌⊎◌, ◌≡◌, ℕ, ◌+◌, ◌≤◌}
use Rattle.demand.specs.declared.Charged.{Charged}
use Rattle.verdicts.specs.declared.Sum.TheVariants.{Interrupts}
use Rattle.demand.specs.Busy.{Holds}
use Rattle.demand.specs.Demand.{total}
use Rattle.verdicts.specs.Laid.{term}

abbrev pub ShowsIf : Type 0 → Bool → Type 0
ShowsIf P true = P
ShowsIf P false = Unit {0}

abbrev pub NoneHolds : List Charged → ℕ → ℕ → ℕ → Type 0
NoneHolds qs base top m = (t : ℕ) → t ≤ top → Holds (λ u. base + m + total (term Interrupts u) qs) t → ⊥

pub record Lowered (P : ℕ → Type 0) (top r : ℕ) : Type 0 where
  pub most : r ≤ top
  pub some : 1 ≤ top → 1 ≤ r
  pub told : (r ≡ top) ⊎ P r
