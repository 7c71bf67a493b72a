-- How much a piece q may be charged beside the core qs with the stall b: the greatest charge that fits in a span, by what it means (`Squeezed`) and as a function
-- that computes (`most_fitting`). `proofs/MostFittingLaws.antt` has that the first has one answer and the second gives it.
--
--   beside b qs q f u     the demand at u of qs and of q charged f, where the blocking is that of qs alone
--   FitsIn b qs q f a e   q charged f fits at every length from a, below e
--   Squeezed b qs q f a e r   r is the greatest charge up to f that fits from a, below e, or 0
--   most_fitting b qs q a l f  that charge, for the l lengths from a
use Rattle.std.specs.Prelude.{Bool, true, false, List, ℕ, ◌+◌, ◌*◌, ◌≤◌, ◌<◌, zero, suc, ltb}
use Rattle.demand.specs.declared.Charged.{Charged}
use Rattle.demand.specs.Demand.{jobs_due, interrupts, demand}

unfoldable pub beside : ℕ → List Charged → Charged → ℕ → ℕ → ℕ
beside b qs q f u = demand b qs u + interrupts q u + jobs_due q u * f

abbrev pub FitsIn : ℕ → List Charged → Charged → ℕ → ℕ → ℕ → Type 0
FitsIn b qs q f a e = (u : ℕ) → a ≤ u → u < e → beside b qs q f u ≤ u

pub record Squeezed (b : ℕ) (qs : List Charged) (q : Charged) (f a e r : ℕ) : Type 0 where
  pub most : r ≤ f
  pub fits : 1 ≤ r → FitsIn b qs q r a e
  pub greatest : (y : ℕ) → y ≤ f → FitsIn b qs q y a e → y ≤ r

-- whether f fits at the k lengths from a
abbrev pub all_fit : ℕ → List Charged → Charged → ℕ → ℕ → ℕ → Bool
all_fit b qs q f a zero = true
all_fit b qs q f a (suc k) = elim (ltb (a + k) (beside b qs q f (a + k))) [ true ↦ false | false ↦ all_fit b qs q f a k ]

-- from f down
unfoldable pub most_fitting : ℕ → List Charged → Charged → ℕ → ℕ → ℕ → ℕ
most_fitting b qs q a l zero = 0
most_fitting b qs q a l (suc f) = elim (all_fit b qs q (suc f) a l) [ true ↦ suc f | false ↦ most_fitting b qs q a l f ]
