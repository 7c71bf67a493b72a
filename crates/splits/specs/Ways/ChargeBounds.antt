-- What the functions that bound a charge promise one another. It is a way and no meaning; the laws are in `proofs/ChargeBoundLaws.antt`.
--
--   with_charge q f        q with another charge
--   FitsFrom b qs q f a    q charged f fits beside the core qs at every length from a on
--   Caps b qs q f a r     no charge up to f that fits from a on is above r
--   Stalled b qs q t r    r is below q's charge, and no charge between them fits at t where the stall counts
--   Settles qs q f        with q charged f the core qs has a busy length
--   Unsettled qs q f      it has none with f or more
--   Bounds b qs q r       what the core qs with q behind tells
use Rattle.std.specs.Prelude.{◌≡◌, List, [], ◌∷◌, ◌++◌, ℕ, ◌+◌, ◌*◌, ◌≤◌, ◌<◌}
use Rattle.demand.specs.declared.Charged.{Charged}
use Rattle.splits.specs.declared.charge_bounds.Bound.{Bound}
use Rattle.splits.specs.declared.charge_bounds.Bound.TheVariants.{Stands, Falls, AtMost}
use Rattle.demand.specs.declared.Verdict.TheVariants.{Passes}
use Rattle.demand.specs.Sizes.{time_most, busy_most}
use Rattle.demand.specs.Demand.{ceil, total, jobs_due, interrupts, load, least_live}
use Rattle.demand.specs.Busy.{busy_sum}
use Rattle.demand.specs.Verdict.{verdict}
use Rattle.verdicts.specs.MostFitting.{beside}

abbrev pub with_charge : Charged → ℕ → Charged
with_charge q f = record q { charge = f }

abbrev pub FitsFrom : ℕ → List Charged → Charged → ℕ → ℕ → Type 0
FitsFrom b qs q f a = (u : ℕ) → a ≤ u → beside b qs q f u ≤ u

pub record Caps (b : ℕ) (qs : List Charged) (q : Charged) (f a r : ℕ) : Type 0 where
  pub most : r ≤ f
  pub caps : (y : ℕ) → y ≤ f → FitsFrom b qs q y a → y ≤ r

pub record Stalled (b : ℕ) (qs : List Charged) (q : Charged) (t r : ℕ) : Type 0 where
  pub less : r < q.charge
  pub caps : (y : ℕ) → y < q.charge → b + total (load t) qs + interrupts q t + jobs_due q t * y ≤ t → y ≤ r

pub record Settles (qs : List Charged) (q : Charged) (f : ℕ) : Type 0 where
  pub at : ℕ
  pub some : 1 ≤ at
  pub within : at ≤ busy_most
  pub fits : busy_sum qs at + ceil at q.period * (f + q.release + q.ipi) ≤ at

abbrev pub Unsettled : List Charged → Charged → ℕ → Type 0
Unsettled qs q f = (y : ℕ) → f ≤ y → Settles qs q y → ⊥

abbrev pub Bounds : ℕ → List Charged → Charged → Bound → Type 0
Bounds b qs q Stands = verdict b (qs ++ (q ∷ [])) ≡ Passes
Bounds b qs q (Falls t) = (verdict b (qs ++ (q ∷ [])) ≡ Passes → ⊥) × (least_live (qs ++ (q ∷ [])) ≤ t) × (t ≤ time_most)
Bounds b qs q (AtMost f) = (f < q.charge) × ((y : ℕ) → y ≤ q.charge → FitsFrom b qs q y (least_live (qs ++ (q ∷ []))) → Settles qs q y → y ≤ f)
