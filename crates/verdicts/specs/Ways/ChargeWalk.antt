-- What the steps of the walk that lowers a charge promise one another. It is a way and no meaning; the laws are in `proofs/MostFittingLaws.antt`.
--
--   FitsInto f n m r       r is the greatest charge up to f of which n fit into m
--   Levels b qs q f t v   what the length t told: v's charge is the greatest up to f that fits at t, or 0; v's rest and jobs are what is asked for
--   last_below f end       the walk with the charge f that looks at the last length below the end
--   Stands b qs q a s     what the walk s knows of its next look: it is from a on and below its end; before the last length, what is asked for at the last
--   Lowers b qs q a s r   what a look leaves of the walk s: r's charge is what some length left of s's, and fits from r's end to s's
use Rattle.std.specs.Prelude.{◌≡◌, List, ℕ, ◌+◌, ◌*◌, ◌-◌, ◌≤◌, ◌<◌}
use Rattle.demand.specs.declared.Charged.{Charged}
use Rattle.verdicts.specs.declared.most_fitting.Lowering.{Lowering}
use Rattle.verdicts.specs.MostFitting.{beside, FitsIn}
use Rattle.verdicts.specs.declared.most_fitting.Look.{Look}

pub record FitsInto (f jobs room r : ℕ) : Type 0 where
  pub most : r ≤ f
  pub fits : jobs * r ≤ room
  pub greatest : (y : ℕ) → y ≤ f → jobs * y ≤ room → y ≤ r

pub record Levels (b : ℕ) (qs : List Charged) (q : Charged) (f t : ℕ) (v : Look) : Type 0 where
  pub most : v.charge ≤ f
  pub caps : (y : ℕ) → y ≤ f → beside b qs q y t ≤ t → y ≤ v.charge
  pub fits : v.rest + v.jobs * v.charge ≤ t
  pub asks : 1 ≤ v.charge → (y : ℕ) → beside b qs q y t ≡ v.rest + v.jobs * y

abbrev pub last_below : ℕ → ℕ → Lowering
last_below f end = record { charge = f; end = end; look = end - 1; rest = 0; jobs = 0 }

pub record Stands (b : ℕ) (qs : List Charged) (q : Charged) (a : ℕ) (s : Lowering) : Type 0 where
  pub within : a < s.end → (a ≤ s.look) × (s.look < s.end)
  pub asks : s.look < s.end - 1 → (y : ℕ) → beside b qs q y (s.end - 1) ≡ s.rest + s.jobs * y
  pub fits : s.look < s.end - 1 → s.rest + s.jobs * s.charge ≤ s.end - 1

pub record Lowers (b : ℕ) (qs : List Charged) (q : Charged) (a : ℕ) (s r : Lowering) : Type 0 where
  pub most : r.charge ≤ s.charge
  pub caps : (y : ℕ) → y ≤ s.charge → FitsIn b qs q y a s.end → y ≤ r.charge
  pub calm : 1 ≤ r.charge → FitsIn b qs q r.charge r.end s.end
  pub down : r.end ≤ s.end
  pub less : r.end + r.charge < s.end + s.charge
  pub stands : Stands b qs q a r
