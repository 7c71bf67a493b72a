-- What the functions of the split search promise one another, over the charged pieces qs of a core. It is a way and no meaning: what a
-- split means stands in `specs/Split.antt`, and `proofs/SplitSearchLaws.antt` leads from here to there.
--
--   Steps c qs p x s       what one candidate told: it fits, or none from it down to above y does
--   Misses c qs p e r x    each budget between r and x has the t of its tight window, if any, above e
--   Skips c qs p r x       no budget between r and x fits
--   Hopeless c p x w s     no last piece of y ≤ x passes alone, while its window is longer by no more than x - y and s
--   LastBounds c p x w r   what the last piece of x told
--   Ends c qs p e          the t of each allowed split's tight window is below e
--   Starts c qs p r        no split above r is allowed
use Rattle.std.specs.Prelude.{◌≡◌, List, ℕ, ◌+◌, ◌-◌, ◌≤◌, ◌<◌}
use Rattle.demand.specs.declared.Piece.{Piece}
use Rattle.demand.specs.declared.Costs.{Costs}
use Rattle.demand.specs.declared.Charged.{Charged}
use Rattle.demand.specs.declared.Verdict.TheVariants.{Passes}
use Rattle.splits.specs.declared.charge_bounds.Bound.{Bound}
use Rattle.splits.specs.declared.charge_bounds.Bound.TheVariants.{Stands, Falls, AtMost}
use Rattle.splits.specs.declared.split_search.Step.{Step}
use Rattle.splits.specs.declared.split_search.Step.TheVariants.{Done, Below}
use Rattle.demand.specs.Charge.{stall}
use Rattle.demand.specs.Verdict.{verdict}
use Rattle.demand.specs.Ways.ChargedSplit.{last_alone, Tight, Fits, NoneBetween}

abbrev pub Steps : Costs → List Charged → Piece → ℕ → Step → Type 0
Steps c qs p x (Done w) = (t : ℕ) × Fits c qs p x t × (w ≡ p.jitter + t)
Steps c qs p x (Below y) = NoneBetween c qs p y x

abbrev pub Misses : Costs → List Charged → Piece → ℕ → ℕ → ℕ → Type 0
Misses c qs p e r x = (r < x) × ((z u : ℕ) → r < z → z < x → Tight c qs p z u → e < u)

abbrev pub Skips : Costs → List Charged → Piece → ℕ → ℕ → Type 0
Skips c qs p r x = (r < x) × ((z u : ℕ) → r < z → z < x → Fits c qs p z u → ⊥)

abbrev pub Hopeless : Costs → Piece → ℕ → ℕ → ℕ → Type 0
Hopeless c p x w s = (y v : ℕ) → y ≤ x → v ≤ w → w ≤ v + (x - y) + s → verdict (stall c) (last_alone c p y v) ≡ Passes → ⊥

abbrev pub LastBounds : Costs → Piece → ℕ → ℕ → Bound → Type 0
LastBounds c p x w Stands = verdict (stall c) (last_alone c p x w) ≡ Passes
LastBounds c p x w (Falls s) = Hopeless c p x w s
LastBounds c p x w (AtMost f) = (f < x) × ((y v : ℕ) → y ≤ x → verdict (stall c) (last_alone c p y v) ≡ Passes → ⊥)

abbrev pub Ends : Costs → List Charged → Piece → ℕ → Type 0
Ends c qs p e = (x t : ℕ) → 1 ≤ x → Fits c qs p x t → t < e

abbrev pub Starts : Costs → List Charged → Piece → ℕ → Type 0
Starts c qs p r = (r < p.budget) × ((z u : ℕ) → r < z → z < p.budget → Fits c qs p z u → ⊥)
