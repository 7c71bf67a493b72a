-- `monotone_search::lowered` meets its contract: the high end is the top or refused. The gap between the ends shrinks.
use Rattle.std.proofs.Common.{true, ◌-◌, ◌≤◌}
use Rattle.demand.specs.Sizes.{time_most}
use Rattle.splits.specs.Ways.MonotoneSearch.{Lowered}
use Rattle.splits.proofs.monotone_search.lowered.Given as goal

abbrev pub invariant-loop-low : goal.invariant-loop-low
invariant-loop-low g l = (l.from ≤ l.low) × (l.low ≤ time_most) × Lowered (λ m. goal.F-post g l.refused m true) l.top l.high

abbrev pub decreases-loop-low : goal.decreases-loop-low
decreases-loop-low g l = l.high - l.low
