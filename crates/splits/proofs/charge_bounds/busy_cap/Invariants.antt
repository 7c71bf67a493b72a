-- `charge_bounds::busy_cap` meets its contract: from the high end on no charge leaves a busy length. The gap between the ends shrinks.
use Rattle.std.proofs.Common.{◌≡◌, ◌-◌, ◌<◌}
use Rattle.splits.specs.Ways.ChargeBounds.{Unsettled}
use Rattle.splits.specs.Ways.MonotoneSearch.{Lowered}
use Rattle.splits.proofs.charge_bounds.busy_cap.Given as goal

abbrev pub invariant-loop-low : goal.invariant-loop-low
invariant-loop-low l = (l.bench.core ≡ l.initial.bench.core) × (l.low < l.high) × Lowered (Unsettled l.initial.bench.core l.q) l.q.charge l.high

abbrev pub decreases-loop-low : goal.decreases-loop-low
decreases-loop-low l = l.high - l.low
