-- `busy_climb::climb_far` meets its contract: nothing below l holds the busy sum. What is left to the limit, in parts of 256, falls.
use Prim.Native.Nat.{◌≤◌, ◌-◌, ◌/◌}
use Rattle.demand.specs.Busy.{busy_sum, Clear}
use Rattle.verdicts.proofs.busy_climb.climb_far.Given as goal

abbrev pub invariant-loop-l : goal.invariant-loop-l
invariant-loop-l l = (1 ≤ l.l) × Clear (busy_sum l.core) l.l × (l.ahead ≤ 500000000000000000)

abbrev pub decreases-loop-l : goal.decreases-loop-l
decreases-loop-l l = (100000256 - l.l) / 256
