-- `busy_climb::climb_busy` meets its contract: nothing below l holds the busy sum, and each step goes on to what is asked there or to the reach of its pass,
-- whichever is more. What is left of the plain steps falls.
use Prim.Native.Nat.{◌≤◌}
use Rattle.demand.specs.Busy.{busy_sum, Clear}
use Rattle.verdicts.proofs.busy_climb.climb_busy.Given as goal

abbrev pub invariant-loop : goal.invariant-loop
invariant-loop l = (1 ≤ l.l) × Clear (busy_sum l.core) l.l × (l.ahead ≤ 200000000)
