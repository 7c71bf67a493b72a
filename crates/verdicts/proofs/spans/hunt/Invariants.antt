-- `spans::hunt` meets its contract: from `end` up nothing is overloaded with the bar; a step goes down to the demand and the bar, but not past the largest window. `end` falls.
use Prim.Native.Nat.{◌≤◌, ◌+◌}
use Rattle.demand.specs.Demand.{demand}
use Rattle.verdicts.specs.Ways.SlackHunt.{raised, Quiet}
use Rattle.verdicts.proofs.spans.hunt.Given as goal

abbrev pub invariant-loop-end : goal.invariant-loop-end
invariant-loop-end l = (l.end ≤ l.a + l.l) × Quiet (raised (demand l.core.stall l.core.pieces.now) l.bar) l.end (l.a + l.l)

abbrev pub decreases-loop-end : goal.decreases-loop-end
decreases-loop-end l = l.end
