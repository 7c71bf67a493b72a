-- `slacks::seek` meets its contract: from `end` up no length is overloaded, and none has less slack than `best`, which is not above `end`. `end` falls.
use mathlib.Core.Path.{◌≡◌}
use Prim.Native.Nat.{◌+◌}
use Rattle.demand.specs.Demand.{demand}
use Rattle.verdicts.specs.Ways.SlackHunt.{Quiet, Leads}
use Rattle.verdicts.proofs.slacks.seek.Given as goal

abbrev pub invariant-loop-end : goal.invariant-loop-end
invariant-loop-end l = Leads (demand l.core.stall l.core.pieces.now) l.a l.l l.best.length l.end
    × Quiet (demand l.core.stall l.core.pieces.now) l.end (l.a + l.l) × (l.best.demand ≡ demand l.core.stall l.core.pieces.now l.best.length)

abbrev pub decreases-loop-end : goal.decreases-loop-end
decreases-loop-end l = l.end
