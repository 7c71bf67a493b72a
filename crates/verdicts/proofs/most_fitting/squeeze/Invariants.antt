-- `most_fitting::squeeze` meets its contract: what is left of f fits from the end up, and is no less than any that fits in the whole span. The end or the charge falls.
use Prim.Native.Nat.{◌≤◌, ◌+◌}
use Rattle.verdicts.specs.Ways.ChargeWalk.{Stands}
use Rattle.verdicts.proofs.MostFittingLaws.{Passed}
use Rattle.verdicts.proofs.most_fitting.squeeze.Given as goal

abbrev pub invariant-loop-s : goal.invariant-loop-s
invariant-loop-s l =
    (l.s.end ≤ l.a + l.l) × Stands l.core.stall l.core.pieces.now l.q l.a l.s × Passed l.core.stall l.core.pieces.now l.q l.f l.a l.s.end (l.a + l.l) l.s.charge

abbrev pub decreases-loop-s : goal.decreases-loop-s
decreases-loop-s l = l.s.end + l.s.charge
