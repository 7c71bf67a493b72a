-- `release_sums::mark` meets its contract: before each turn the jobs released before l + at are marked, and one is released there.
use Prim.Native.Nat.{◌-◌}
use Rattle.verdicts.proofs.ReleaseSumLaws.{Marking}
use Rattle.verdicts.proofs.release_sums.mark.Given as goal

abbrev pub invariant-loop-at : goal.invariant-loop-at
invariant-loop-at l = Marking l.cost l.step l.l l.at l.initial.marks l.marks

abbrev pub decreases-loop-at : goal.decreases-loop-at
decreases-loop-at l = 1024 - l.at
