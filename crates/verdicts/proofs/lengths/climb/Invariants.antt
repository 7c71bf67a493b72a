-- `lengths::climb` meets its contract: nothing below l holds, and each step goes on to what is asked there. What is left to the top falls.
use Prim.Native.Nat.{◌≤◌, ◌-◌}
use Rattle.demand.specs.Busy.{Clear}
use Rattle.verdicts.proofs.CoreLaws.{asked}
use Rattle.verdicts.proofs.lengths.climb.Given as goal

abbrev pub invariant-loop-l : goal.invariant-loop-l
invariant-loop-l l = (1 ≤ l.l) × Clear (asked l.sum l.base l.core) l.l

abbrev pub decreases-loop-l : goal.decreases-loop-l
decreases-loop-l l = 100000001 - l.l
