-- `walk::land` meets its contract: while the task is not placed the core moves on and what was placed stays; each way out is one of the four rules.
use Rattle.plan.proofs.GoingLaws.{Trying}
use Rattle.plan.proofs.walk.land.Given as goal

abbrev pub invariant-loop-core : goal.invariant-loop-core
invariant-loop-core l = Trying l.machine.cores l.costs l.machine.grain l.whole l.initial.placed l.fn.going l.core l.row l.placed
