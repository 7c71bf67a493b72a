-- `walk::walk_over` meets its contract: after i turns the code stands where the walk over the first i places does.
use Rattle.std.proofs.Common.{take}
use Rattle.walks.specs.Way.{walk_over}
use Rattle.plan.specs.Walk.{place_way}
use Rattle.plan.proofs.OverLaws.{Walking}
use Rattle.plan.proofs.walk.walk_over.Given as goal

abbrev pub invariant-loop-k : goal.invariant-loop-k
invariant-loop-k l = Walking l.placed l.going (walk_over (place_way l.machine l.costs l.tasks) (take l.k-index l.order))
