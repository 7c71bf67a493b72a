-- `split_search::search` meets its contract: above k grains no candidate fits, and the core is as it was. k falls.
use Rattle.std.proofs.Common.{◌≡◌, ◌*◌, ◌<◌}
use Rattle.demand.specs.Ways.ChargedSplit.{NoneAbove}
use Rattle.splits.proofs.split_search.search.Given as goal

abbrev pub invariant-loop-k : goal.invariant-loop-k
invariant-loop-k l = (l.bench.core ≡ l.initial.bench.core) × (l.k * l.grain < l.given.task.budget) × NoneAbove l.given.costs l.grain l.initial.bench.core l.given.task (l.k * l.grain)

abbrev pub decreases-loop-k : goal.decreases-loop-k
decreases-loop-k l = l.k
