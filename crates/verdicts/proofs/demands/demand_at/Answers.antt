-- `demands::demand_at` meets its contract: it is the definition's sum.
use Rattle.demand.specs.Demand.{demand}
use Rattle.verdicts.proofs.demands.demand_at.Goals as goal

pub returns : goal.returns
unfolding demand
returns c = cc (c.blocking_at.ensures.0, c.sum_at.ensures.0)
