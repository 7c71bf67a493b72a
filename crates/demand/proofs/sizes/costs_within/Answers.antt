-- `costs_within` meets its contract: a test that tells the rule is the definition's.
use Rattle.demand.proofs.SizeLaws.{sized-costs-is}
use Rattle.demand.proofs.sizes.costs_within.Goals as goal

pub returns : goal.returns
returns c = record { exact = sized-costs-is c.args.costs c.sized_costs.result c.sized_costs.ensures }
