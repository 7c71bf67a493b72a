-- `charges::charged_of` meets its contract: field by field.
use Rattle.demand.specs.Charge.{charged, ipi_cost}
use Rattle.demand.proofs.charges.charged_of.Goals as goal

pub returns : goal.returns
unfolding charged ipi_cost
returns c = cc
