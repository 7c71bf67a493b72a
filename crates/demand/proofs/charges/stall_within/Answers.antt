-- `charges::stall_within` meets its contract: the greater of the two.
use Rattle.demand.specs.Charge.{stall}
use Rattle.demand.proofs.charges.stall_within.Goals as goal

pub returns : goal.returns
unfolding stall
returns c = c.max.ensures
