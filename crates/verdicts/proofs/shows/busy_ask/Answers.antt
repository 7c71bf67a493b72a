-- `shows::busy_ask` meets its contract: the products fit.
use Rattle.demand.specs.Why.{busy_ask}
use Rattle.verdicts.proofs.shows.busy_ask.Goals as goal

pub returns : goal.returns
unfolding busy_ask
returns c =
    rw c.ceil_div-jobs.ensures.0
