-- `shows::due_ask` meets its contract: the product fits.
use Rattle.demand.specs.Why.{due_ask}
use Rattle.verdicts.proofs.shows.due_ask.Goals as goal

pub returns : goal.returns
unfolding due_ask
returns c =
    rw (c.jobs_due-jobs.ensures.0, c.interrupts_of-calls.ensures.0)
