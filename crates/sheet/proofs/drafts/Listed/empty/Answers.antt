-- `drafts::Listed::empty` meets its contract: each place holds the same.
-- Assumes nothing.
use Rattle.task.specs.Tasks.{tasks_most}
use Rattle.demand.proofs.PaddedLaws.{padded-none}
use Rattle.sheet.proofs.drafts.Listed.empty.Goals as goal

pub returns : goal.returns
returns g c = rw (padded-none c.args.none tasks_most)
