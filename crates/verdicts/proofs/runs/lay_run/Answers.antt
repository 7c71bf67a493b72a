-- `runs::lay_run` meets its contract: the records as a core.
use Rattle.demand.proofs.RunLaws.{taken-check}
use Rattle.verdicts.proofs.LaidRunLaws.{lays-out}
use Rattle.verdicts.proofs.runs.lay_run.Goals as goal

pub returns : goal.returns
returns c = lays-out c.args.costs c.args.records.now _ (taken-check _ _ _ c.requires) c.lay_records.ensures.exact c.stall_of.ensures.exact
