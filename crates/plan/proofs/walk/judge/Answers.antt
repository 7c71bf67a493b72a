-- `walk::judge` meets its contract: records within the sizes are judged and not refused.
use Rattle.plan.proofs.JudgeLaws.{judged}
use Rattle.plan.proofs.walk.judge.Goals as goal

pub returns : goal.returns
returns c = rw (c.judge_records.ensures.exact, judged c.args.costs c.args.records.now c.requires) at c.unwrap_or.ensures
