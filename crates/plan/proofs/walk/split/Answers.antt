-- `walk::split` meets its contract: records within the sizes are not refused.
use Rattle.plan.proofs.JudgeLaws.{told-split}
use Rattle.plan.proofs.walk.split.Goals as goal

pub returns : goal.returns
returns c =
    let s = c.args in
    rw (c.split_records.ensures.exact, told-split s.costs s.records.now s.whole s.grain c.requires) at c.unwrap_or.ensures
