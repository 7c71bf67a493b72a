-- `most_fitting::level_at` meets its contract: more than the length is asked for already, or the rest of it holds so many charges.
use native.Mathlib.Omega.{arith}
use Rattle.verdicts.proofs.MostFittingLaws.{level-over, level-calls, level-fits}
use Rattle.verdicts.proofs.most_fitting.level_at.Goals as goal

pub returns-then-t-g : goal.returns-then-t-g
returns-then-t-g c =
    let s = c.args in
    level-over s.core.now.stall s.core.now.pieces.now s.q s.f s.t c.demand_at-g.result c.demand_at-g.ensures c.if-t-g.true

pub returns-then-t-g-2 : goal.returns-then-t-g-2
returns-then-t-g-2 c =
    let s = c.args in
    level-calls s.core.now.stall s.core.now.pieces.now s.q s.f s.t c.demand_at-g.result c.interrupts_of-calls.result
    c.demand_at-g.ensures c.interrupts_of-calls.ensures.0 (omega arith) c.if-t-g-2.true

pub returns : goal.returns
returns c =
    let s = c.args in
    level-fits s.core.now.stall s.core.now.pieces.now s.q s.f s.t c.demand_at-g.result c.interrupts_of-calls.result
    c.jobs_due-jobs.result c.demand_at-g.ensures c.interrupts_of-calls.ensures.0 c.jobs_due-jobs.ensures.0 (omega arith)
    (omega arith) c.fitting-y.result c.fitting-y.ensures
