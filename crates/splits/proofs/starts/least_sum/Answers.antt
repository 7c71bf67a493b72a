-- `starts::least_sum` meets its contract: the stall, the charge of a first piece without a budget, and all interrupts within length 1.
use mathlib.Core.Path.{ap, ◌∙◌}
use native.Mathlib.Omega.{arith}
use Rattle.demand.specs.declared.Charged.{Charged}
use Rattle.splits.proofs.BenchLaws.{first-behind}
use Rattle.splits.proofs.SplitSearchLaws.{least-is}
use Rattle.splits.proofs.starts.least_sum.Goals as goal

pub returns : goal.returns
returns c =
    let s = c.args in
    let g = s.given in
    let laid = c.both.ensures.exact ∙ first-behind g.costs s.bench.now.core g.task 0 0 c.put.new.self c.put.ensures.core (c.put.ensures.tried ∙ c.first-q.ensures.exact) in
    let calls = c.sum.ensures.within (omega arith) in (
      least-is g.costs s.bench.now.core g.task c.stall.result c.first-q.result.charge c.sum.result
          c.stall.ensures.exact (ap (λ (q : Charged). q.charge) c.first-q.ensures.exact) (rw laid at calls.0),
      omega (arith, c.first-q.ensures.ranged.charge-fits, c.stall.ensures.within, calls.1),
      c.put.ensures.core,
    )
