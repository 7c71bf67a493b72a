-- `split_search::window_below` meets its contract: a first piece without a budget lies behind, and the base is the stall and its charge.
use mathlib.Core.Path.{refl, ap, ◌∙◌}
use Prim.Native.Nat.{◌+◌}
use Rattle.demand.specs.declared.Charged.{Charged}
use Rattle.splits.proofs.BenchLaws.{first-behind}
use Rattle.splits.proofs.SkipLaws.{misses-lowered}
use Rattle.splits.proofs.split_search.window_below.Goals as goal

pub returns : goal.returns
returns c =
    let s = c.args in
    let g = s.given in
    let qs = s.bench.now.core in
    let q = c.first-q.result in
    let laid = c.both-both.ensures.exact ∙ first-behind g.costs qs g.task 0 0 c.put.new.self c.put.ensures.core (c.put.ensures.tried ∙ c.first-q.ensures.exact) in (
      misses-lowered g.costs qs g.task (c.stall.result + q.charge) c.stall.result q.charge refl c.stall.ensures.exact (ap (λ (r : Charged). r.charge) c.first-q.ensures.exact)
          c.both-both.result laid s.top s.x c.lowered.result c.requires.0 c.lowered.ensures,
      c.put.ensures.core,
    )
