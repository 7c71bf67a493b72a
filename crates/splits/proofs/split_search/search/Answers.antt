-- `split_search::search` meets its contract: above k grains no candidate fits, and the core is as it was. k falls.
use mathlib.Core.Path.{refl, subst, ◌∙◌}
use mathlib.Core.List.{List}
use Prim.Native.Nat.{◌*◌}
use Rattle.demand.specs.declared.Charged.{Charged}
use Rattle.splits.specs.declared.split_search.Step.{Step}
use Rattle.splits.specs.Ways.SplitSearch.{Steps}
use Rattle.splits.proofs.SplitSearchLaws.{none-start}
use Rattle.demand.proofs.ChargedSplitLaws.{none-next, next-below, start-below}
use Rattle.splits.proofs.split_search.search.Goals as goal

pub loop-k-init : goal.loop-k-init
loop-k-init c =
    let s = c.args in
    let g = s.given in (
      refl,
      start-below s.grain g.task c.requires.grain s.top c.requires.starts.0,
      none-start s.grain g.task c.requires.grain g.costs s.bench.now.core s.top c.requires.starts,
    )

pub loop-k-preserved : goal.loop-k-preserved
loop-k-preserved c =
    let s = c.args in
    let g = s.given in
    let qs = s.bench.now.core in
    let loop = c.loop-k in
    let x = loop.k * s.grain in
    let steps = subst (λ (rs : List Charged). Steps g.costs rs g.task x c.try_split.result) loop.invariant.0 c.try_split.ensures.0 in
    let step = subst (λ (r : Step). Steps g.costs qs g.task x r) c.in-Below.is steps in (
      c.try_split.ensures.1 ∙ loop.invariant.0,
      next-below s.grain g.task c.requires.grain loop.k c.in-Below.y step.0 loop.invariant.1,
      none-next s.grain g.task c.requires.grain g.costs qs x c.in-Below.y loop.invariant.2 step,
    )
