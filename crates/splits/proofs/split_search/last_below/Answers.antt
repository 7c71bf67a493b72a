-- `split_search::last_below` meets its contract: past the end all but s of the interrupts have come, and before it no budget between has its tight window.
use mathlib.Core.Path.{◌≡◌, subst, ◌∙◌}
use mathlib.Core.List.{List}
use Prim.Native.Nat.{ℕ, ◌-◌}
use native.Mathlib.Omega.{arith}
use Rattle.demand.specs.declared.Charged.{Charged}
use Rattle.demand.specs.Ways.ChargedSplit.{Tight}
use Rattle.splits.specs.Ways.SplitSearch.{Misses}
use Rattle.splits.proofs.BenchLaws.{first-behind}
use Rattle.splits.proofs.SkipLaws.{skips-last}
use Rattle.splits.proofs.split_search.last_below.Goals as goal

pub returns : goal.returns
returns c =
    let s = c.args in
    let g = s.given in
    let qs = s.bench.now.core in
    let found = c.requires.tight in
    let t = s.w - g.task.jitter in
    let e : found.0 ≡ t = omega (arith, found.3) in
    let tight = subst (λ (u : ℕ). Tight g.costs qs g.task s.x u) e found.1 in
    let laid = c.both-both.ensures.exact ∙ first-behind g.costs qs g.task 0 0 c.put.new.self c.put.ensures.core (c.put.ensures.tried ∙ c.first.ensures.exact) in
    let calls = c.sum-calls.ensures.within (omega (arith, found.2, found.3, g.sized.window-fits, g.sized.period-fits)) in
    let misses =
    subst (λ (rs : List Charged). Misses g.costs rs g.task (c.lowered-end.result - 1) c.window_below.result s.x) c.put.ensures.core c.window_below.ensures.0 in (
      skips-last g.costs qs g.task s.x t s.w s.s tight (omega (arith, found.3)) c.requires.hopeless c.both-both.result laid c.sum-calls.result c.saturating_sub-come.result
          c.lowered-end.result c.window_below.result calls.0 c.saturating_sub-come.ensures c.lowered-end.ensures misses,
      c.window_below.ensures.1 ∙ c.put.ensures.core,
    )
