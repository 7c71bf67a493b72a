-- `split_search::own_below` meets its contract: the greater of what fits at t with the stall and what has its tight window by t.
use mathlib.Core.Path.{ap, subst, ◌∙◌}
use mathlib.Core.List.{List}
use Prim.Native.Nat.{ℕ}
use native.Mathlib.Omega.{arith}
use Rattle.demand.specs.declared.Charged.{Charged}
use Rattle.demand.specs.Charge.{charged}
use Rattle.demand.specs.Split.{first_piece}
use Rattle.demand.proofs.ChargeLaws.{all-recurs}
use Rattle.demand.proofs.ChargedSplitLaws.{first-charge}
use Rattle.splits.specs.Ways.ChargeBounds.{Stalled}
use Rattle.splits.specs.Ways.SplitSearch.{Misses}
use Rattle.splits.proofs.SkipLaws.{skips-own}
use Rattle.splits.proofs.split_search.own_below.Goals as goal

pub fit_stalled-most-requires-clause-bounds : goal.fit_stalled-most-requires-clause-bounds
fit_stalled-most-requires-clause-bounds c =
    let g = c.args.given in (
      c.stall.ensures.within,
      omega (arith, ap (λ (r : Charged). r.charge) c.first-q.ensures.exact, first-charge g.costs g.task c.args.x c.args.w, c.requires.x_within.0),
      omega (arith, c.requires.live.1),
    )

pub overflow_sub-q : goal.overflow_sub-q
overflow_sub-q c =
    let g = c.args.given in
    omega (arith, ap (λ (r : Charged). r.charge) c.first-q.ensures.exact, first-charge g.costs g.task c.args.x c.args.w)

pub returns : goal.returns
returns c =
    let s = c.args in
    let g = s.given in
    let qs = s.bench.now.core in
    let found = c.requires.tight in
    let q = charged g.costs (first_piece g.task s.x s.w) in
    let most = c.fit_stalled-most.result in
    let is = c.first-q.ensures.exact in
    let stalled : Stalled (c.stall.result) qs c.first-q.result s.t most = c.fit_stalled-most.ensures.0 in
    let same =
    subst (λ (rs : List Charged). Misses g.costs rs g.task c.saturating_sub.result c.window_below-tight.result s.x) c.fit_stalled-most.ensures.1 c.window_below-tight.ensures.0 in
    let misses = subst (λ (u : ℕ). Misses g.costs qs g.task u c.window_below-tight.result s.x) c.saturating_sub.ensures same in (
      skips-own g.costs qs g.task (all-recurs qs c.requires.ready.ranged) g.sized s.x found.0 s.w s.t
          c.first-q.result.charge most c.window_below-tight.result c.max.result found.1 found.3 c.requires.live.0
          (ap (λ (r : Charged). r.charge) is) (rw (c.stall.ensures.exact, is) at stalled) misses (omega (arith, c.max.ensures, c.saturating_sub-2.ensures)),
      c.window_below-tight.ensures.1 ∙ c.fit_stalled-most.ensures.1,
    )
