-- `split_search::step_first` meets its contract: what the core with the first piece behind tells of its charge, it tells of its budget.
use mathlib.Core.Path.{◌≡◌, ap, subst, ◌∙◌}
use mathlib.Core.List.{List}
use mathlib.Core.Bool.{Bool}
use lib.ListN.{length}
use Prim.Native.Nat.{◌≤◌, ℕ, ◌-◌, ◌<◌, max}
use native.Mathlib.Omega.{arith}
use Rattle.demand.specs.declared.Charged.{Charged}
use Rattle.demand.specs.Charge.{charged, stall}
use Rattle.demand.specs.Demand.{largest_window, least_live}
use Rattle.demand.specs.Split.{first_piece}
use Rattle.demand.specs.Ways.ChargedSplit.{Tight}
use Rattle.demand.proofs.ChargeLaws.{all-recurs}
use Rattle.demand.proofs.ChargedSplitLaws.{first-charge}
use Rattle.splits.specs.declared.charge_bounds.Bound.{Bound}
use Rattle.splits.specs.Ways.ChargeBounds.{Bounds}
use Rattle.splits.specs.Ways.MonotoneSearch.{ShowsIf}
use Rattle.splits.specs.Ways.SplitSearch.{Skips}
use Rattle.splits.proofs.ChargeBoundLaws.{bounds-as}
use Rattle.splits.proofs.SkipLaws.{step-due, with-least, step-stands, falls-here, step-capped}
use Rattle.splits.proofs.SplitSearchLaws.{step-skips}
use Rattle.splits.proofs.split_search.step_first.Goals as goal

pub returns-then-due_by : goal.returns-then-due_by
returns-then-due_by c =
    let s = c.args in
    let g = s.given in
    let qs = s.bench.now.core in
    let ready = c.core-core.ensures.ready in
    let found = c.requires.tight in
    let t = s.w - g.task.jitter in
    let e : found.0 ≡ t = omega (arith, found.3) in
    let tight = subst (λ (u : ℕ). Tight g.costs qs g.task s.x u) e found.1 in
    let told =
    subst (λ (b : Bool). ShowsIf ((1 ≤ length qs) × (least_live qs ≤ t) × (t < max (largest_window qs) s.w)) b) c.if-due_by.true
    (rw c.core-core.ensures.exact at c.due_by.ensures) in (
      step-due g.costs qs g.task (all-recurs qs ready.ranged) g.sized ready.weighs told.0 s.x t s.w tight (omega (arith, found.3)) told.2
          c.saturating_sub-top.result c.window_below.result c.requires.x_within.0 told.1
          (rw (c.least_live.ensures.exact, c.core-core.ensures.exact) at c.saturating_sub-top.ensures) c.window_below.ensures.0,
      c.window_below.ensures.1,
    )

pub bound_of-requires : goal.bound_of-requires
bound_of-requires c =
    let s = c.args in (
      c.stall.ensures.within,
      omega (arith, ap (λ (q : Charged). q.charge) (c.put.ensures.tried ∙ c.first-q.ensures.exact), first-charge s.given.costs s.given.task s.x s.w, c.requires.x_within.0),
    )

pub own_below-requires-clause-live : goal.own_below-requires-clause-live
own_below-requires-clause-live c =
    let s = c.args in
    let g = s.given in
    let qs = s.bench.now.core in
    let q = charged g.costs (first_piece g.task s.x s.w) in
    let told =
    subst (λ (r : Bound). Bounds (stall g.costs) qs q r) c.in-Falls.is
    (bounds-as c.stall.result (stall g.costs) c.put.new.self.core qs c.put.new.self.tried q c.bound_of.result c.stall.ensures.exact c.put.ensures.core
    (c.put.ensures.tried ∙ c.first-q.ensures.exact) c.bound_of.ensures.0) in
    let same = c.bound_of.ensures.1 ∙ c.put.ensures.core in
    let live = rw (with-least g.costs qs g.task (all-recurs qs c.core-core.ensures.ready.ranged) g.sized s.x s.w) at told.1 in
    (rw same live, told.2)

pub overflow_sub-q : goal.overflow_sub-q
overflow_sub-q c =
    let s = c.args in
    omega (arith, ap (λ (q : Charged). q.charge) c.first-q.ensures.exact, first-charge s.given.costs s.given.task s.x s.w)

pub returns-in-Stands : goal.returns-in-Stands
returns-in-Stands c =
    let s = c.args in
    let g = s.given in
    let qs = s.bench.now.core in
    let q = charged g.costs (first_piece g.task s.x s.w) in
    let told =
    subst (λ (r : Bound). Bounds (stall g.costs) qs q r) c.in-Stands.is
    (bounds-as c.stall.result (stall g.costs) c.put.new.self.core qs c.put.new.self.tried q c.bound_of.result c.stall.ensures.exact c.put.ensures.core
    (c.put.ensures.tried ∙ c.first-q.ensures.exact) c.bound_of.ensures.0) in
    (step-stands g.costs qs g.task s.x s.w c.requires.tight c.requires.x_within.0 told c.requires.passes, c.bound_of.ensures.1 ∙ c.put.ensures.core)

pub returns-in-Falls : goal.returns-in-Falls
returns-in-Falls c =
    let s = c.args in
    let g = s.given in
    let qs = s.bench.now.core in
    let q = charged g.costs (first_piece g.task s.x s.w) in
    let told =
    subst (λ (r : Bound). Bounds (stall g.costs) qs q r) c.in-Falls.is
    (bounds-as c.stall.result (stall g.costs) c.put.new.self.core qs c.put.new.self.tried q c.bound_of.result c.stall.ensures.exact c.put.ensures.core
    (c.put.ensures.tried ∙ c.first-q.ensures.exact) c.bound_of.ensures.0) in
    let same = c.bound_of.ensures.1 ∙ c.put.ensures.core in
    let skips = subst (λ (rs : List Charged). Skips g.costs rs g.task c.own_below.result s.x) same c.own_below.ensures.0 in (
      step-skips g.costs qs g.task s.x c.requires.x_within.0 c.own_below.result (falls-here g.costs qs g.task s.x s.w c.requires.tight c.in-Falls.t told) skips,
      c.own_below.ensures.1 ∙ same,
    )

pub returns-in-AtMost : goal.returns-in-AtMost
returns-in-AtMost c =
    let s = c.args in
    let g = s.given in
    let qs = s.bench.now.core in
    let q = charged g.costs (first_piece g.task s.x s.w) in
    let told =
    subst (λ (r : Bound). Bounds (stall g.costs) qs q r) c.in-AtMost.is
    (bounds-as c.stall.result (stall g.costs) c.put.new.self.core qs c.put.new.self.tried q c.bound_of.result c.stall.ensures.exact c.put.ensures.core
    (c.put.ensures.tried ∙ c.first-q.ensures.exact) c.bound_of.ensures.0) in
    let found = c.requires.tight in
    let step =
    step-capped g.costs qs g.task (all-recurs qs c.core-core.ensures.ready.ranged) g.sized s.x found.0 s.w c.in-AtMost.f c.first-q.result.charge c.requires.x_within.0 found.1 found.3
    (ap (λ (r : Charged). r.charge) c.first-q.ensures.exact) told in
    (rw c.saturating_sub.ensures step, c.bound_of.ensures.1 ∙ c.put.ensures.core)
