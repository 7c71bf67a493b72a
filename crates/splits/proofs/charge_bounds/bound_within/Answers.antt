-- `charge_bounds::bound_within` meets its contract: the walk lowers the charge; or it fits beside the core at each length of the span, and the descent over the
-- lengths where only its own blocking is left decides.
use mathlib.Core.Path.{◌≡◌, refl, sym, ap, ◌∙◌}
use Prim.Native.Nat.{◌-◌, ◌≤◌, max}
use native.Mathlib.Omega.{arith}
use Rattle.demand.specs.declared.Charged.{Charged}
use Rattle.demand.specs.declared.Verdict.TheVariants.{Passes}
use Rattle.demand.specs.Demand.{largest_window}
use Rattle.demand.specs.Sizes.{time_most}
use Rattle.demand.specs.Verdict.{scan}
use Rattle.splits.specs.Ways.Bench.{both}
use Rattle.demand.proofs.ChargeLaws.{all-recurs}
use Rattle.splits.proofs.ChargeBoundLaws.{largest-fits, bound-squeezed, bound-own, bound-never, bound-stands}
use Rattle.splits.proofs.charge_bounds.bound_within.Goals as goal

pub returns-then-near-q : goal.returns-then-near-q
returns-then-near-q c =
    let s = c.args in
    let t = s.bench.now in
    let q = c.tried-q.ensures in
    let near = rw (c.core-core.ensures.exact, q.exact) at (c.most_fitting-near.ensures.within c.requires.bounds.0 q.ranged q.ranged.charge-fits (omega arith)) in
    bound-squeezed s.b t.core (both t) t.tried refl s.a s.l c.most_fitting-near.result c.requires.least (omega (arith, ap (λ (r : Charged). r.charge) q.exact, c.if-near-q.true)) near

pub returns-then-left-eq0 : goal.returns-then-left-eq0
returns-then-left-eq0 c =
    let s = c.args in
    let t = s.bench.now in
    let q = c.tried-q.ensures in
    let own = c.max-own.result in
    let near = rw (c.core-core.ensures.exact, q.exact) at (c.most_fitting-near.ensures.within c.requires.bounds.0 q.ranged q.ranged.charge-fits (omega arith)) in
    let is : own ≡ max s.a (largest_window t.core) = rw (c.largest_window.ensures.exact, c.core-core.ensures.exact) at c.max-own.ensures in
    let none : t.tried.window - own ≡ 0 = omega (arith, ap (λ (r : Charged). r.window) q.exact, c.saturating_sub-left.ensures, c.if-left-eq0.true) in
    let mine : scan s.b (both t) own (t.tried.window - own) ≡ Passes = rw none in
    bound-stands s.b t.core (both t) t.tried refl s.a s.l own c.most_fitting-near.result c.requires.least c.requires.busy is c.requires.bounds.3
    (omega (arith, ap (λ (r : Charged). r.charge) q.exact, c.if-near-q.false)) near mine

pub returns-in-Passes : goal.returns-in-Passes
returns-in-Passes c =
    let s = c.args in
    let t = s.bench.now in
    let q = c.tried-q.ensures in
    let own = c.max-own.result in
    let near = rw (c.core-core.ensures.exact, q.exact) at (c.most_fitting-near.ensures.within c.requires.bounds.0 q.ranged q.ranged.charge-fits (omega arith)) in
    let is : own ≡ max s.a (largest_window t.core) = rw (c.largest_window.ensures.exact, c.core-core.ensures.exact) at c.max-own.ensures in
    let below : own ≤ time_most = omega (arith, is, c.requires.bounds.1, largest-fits t.core c.core-core.ensures.ready.ranged) in
    let spans = c.span.ensures.within c.requires.bounds.0 below (omega (arith, c.saturating_sub-left.ensures, q.ranged.window-fits)) in
    let mine = sym (rw (c.both.ensures.exact, c.saturating_sub-left.ensures, q.exact) at spans) ∙ c.in-Passes.is in
    bound-stands s.b t.core (both t) t.tried refl s.a s.l own c.most_fitting-near.result c.requires.least c.requires.busy is c.requires.bounds.3
    (omega (arith, ap (λ (r : Charged). r.charge) q.exact, c.if-near-q.false)) near mine

pub returns-in-Overloaded : goal.returns-in-Overloaded
returns-in-Overloaded c =
    let s = c.args in
    let t = s.bench.now in
    let q = c.tried-q.ensures in
    let own = c.max-own.result in
    let left = c.saturating_sub-left in
    let is : own ≡ max s.a (largest_window t.core) = rw (c.largest_window.ensures.exact, c.core-core.ensures.exact) at c.max-own.ensures in
    let below : own ≤ time_most = omega (arith, is, c.requires.bounds.1, largest-fits t.core c.core-core.ensures.ready.ranged) in
    let spans = c.span.ensures.within c.requires.bounds.0 below (omega (arith, left.ensures, q.ranged.window-fits)) in
    bound-own s.b t.core (both t) t.tried refl (all-recurs (both t) c.both.ensures.ranged) own left.result c.in-Overloaded.t
    (omega (arith, is, c.requires.least)) (omega (arith, below, left.ensures, q.ranged.window-fits)) (sym (rw c.both.ensures.exact at spans) ∙ c.in-Overloaded.is)

pub returns-in-Undecided : goal.returns-in-Undecided
returns-in-Undecided c =
    let s = c.args in
    let t = s.bench.now in
    let q = c.tried-q.ensures in
    let own = c.max-own.result in
    let left = c.saturating_sub-left in
    let is : own ≡ max s.a (largest_window t.core) = rw (c.largest_window.ensures.exact, c.core-core.ensures.exact) at c.max-own.ensures in
    let below : own ≤ time_most = omega (arith, is, c.requires.bounds.1, largest-fits t.core c.core-core.ensures.ready.ranged) in
    let spans = c.span.ensures.within c.requires.bounds.0 below (omega (arith, left.ensures, q.ranged.window-fits)) in
    bound-never s.b t.core (both t) t.tried refl own left.result own (sym (rw c.both.ensures.exact at spans) ∙ c.in-Undecided.is)
