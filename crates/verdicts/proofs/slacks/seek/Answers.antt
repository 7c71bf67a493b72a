-- `slacks::seek` meets its contract: from `end` up no length is overloaded, and none has less slack than `best`, which is not above `end`. `end` falls.
use mathlib.Core.Path.{◌≡◌, sym, subst}
use Prim.Native.Nat.{ℕ, ◌+◌, ◌-◌, ◌≤◌}
use native.Mathlib.Omega.{arith}
use Rattle.demand.specs.Demand.{demand}
use Rattle.demand.proofs.WhyLaws.{least-slack-is}
use Rattle.verdicts.specs.Ways.SlackHunt.{Rises, raised, Hit, Quiet}
use Rattle.verdicts.proofs.HuntLaws.{core-rises, bar-is}
use Rattle.verdicts.proofs.HuntLaws.{leads-hit, leads-none, leads-low, over-stretch, calm-stretch, calm-none}
use Rattle.verdicts.proofs.slacks.seek.Goals as goal

pub returns-in_default : goal.returns-in_default
returns-in_default c =
    let s = c.args in
    let now = c.loop-end in
    let g = demand s.core.now.stall s.core.now.pieces.now in
    let bar = c.saturating_sub-bar.result + 1 in
    let is = bar-is g now.best.length now.best.demand c.saturating_sub-bar.result now.invariant.2 c.saturating_sub-bar.ensures in
    let quiet : Quiet (raised g bar) s.a (s.a + (now.end - s.a)) = c.in_default.ensures in (
      calm-none g s.core.now.widest s.a s.l now.best.length now.end now.invariant.0 now.invariant.1 bar quiet,
      least-slack-is g s.a s.l now.best.length c.requires.1
          (leads-none g s.core.now.widest s.a s.l now.best.length now.end now.invariant.0 (rw is at quiet)),
      now.invariant.2,
    )

pub returns-then-v-hit : goal.returns-then-v-hit
returns-then-v-hit c =
    let s = c.args in
    let now = c.loop-end in
    let g = demand s.core.now.stall s.core.now.pieces.now in
    let bar = c.saturating_sub-bar.result + 1 in
    let hit = c.in-Some.hit in
    let so = c.in-Some.ensures in
    let fits : g hit.length ≤ hit.length = omega (arith, so.1, c.if-hit.false) in
    let rises : Rises g s.core.now.widest = rw s.core.now.widest_is (core-rises s.core.now.stall s.core.now.pieces.now) in
    let over = over-stretch g s.core.now.widest s.a s.l now.best.length now.end now.invariant.0 now.invariant.1 bar hit.length (omega arith) so.0 c.level-v.result rises
    c.level-v.ensures fits (omega (arith, so.1, c.if-v-hit.true)) in
    subst (λ (y : ℕ). Hit g s.a s.l (y - 1) × (y ≡ g (y - 1))) (sym so.1) over

pub loop-end-preserved : goal.loop-end-preserved
loop-end-preserved c =
    let s = c.args in
    let now = c.loop-end in
    let g = demand s.core.now.stall s.core.now.pieces.now in
    let bar = c.saturating_sub-bar.result + 1 in
    let t = c.in-Some.hit.length in
    let so = c.in-Some.ensures in
    let fits : g t ≤ t = omega (arith, so.1, c.if-hit.false) in
    let rises : Rises g s.core.now.widest = rw s.core.now.widest_is (core-rises s.core.now.stall s.core.now.pieces.now) in
    let is = bar-is g now.best.length now.best.demand c.saturating_sub-bar.result now.invariant.2 c.saturating_sub-bar.ensures in
    let low = c.level-v.ensures in
    let hit : Hit (raised g bar) s.a (now.end - s.a) t = so.0 in (
      leads-hit g s.core.now.widest s.a s.l now.best.length now.end now.invariant.0 t c.level-v.result rises (rw is at hit) low,
      calm-stretch g s.core.now.widest s.a s.l now.best.length now.end now.invariant.0 now.invariant.1 bar t (omega arith) hit c.level-v.result rises low fits
          (omega (arith, so.1, c.if-v-hit.false)),
      omega (arith, so.1, low.same),
    )

pub returns : goal.returns
returns c =
    let s = c.args in
    let now = c.loop-end in
    let g = demand s.core.now.stall s.core.now.pieces.now in
    let done : now.end ≤ s.a = omega arith in (
      (λ u from below. now.invariant.1 u (omega arith) below),
      least-slack-is g s.a s.l now.best.length c.requires.1 (leads-low g s.core.now.widest s.a s.l now.best.length now.end now.invariant.0 done),
      now.invariant.2,
    )
