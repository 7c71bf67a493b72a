-- `spans::hunt` meets its contract: from `end` up nothing is overloaded with the bar; a step goes down to the demand and the bar, but not past the largest window. `end` falls.
use mathlib.Core.Path.{◌≡◌}
use Prim.Native.Nat.{◌≤◌, ◌-◌, ◌+◌}
use native.Mathlib.Omega.{arith}
use borrow.Author.Tests.{ltb-false}
use Rattle.demand.specs.Demand.{demand, largest_window}
use Rattle.verdicts.proofs.HuntLaws.{core-rises, quiet-more}
use Rattle.verdicts.proofs.spans.hunt.Goals as goal

pub loop-end-preserved : goal.loop-end-preserved
loop-end-preserved c =
    let s = c.args in
    let loop = c.loop-end in
    let qs = s.core.now.pieces.now in
    let x = c.demand_at-demand.result in
    let calm : x + s.bar ≤ loop.end - 1 = ltb-false (loop.end - 1) (x + s.bar) (cc) in
    let w-is : s.core.now.widest ≡ largest_window qs = s.core.now.widest_is in (
      omega arith,
      quiet-more (demand s.core.now.stall qs) (largest_window qs) s.bar (core-rises s.core.now.stall qs) (loop.end - 1) c.next_end-end.result (s.a + s.l)
          (omega (arith, c.demand_at-demand.ensures)) (λ wide. omega (arith, c.next_end-end.ensures.2 (omega arith)))
          (λ u from below. loop.invariant.1 u (omega arith) below),
    )
