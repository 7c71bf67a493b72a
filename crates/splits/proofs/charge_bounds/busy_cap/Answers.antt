-- `charge_bounds::busy_cap` meets its contract: from the high end on no charge leaves a busy length. The gap between the ends shrinks.
use mathlib.Core.Path.{◌∙◌, subst}
use mathlib.Core.Bool.{Bool}
use mathlib.Core.List.{List}
use Prim.Native.Nat.{◌+◌, ◌/◌}
use native.Mathlib.Omega.{arith}
use Rattle.demand.specs.declared.Charged.{Charged}
use Rattle.splits.specs.Ways.ChargeBounds.{Unsettled}
use Rattle.splits.specs.Ways.MonotoneSearch.{ShowsIf}
use Rattle.splits.proofs.MonotoneSearchLaws.{lowered-next}
use Rattle.splits.proofs.charge_bounds.busy_cap.Goals as goal

pub loop-low-preserved-then-unsettled : goal.loop-low-preserved-then-unsettled
loop-low-preserved-then-unsettled c =
    let s = c.args in
    let loop = c.loop-low in
    let f = (loop.low + loop.high) / 2 in
    let shown = subst (λ (b : Bool). ShowsIf (Unsettled loop.bench.core s.q f) b) c.if-unsettled.true c.unsettled.ensures.0 in
    let none = subst (λ (qs : List Charged). Unsettled qs s.q f) loop.invariant.0 shown in
    (c.unsettled.ensures.1 ∙ loop.invariant.0, omega arith, lowered-next (Unsettled s.bench.now.core s.q) s.q.charge f loop.high (omega arith) (omega arith) none loop.invariant.2)
