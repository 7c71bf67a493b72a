-- `most_fitting::squeeze` meets its contract: what is left of f fits from the end up, and is no less than any that fits in the whole span. The end or the charge falls.
use Prim.Native.Nat.{◌+◌}
use native.Mathlib.Omega.{arith}
use Rattle.verdicts.proofs.MostFittingLaws.{passed-look, passed-done}
use Rattle.verdicts.proofs.most_fitting.squeeze.Goals as goal

pub loop-s-preserved : goal.loop-s-preserved
loop-s-preserved c =
    let s = c.args in
    let loop = c.loop-s in
    let low = c.lower-s.ensures in (
      omega (arith, low.down, loop.invariant.0),
      low.stands,
      passed-look s.core.now.stall s.core.now.pieces.now s.q s.f s.a (s.a + s.l) loop.s c.lower-s.result loop.invariant.0 loop.invariant.2 low,
    )

pub returns : goal.returns
returns c =
    let s = c.args in
    let loop = c.loop-s in
    passed-done s.core.now.stall s.core.now.pieces.now s.q s.f s.a s.l loop.s.end loop.s.charge (omega arith) loop.invariant.2
