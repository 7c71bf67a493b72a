-- `charge_bounds::cap_of` meets its contract: the second walk caps what the first left.
use native.Mathlib.Omega.{arith}
use Prim.Native.Nat.{◌*◌}
use Rattle.splits.proofs.ChargeBoundLaws.{caps-both}
use Rattle.verdicts.proofs.MostFittingLaws.{squeezed-is}
use Rattle.splits.proofs.charge_bounds.cap_of.Goals as goal

pub returns : goal.returns
returns c =
    let s = c.args in
    let far = c.most_fitting-far.ensures.within c.requires.bounds.0 c.requires.ranged c.requires.bounds.1 (omega arith) in
    let less = (squeezed-is s.b s.core.now s.q 100000000 1 s.f c.most_fitting-far.result far).most in
    let near = c.most_fitting.ensures.within c.requires.bounds.0 c.requires.ranged (omega (arith, less)) (omega (arith, c.requires.ranged.period-fits)) in
    caps-both s.b s.core.now s.q s.f s.a 100000000 1 (4 * s.q.period) c.most_fitting-far.result c.most_fitting.result (omega arith) far near
