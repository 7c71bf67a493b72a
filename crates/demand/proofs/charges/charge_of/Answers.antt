-- `charges::charge_of` meets its contract: the sum is the definition's, and its parts are within the sizes.
use native.Mathlib.Omega.{arith}
use Rattle.demand.specs.Charge.{charge}
use Rattle.demand.specs.Kinds.{arrives}
use Rattle.demand.proofs.ChargeLaws.{when-le}
use Rattle.demand.proofs.charges.charge_of.Goals as goal

pub overflow_add-result-5 : goal.overflow_add-result-5
overflow_add-result-5 c =
    let a = c.args in
    omega (arith, when-le (arrives a.piece.kind) {n = a.piece.migrate} {m = 100000} (omega arith))

pub returns : goal.returns
unfolding charge
returns c =
    let a = c.args in
    omega (arith, when-le (arrives a.piece.kind) {n = a.piece.migrate} {m = 100000} (omega arith))
