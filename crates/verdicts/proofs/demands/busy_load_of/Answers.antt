-- `demands::busy_load_of` meets its contract: the product is the definition's, and fits.
use Prim.Native.Nat.{◌+◌}
use native.Mathlib.Omega.{arith}
use Rattle.demand.specs.Busy.{busy_load}
use Rattle.demand.proofs.Division.{prod-le}
use borrow.Author.Rules.{rules}
use Rattle.verdicts.proofs.demands.busy_load_of.Goals as goal

pub returns : goal.returns
unfolding busy_load
returns c =
    let start = c.args in (
      rw c.ceil_div.ensures.0,
      omega (
        arith,
        prod-le 101000000 2300000 {a = c.ceil_div.result} {b = start.q.charge + start.q.release + start.q.ipi} (search rules) (search rules),
      ),
    )
