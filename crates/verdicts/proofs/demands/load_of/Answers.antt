-- `demands::load_of` meets its contract.
use native.Mathlib.Omega.{arith}
use Rattle.demand.specs.Demand.{load}
use Rattle.verdicts.proofs.demands.load_of.Goals as goal

pub returns : goal.returns
unfolding load
returns c = (cc (c.work_of.ensures.0, c.interrupts_of.ensures.0), omega (arith, c.work_of.ensures.1, c.interrupts_of.ensures.1))
