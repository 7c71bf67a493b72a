-- `demands::interrupts_of` meets its contract: the sum of the two is the definition's.
use native.Mathlib.Omega.{arith}
use Rattle.demand.specs.Demand.{interrupts}
use Rattle.verdicts.proofs.demands.interrupts_of.Goals as goal

pub returns : goal.returns
unfolding interrupts
returns c = (cc (c.calls_of-releases.ensures.0, c.calls_of-ipis.ensures.0), omega arith)
