-- `charge_bounds::guess` meets its contract: the best so far is below the charge.
use Rattle.std.proofs.Common.{◌<◌}
use Rattle.splits.proofs.charge_bounds.guess.Given as goal

abbrev pub invariant-loop-p : goal.invariant-loop-p
invariant-loop-p l = l.best < l.q.charge
