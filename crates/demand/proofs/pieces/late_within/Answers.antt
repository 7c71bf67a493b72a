-- `pieces::late_within` meets its contract: the sum is the law's, and its parts are within the sizes.
use mathlib.Core.Path.{sym}
use Rattle.demand.proofs.ChargeLaws.{late-jitter-is}
use Rattle.demand.proofs.pieces.late_within.Goals as goal

pub returns : goal.returns
returns c = sym (late-jitter-is c.args.costs c.requires)
