-- `demands::least_live` meets its contract: no window is past its bound.
use Rattle.verdicts.proofs.LaidLaws.{least-live-fits}
use mathlib.Core.Path.{refl}
use Rattle.verdicts.proofs.demands.least_live.Goals as goal

pub returns : goal.returns
returns c = rw (c.laid_least_live.ensures.exact, ← c.core.view_is) (refl, least-live-fits c.core.inside.pieces.now c.core.invariant.1)
