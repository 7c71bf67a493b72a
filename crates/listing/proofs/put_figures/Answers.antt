-- `put_figures` meets its contract: four figures, one behind another.
use native.Mathlib.Omega.{arith}
use Rattle.listing.proofs.TextLaws.{wrote-both}
use Rattle.listing.proofs.put_figures.Goals as goal

pub returns : goal.returns
returns c = (
  wrote-both c.put_number-a.ensures.0 (wrote-both c.put_number-b.ensures.0 (wrote-both c.put_number-c.ensures.0 c.put_number.ensures.0)),
  omega (arith, c.put_number-a.ensures.1, c.put_number-b.ensures.1, c.put_number-c.ensures.1, c.put_number.ensures.1),
)
