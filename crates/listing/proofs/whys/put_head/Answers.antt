-- `whys::put_head` meets its contract: its four fields, one behind another.
use native.Mathlib.Omega.{arith}
use Rattle.listing.proofs.TextLaws.{wrote-both}
use Rattle.listing.specs.Why.{why_head}
use Rattle.listing.proofs.whys.put_head.Goals as goal

pub returns : goal.returns
unfolding why_head
returns c = (
  wrote-both c.put_bytes-a.ensures (wrote-both c.put_verdict-b.ensures.0 (wrote-both c.put_number-c.ensures.0 c.put_number.ensures.0)),
  omega (arith, c.put_bytes-a.ensures.place, c.put_verdict-b.ensures.1, c.put_number-c.ensures.1, c.put_number.ensures.1),
)
