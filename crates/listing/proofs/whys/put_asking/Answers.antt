-- `whys::put_asking` meets its contract: its fields, one behind another.
use native.Mathlib.Omega.{arith}
use Rattle.listing.proofs.TextLaws.{wrote-both}
use Rattle.listing.specs.Why.{ask_line}
use Rattle.listing.proofs.whys.put_asking.Goals as goal

pub returns : goal.returns
unfolding ask_line
returns c = (
  wrote-both c.put_bytes-a.ensures (wrote-both c.put_title-b.ensures.0 (wrote-both c.put_kind-c.ensures.0 c.put_ask.ensures.0)),
  omega (arith, c.put_bytes-a.ensures.place, c.put_title-b.ensures.1, c.put_kind-c.ensures.1, c.put_ask.ensures.1),
)
