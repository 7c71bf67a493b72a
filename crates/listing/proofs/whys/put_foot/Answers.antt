-- `whys::put_foot` meets its contract: its two lines, one behind the other.
use native.Mathlib.Omega.{arith}
use Rattle.listing.proofs.TextLaws.{wrote-both}
use Rattle.listing.specs.Why.{why_foot}
use Rattle.listing.proofs.whys.put_foot.Goals as goal

pub returns : goal.returns
unfolding why_foot
returns c = (
  wrote-both (wrote-both c.put_bytes-a.ensures c.put_number-b.ensures.0) (wrote-both c.put_bytes-c.ensures c.put_signed.ensures.0),
  omega (arith, c.put_bytes-a.ensures.place, c.put_number-b.ensures.1, c.put_bytes-c.ensures.place, c.put_signed.ensures.1),
)
