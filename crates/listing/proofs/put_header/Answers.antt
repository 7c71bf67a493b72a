-- `put_header` meets its contract: its three fields, one behind another.
use native.Mathlib.Omega.{arith}
use Rattle.listing.proofs.TextLaws.{wrote-both}
use Rattle.listing.proofs.put_header.Goals as goal

pub returns : goal.returns
returns c =
    let w = wrote-both c.put_bytes-a.ensures (wrote-both c.put_number-b.ensures.0 c.put_number.ensures.0) in
    (w, omega (arith, c.put_bytes-a.ensures.place, c.put_number-b.ensures.1, c.put_number.ensures.1))
