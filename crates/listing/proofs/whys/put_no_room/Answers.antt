-- `whys::put_no_room` meets its contract: nothing, or the line's four fields, one behind another.
use native.Mathlib.Omega.{arith}
use Rattle.listing.specs.Why.{no_room_line}
use Rattle.listing.proofs.TextLaws.{wrote-both}
use Rattle.listing.proofs.whys.put_no_room.Goals as goal

pub returns-in-Some : goal.returns-in-Some
unfolding no_room_line
returns-in-Some c =
    let w = wrote-both c.put_bytes-a.ensures (wrote-both c.put_number-b.ensures.0 (wrote-both c.put_name-c.ensures.0 c.put_number.ensures.0)) in
    rw c.in-Some.is (w, omega (arith, c.put_bytes-a.ensures.place, c.put_number-b.ensures.1, c.put_name-c.ensures.1, c.put_number.ensures.1))
