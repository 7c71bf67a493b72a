-- `texts::put_bytes` meets its contract: byte by byte, those so far are written.
use lib.ListN.{take}
use Rattle.listing.specs.Text.{Wrote}
use Rattle.listing.proofs.texts.put_bytes.Given as goal

abbrev pub invariant-loop-b : goal.invariant-loop-b
invariant-loop-b l = Wrote l.initial.buf l.at (take l.b-index l.s) l.k l.buf
