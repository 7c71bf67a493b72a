-- `whys::put_signed` meets its contract: the test parts the two signs.
use native.Mathlib.Omega.{arith}
use Rattle.listing.proofs.TextLaws.{wrote-both}
use borrow.Author.Tests.{le-leb, lt-leb}
use Rattle.listing.specs.Why.{signed}
use Rattle.listing.proofs.whys.put_signed.Goals as goal

pub returns-then-b-a : goal.returns-then-b-a
unfolding signed
returns-then-b-a c =
    let s = c.args in
    rw (le-leb s.b s.a c.if-b-a.true) (c.put_number.ensures.0, omega (arith, c.put_number.ensures.1))

pub returns : goal.returns
unfolding signed
returns c =
    let s = c.args in
    rw (lt-leb s.b s.a (omega (arith, c.if-b-a.false)))
    (wrote-both c.put_byte-k.ensures c.put_number-2.ensures.0, omega (arith, c.put_byte-k.ensures.place, c.put_number-2.ensures.1))
