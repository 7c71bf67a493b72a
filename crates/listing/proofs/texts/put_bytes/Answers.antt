-- `texts::put_bytes` meets its contract: byte by byte, those so far are written.
use mathlib.Core.Path.{◌≡◌}
use lib.ListN.{take}
use lib.Seq.{take_all}
use Rattle.plan.proofs.Lists.{take_more}
use Rattle.listing.proofs.TextLaws.{wrote-both}
use Rattle.listing.proofs.texts.put_bytes.Goals as goal

pub loop-b-preserved : goal.loop-b-preserved
loop-b-preserved c = rw (take_more c.args.s.now c.loop-b.b-index 0 c.loop-b-test.true) (wrote-both c.loop-b.invariant c.put_byte-k.ensures)

pub returns : goal.returns
returns c =
    let all : take c.loop-b.b-index c.args.s.now ≡ c.args.s.now = take_all c.loop-b.b-index c.args.s.now c.loop-b-test.false in
    wrote-both (rw all at c.loop-b.invariant) c.put_byte.ensures
