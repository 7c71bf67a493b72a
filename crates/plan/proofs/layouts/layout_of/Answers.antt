-- `layouts::layout_of` meets its contract: after i turns it is the layout of the first i seats. There is room for each, since there is for all.
use Rattle.plan.proofs.LayoutLaws.{seat-room, layout-more}
use Rattle.plan.proofs.layouts.layout_of.Goals as goal

pub put-requires : goal.put-requires
put-requires c =
    let seats = c.seats-seats in
    let now = c.loop-seat in
    seat-room seats.result.now now.seat-index _ c.loop-seat-test.true seats.ensures.seats c.requires seats.ensures.few now.invariant

pub loop-seat-preserved : goal.loop-seat-preserved
loop-seat-preserved c =
    let now = c.loop-seat in
    layout-more c.seats-seats.result.now now.seat-index _ c.loop-seat-test.true now.layout _ now.invariant c.put.ensures
