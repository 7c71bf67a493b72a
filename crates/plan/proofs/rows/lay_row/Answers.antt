-- `rows::lay_row` meets its contract: the piece of the next number comes behind the pieces that lie there.
use Rattle.plan.proofs.GoingLaws.{laid-more}
use Rattle.plan.proofs.rows.lay_row.Goals as goal

pub loop-place-preserved : goal.loop-place-preserved
loop-place-preserved c =
    let l = c.loop-place in
    laid-more c.args.row c.requires.few c.requires.seated _ c.seats-seats.ensures.seats l.records l.place c.loop-place-test.true l.invariant.0 l.invariant.1 _ _ c.from.ensures
