-- `walk::walk_over` meets its contract: after i turns the code stands where the walk over the first i places does; where a task does not land, the walk
-- sticks at it.
use Rattle.std.proofs.Common.{sym}
use lib.Seq.{take_all}
use Rattle.plan.proofs.OverLaws.{core-below, land-fits, land-walks, land-sticks, walk-ends}
use Rattle.plan.proofs.walk.walk_over.Goals as goal

pub land-requires-clause-core : goal.land-requires-clause-core
land-requires-clause-core c =
    let s = c.args in
    let now = c.loop-k in
    let fits = c.requires.walk_fits in
    (core-below s.machine s.costs s.tasks.now s.order.now fits now.k-index c.loop-k-test.true now.placed now.going now.invariant, fits.few)

pub land-requires-clause-land_fits : goal.land-requires-clause-land_fits
land-requires-clause-land_fits c =
    let s = c.args in
    let now = c.loop-k in
    land-fits s.machine s.costs s.tasks.now s.order.now c.requires.walk_fits now.k-index c.loop-k-test.true now.placed now.going now.invariant

pub returns-in_default : goal.returns-in_default
returns-in_default c =
    let s = c.args in
    let now = c.loop-k in
    land-sticks s.machine s.costs s.tasks.now s.order.now c.requires.walk_fits now.k-index c.loop-k-test.true now.placed now.going now.invariant
    c.whole_piece-whole.result (sym c.whole_piece-whole.ensures.exact) _ c.in_default.ensures

pub loop-k-preserved : goal.loop-k-preserved
loop-k-preserved c =
    let s = c.args in
    let now = c.loop-k in
    land-walks s.machine s.costs s.tasks.now s.order.now c.requires.walk_fits now.k-index c.loop-k-test.true now.placed now.going now.invariant
    c.whole_piece-whole.result (sym c.whole_piece-whole.ensures.exact) _ c.in-Some.next c.in-Some.ensures

pub returns : goal.returns
returns c =
    let s = c.args in
    let now = c.loop-k in
    walk-ends s.machine s.costs s.tasks.now s.order.now now.placed now.going (rw (take_all now.k-index s.order.now c.loop-k-test.false) at now.invariant)
