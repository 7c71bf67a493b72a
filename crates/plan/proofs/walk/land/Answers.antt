-- `walk::land` meets its contract: while the task is not placed the core moves on and what was placed stays; each way out is one of the four rules.
use Rattle.std.proofs.Common.{ap, ◌∙◌, ◌++◌, ◌∷◌, [], ℕ}
use native.Mathlib.Omega.{arith}
use Rattle.plan.specs.Ways.WalkGoing.{row_numbers}
use Rattle.plan.proofs.GoingLaws.{pushed-below, judge-fits, split-fits, one-done, both-done, next-trying, last-trying}
use Rattle.plan.proofs.walk.land.Goals.{then-core-machine+in_default-split, else-core-machine}
use Rattle.plan.proofs.walk.land.Goals as goal

pub lay_row-requires-clause-few : goal.lay_row-requires-clause-few
lay_row-requires-clause-few c = c.loop-core.invariant.fits.free

pub lay_row-requires-clause-seated : goal.lay_row-requires-clause-seated
lay_row-requires-clause-seated c = c.loop-core.invariant.fits.seated

pub judge-requires : goal.judge-requires
judge-requires c = judge-fits c.loop-core.invariant c.args.k _ c.lay_row.ensures.row c.lay_row.ensures.behind c.requires.sized

pub split-requires : goal.split-requires
split-requires c = split-fits c.loop-core.invariant c.args.k _ c.lay_row.ensures.row c.lay_row.ensures.behind c.requires.sized

pub push-requires : goal.push-requires
push-requires c = omega (arith, c.loop-core.invariant.fits.room, c.if-core-machine.true, c.requires.core)

pub push-requires-in-Some : goal.push-requires-in-Some
push-requires-in-Some c = pushed-below _ _ c.push.ensures (omega (arith, c.loop-core.invariant.fits.room, c.if-core-machine.true, c.requires.core))

pub with-row-requires-in-loop-core : goal.with-row-requires-in-loop-core
with-row-requires-in-loop-core c = c.loop-core.invariant.fits.free

pub push-requires-in-loop-core : goal.push-requires-in-loop-core
push-requires-in-loop-core c = omega (arith, c.loop-core.invariant.fits.room, c.loop-core-test.true, c.requires.core)

pub returns-in-loop-core : goal.returns-in-loop-core
returns-in-loop-core c =
    let laid = c.lay_row.ensures in
    let with = c.with-row-in-loop-core.ensures in
    one-done c.loop-core.invariant c.args.k _ laid.row laid.behind c.loop-core-test.true c.judge.ensures c.in-Passes.is _ with.0
    (with.1 ∙ ap (λ (n : ℕ). row_numbers c.loop-core.row ++ (n ∷ [])) c.count-in-loop-core.ensures) c.push-in-loop-core.ensures

pub returns-in-Some : goal.returns-in-Some
returns-in-Some c =
    let laid = c.lay_row.ensures in
    let empty = c.empty.ensures in
    let with = c.with-row.ensures in
    both-done c.loop-core.invariant c.args.k _ laid.row laid.behind c.loop-core-test.true c.judge.ensures c.in_default.not-Passes _ empty.0 empty.1
    c.split.ensures c.if-core-machine.true c.in-Some.is c.first_piece.ensures.exact c.last_piece.ensures.exact c.push.ensures c.push-in-Some.ensures
    _ with.0 (with.1 ∙ ap (λ (n : ℕ). row_numbers c.empty.result ++ (n ∷ [])) c.count.ensures)

pub loop-core-preserved : goal.loop-core-preserved
loop-core-preserved c =
    let u = c.loop-core.invariant in
    let laid = c.lay_row.ensures in
    let low = c.loop-core-test.true in
    let fails = c.in_default.not-Passes in
    let empty = c.empty-row.ensures in
    elim c.if-core-machine.branch [
      | then-core-machine+in_default-split w ↦
          next-trying u c.args.k _ laid.row laid.behind low c.judge.ensures fails _ empty.0 empty.1 w.split.ensures w.if-core-machine.true w.in_default-split.is
      | else-core-machine w ↦ last-trying u c.args.k _ laid.row laid.behind low c.judge.ensures fails _ empty.0 empty.1 w.if-core-machine.false
    ]
