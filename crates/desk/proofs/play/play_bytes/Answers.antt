-- `play::play_bytes` meets its contract: one byte more is a line's end, or is put behind the line.
-- Assumes nothing.
use mathlib.Core.Path.{refl, sym, ap, ◌∙◌}
use Prim.Native.Nat.{◌+◌}
use lib.ListN.{drop}
use Rattle.desk.specs.Desk.{played_bytes}
use Rattle.desk.proofs.DeskLaws.{played-newline, played-other, played-end}
use Rattle.desk.proofs.play.play_bytes.Goals as goal
use Rattle.desk.proofs.play.play_bytes.Goals.{then-b-eq10, else-b-eq10}

pub loop-b-preserved : goal.loop-b-preserved
loop-b-preserved g c =
    let bs = c.args.bytes.now in
    let loop = c.loop-b in
    let d = loop.desk in
    elim c.if-b-eq10.branch [
      | then-b-eq10 w ↦
          loop.invariant
          ∙ played-newline d.plan d.line bs loop.b-index c.loop-b-test.true w.answer_line.new.plan w.fresh-desk.result w.if-b-eq10.true w.answer_line.ensures w.fresh-desk.ensures
          ∙ ap (λ e. played_bytes e (drop (loop.b-index + 1) bs)) (sym w.desk-is)
      | else-b-eq10 w ↦
          loop.invariant
          ∙ played-other d.plan d.line bs loop.b-index c.loop-b-test.true d.plan w.push.new.self w.if-b-eq10.false refl w.push.ensures
          ∙ ap (λ e. played_bytes e (drop (loop.b-index + 1) bs)) (sym w.desk-is)
    ]

pub returns : goal.returns
returns g c =
    let d = c.loop-b.desk in
    sym (c.loop-b.invariant ∙ played-end d.plan d.line c.args.bytes.now c.loop-b.b-index c.loop-b-test.false)
