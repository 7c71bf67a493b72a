-- `records::check_each` meets its contract: what is left to look at has the same first bad place.
use mathlib.Core.Path.{sym, ap, ◌∙◌}
use Prim.Native.Nat.{◌+◌}
use native.Mathlib.Omega.{arith}
use Rattle.demand.specs.Answer.{bad_record}
use Rattle.demand.proofs.RecordLaws.{place-good, place-bad}
use Rattle.demand.proofs.RunLaws.{bad-record-some}
use Rattle.demand.proofs.SizeLaws.{sized-is}
use Rattle.demand.proofs.records.check_each.Goals as goal

pub returns-then-not-sized_piece : goal.returns-then-not-sized_piece
returns-then-not-sized_piece c =
    let i = c.loop-place.place in
    let bad = sym (sized-is c.piece_in.result c.sized_piece.result c.sized_piece.ensures) ∙ c.if-not-sized_piece.true in
    sym (ap bad_record (c.loop-place.invariant ∙ place-bad c.args.records.now i c.loop-place-test.true c.piece_in.result _ c.piece_in.ensures.exact bad)
    ∙ bad-record-some (i + 1) (λ none. omega arith))

pub loop-place-preserved : goal.loop-place-preserved
loop-place-preserved c =
    let good = sym (sized-is c.piece_in.result c.sized_piece.result c.sized_piece.ensures) ∙ c.if-not-sized_piece.false in
    c.loop-place.invariant ∙ place-good c.args.records.now c.loop-place.place c.loop-place-test.true c.piece_in.result _ c.piece_in.ensures.exact good
