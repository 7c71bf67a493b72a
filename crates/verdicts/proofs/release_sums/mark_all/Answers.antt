-- `release_sums::mark_all` meets its contract: the pieces so far are marked.
use Rattle.std.proofs.Common.{arith}
use Rattle.demand.specs.Ways.Ranges.{no_charge}
use Rattle.verdicts.proofs.ReleaseSumLaws.{marks-none, marks-more}
use Rattle.verdicts.proofs.release_sums.mark_all.Goals as goal

pub loop-q-init : goal.loop-q-init
loop-q-init c =
    let pre = c.requires in
    (marks-none c.args.marks.now c.args.l pre.2, pre.2, pre.1)

pub loop-q-preserved : goal.loop-q-preserved
loop-q-preserved c =
    let o = c.loop-q in (
      marks-more c.core.inside.pieces.now o.q-index no_charge c.loop-q-test.true c.args.l o.marks _ o.invariant.0 c.mark.ensures.0,
      λ j. omega (arith, c.mark.ensures.0.little j, o.invariant.1 j),
      c.mark.ensures.1,
    )
