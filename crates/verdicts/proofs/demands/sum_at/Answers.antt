-- `demands::sum_at` meets its contract: the sum so far is that of the pieces so far, each term at most 10^15.
use Rattle.std.proofs.Common.{arith}
use Rattle.demand.specs.Ways.Ranges.{no_charge}
use Rattle.verdicts.specs.Laid.{term}
use Rattle.verdicts.proofs.CoreLaws.{total-more}
use Rattle.verdicts.proofs.demands.sum_at.Goals as goal

pub loop-q-preserved : goal.loop-q-preserved
loop-q-preserved c =
    let more = total-more c.core.inside.pieces.now c.loop-q.q-index no_charge c.loop-q-test.true (term c.args.sum c.args.t) in
    (cc (more, c.loop-q.invariant.0, c.term_of-so_far.ensures.0), omega arith)
