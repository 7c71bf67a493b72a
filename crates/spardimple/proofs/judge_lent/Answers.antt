-- `judge_lent` meets its contract: the answer for the copied pieces is that for the lent ones.
use mathlib.Core.Path.{refl, sym, ◌∙◌}
use lib.ListN.{length}
use lib.Seq.{take_at}
use Rattle.demand.specs.declared.Refusal.TheVariants.{TooMany}
use Rattle.demand.proofs.RunLaws.{check-many, answer-bad}
use Rattle.spardimple.proofs.HoldingLaws.{holds-answer}
use Rattle.spardimple.proofs.judge_lent.Goals as goal

pub returns-then-pieces-gt-RUN_MOST : goal.returns-then-pieces-gt-RUN_MOST
returns-then-pieces-gt-RUN_MOST c = record {
  exact =
      let ps = c.args.pieces.now in
      sym (answer-bad c.args.costs (length ps) ps TooMany (check-many c.args.costs (length ps) ps c.if-pieces-gt-RUN_MOST.true));
}

pub returns : goal.returns
returns c = record {
  exact = c.judge.ensures.exact ∙ holds-answer c.args.pieces.now c.args.costs _ (λ few. rw c.copy_from_slice.ensures.after (take_at c.args.pieces.now _ (length c.args.pieces.now) refl));
}
