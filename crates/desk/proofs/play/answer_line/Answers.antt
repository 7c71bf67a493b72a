-- `play::answer_line` meets its contract: the plan is the one that the line's order leaves.
-- Assumes nothing.
use Rattle.desk.proofs.DeskLaws.{after-line}
use Rattle.desk.proofs.play.answer_line.Goals as goal

pub returns : goal.returns
returns g c =
    after-line c.args.line.now c.args.plan.now c.reply_to-reply.new.plan c.order-order.result c.reply_to-reply.result c.order-order.ensures c.reply_to-reply.ensures
