-- `layouts::tidy` meets its contract: zeros are written from the count on.
use Rattle.std.proofs.Common.{◌≡◌, arith, rules, length}
use lib.Seq.{length-take-le}
use Rattle.demand.proofs.RunLaws.{length-mapped}
use Rattle.plan.proofs.Lists.{filled}
use Rattle.task.specs.Tasks.{no_task}
use Rattle.plan.proofs.layouts.tidy.Goals as goal

pub returns : goal.returns
returns c =
    let s = c.args.tasks in
    let long : length s.list ≡ 64 = search (rules, length-mapped) in
    cc (
      length-take-le s.count s.list (omega (arith, c.requires)),
      filled s.list s.count 64 no_task long c.requires c.fill.new.self (rw (← c.no_task.ensures.exact) (c.fill.ensures.after (λ y e. e))),
    )
