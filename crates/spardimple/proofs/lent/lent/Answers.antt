-- `lent::lent` meets its contract: refused by the form, or by the records' count; else both are read.
use mathlib.Core.Path.{◌≡◌, ap}
use mathlib.Core.Logic.{inr}
use borrow.Author.Rules.{rules}
use Rattle.std.specs.Prelude.{Err}
use Rattle.task.specs.Faults.{refused_as}
use Rattle.spardimple.proofs.LentLaws.{measured-whole}
use Rattle.spardimple.proofs.lent.lent.Goals as goal

pub returns-in_err-measure : goal.returns-in_err-measure
returns-in_err-measure c =
    let same : c.from_residual.result ≡ Err c.in_err-measure.field-0.0 = search rules in
    rw same c.in_err-measure.ensures

pub read_costs-requires : goal.read_costs-requires
read_costs-requires c = (measured-whole c.args.records.now c.args.costs.now c.in_ok-measure.ensures).1

pub returns-in_err-run : goal.returns-in_err-run
returns-in_err-run c =
    let same : c.from_residual-in_err-run.result ≡ Err (refused_as c.in_err-run.field-0.0) = search rules in
    rw same (inr (c.in_ok-measure.ensures, c.in_err-run.ensures.1, ap refused_as c.in_err-run.ensures.0))

pub returns : goal.returns
returns c = (c.in_ok-measure.ensures, c.read_costs.ensures, c.in_ok-run.ensures)
