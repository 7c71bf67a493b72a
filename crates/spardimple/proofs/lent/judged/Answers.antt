-- `lent::judged` meets its contract: refused as they are lent, or as the run is; else the verdict.
use mathlib.Core.Path.{◌≡◌, ◌∙◌}
use borrow.Author.Rules.{rules}
use Rattle.std.specs.Prelude.{Err, Ok}
use Rattle.task.specs.Faults.{refused_as}
use Rattle.spardimple.proofs.LentLaws.{unlent-told, lent-told, refused-said}
use Rattle.spardimple.proofs.lent.judged.Goals as goal

pub returns-in_err-measure : goal.returns-in_err-measure
returns-in_err-measure c =
    let same : c.from_residual.result ≡ Err c.in_err-measure.field-0.0 = search rules in
    rw same (unlent-told c.args.records.now c.args.costs.now c.in_err-measure.field-0.0 c.in_err-measure.ensures)

pub returns-in_err-costs : goal.returns-in_err-costs
returns-in_err-costs c =
    let same : c.from_residual-in_err-costs.result ≡ Err c.in_err-costs.field-0.0 = search rules in
    rw same (unlent-told c.args.records.now c.args.costs.now c.in_err-costs.field-0.0 c.in_err-costs.ensures)

pub returns-in_err-judge_records : goal.returns-in_err-judge_records
returns-in_err-judge_records c =
    let read = c.in_ok-costs.ensures in
    let same : c.from_residual-in_err-judge_records.result ≡ Err (refused_as c.in_err-judge_records.field-0.0) = search rules in
    rw same (refused-said c.in_err-judge_records.field-0.0
    ∙ lent-told c.args.records.now c.args.costs.now c.in_ok-costs.costs c.in_ok-costs.run'.now read.0 read.1 read.2 (Err c.in_err-judge_records.field-0.0) c.in_err-judge_records.ensures.exact)

pub returns : goal.returns
returns c =
    let read = c.in_ok-costs.ensures in
    lent-told c.args.records.now c.args.costs.now c.in_ok-costs.costs c.in_ok-costs.run'.now read.0 read.1 read.2 (Ok _) c.in_ok-judge_records.ensures.exact
