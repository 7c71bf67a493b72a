-- `sheets::planned` meets its contract: refused as the sheet is; else the answer for a plan of what it says.
use mathlib.Core.Path.{◌≡◌}
use borrow.Author.Rules.{rules}
use Rattle.std.specs.Prelude.{Err}
use Rattle.plan.specs.Plan.{plan_reply}
use Rattle.spardimple.proofs.StepLaws.{unread-plan, read-plan}
use Rattle.spardimple.proofs.sheets.planned.Goals as goal

pub returns-in_err-sheet : goal.returns-in_err-sheet
returns-in_err-sheet c =
    let same : c.from_residual.result ≡ Err c.in_err-sheet.field-0.0 = search rules in
    rw same (unread-plan c.args.bytes.now c.in_err-sheet.field-0.0 c.in_err-sheet.ensures.exact)

pub returns : goal.returns
returns c = read-plan c.args.bytes.now c.in_ok-sheet.sheet c.in_ok-sheet.ensures.exact (plan_reply c.plan_tasks.result) c.plan_tasks.ensures.exact
