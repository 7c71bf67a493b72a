-- `drafts::Draft::read` meets its contract: by the fault of the line's form, and by what it adds.
-- Assumes nothing.
use mathlib.Core.Path.{◌≡◌, sym, ap, ◌∙◌}
use Rattle.std.proofs.Common.{Some}
use Rattle.lines.specs.declared.Line.{Line}
use Rattle.lines.specs.Forms.{line_of}
use Rattle.sheet.specs.Sheet.{line_fault}
use Rattle.sheet.proofs.StandLaws.{part-judged, part-on, fit-judged, fit-on}
use Rattle.sheet.proofs.drafts.Draft.read.Goals as goal

pub returns-in_ok-part_fault-in-Some-Part-clause-after : goal.returns-in_ok-part_fault-in-Some-Part-clause-after
returns-in_ok-part_fault-in-Some-Part-clause-after c a held =
    let p = c.in-Some-Part.part in
    let says : Some (Line.Part p) ≡ line_of c.args.line.now = ap Some (sym c.in-Some-Part.field-0-is) ∙ c.in-Some-Part.ensures.exact in
    let none : line_fault a (Some (Line.Part p)) ≡ 0 =
    sym (c.in_ok-part_fault-in-Some-Part.ensures ∙ part-judged a c.args.self.now held c.held.result.now c.held.ensures.items p) in
    rw (← says) (part-on a c.args.self.now held c.held.result.now c.held.ensures.items p none c.push.new.self c.push.ensures.count c.push.ensures.list)

pub returns-in_ok-task-in-Some-Fit-clause-after : goal.returns-in_ok-task-in-Some-Fit-clause-after
returns-in_ok-task-in-Some-Fit-clause-after c a held =
    let n = c.in-Some-Fit.task in
    let p = c.in-Some-Fit.part in
    let says : Some (Line.Fit n p) ≡ line_of c.args.line.now = ap Some (sym c.in-Some-Fit.field-0-is) ∙ c.in-Some-Fit.ensures.exact in
    let none : line_fault a (Some (Line.Fit n p)) ≡ 0 =
    sym (c.in_ok-task-in-Some-Fit.ensures.0
    ∙ fit-judged a c.args.self.now held c.held-in-Some-Fit.result.now c.held-in-Some-Fit.ensures.items
    c.held-in-Some-Fit-2.result.now c.held-in-Some-Fit-2.ensures.items n p) in
    rw (← says)
    (fit-on a c.args.self.now held c.held-in-Some-Fit.result.now c.held-in-Some-Fit.ensures.items
    c.held-in-Some-Fit-2.result.now c.held-in-Some-Fit-2.ensures.items n p c.in_ok-task-in-Some-Fit.task c.in_ok-task-in-Some-Fit.ensures.1 none
    c.push-in-Some-Fit.new.self c.push-in-Some-Fit.ensures.count c.push-in-Some-Fit.ensures.list)
