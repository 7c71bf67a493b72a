-- `lists::withdraw_fault` meets its contract: the rules in their order.
-- Assumes nothing.
use Rattle.std.proofs.Common.{◌≡◌, true, false}
use Rattle.task.specs.Names.{formed}
use Rattle.task.specs.Tasks.{list_of}
use Rattle.edits.specs.Edits.{edit_fault}
use Rattle.edits.proofs.EditLaws.{found-no, found-yes}
use Rattle.edits.proofs.lists.withdraw_fault.Goals as goal

pub returns-then-not-well_formed : goal.returns-then-not-well_formed
unfolding edit_fault
returns-then-not-well_formed c =
    let bad : formed c.args.name ≡ false = cc (c.well_formed-2.ensures.exact, c.if-not-well_formed.true) in
    rw bad

pub returns-then-is_none : goal.returns-then-is_none
unfolding edit_fault
returns-then-is_none c =
    let good : formed c.args.name ≡ true = cc (c.well_formed-2.ensures.exact, c.if-not-well_formed.false) in
    rw (good, found-no c.args.name (list_of c.args.tasks) c.place_of.result c.place_of.ensures.exact c.if-is_none.ensures)

pub returns : goal.returns
unfolding edit_fault
returns c =
    let good : formed c.args.name ≡ true = cc (c.well_formed-2.ensures.exact, c.if-not-well_formed.false) in
    rw (good, found-yes c.args.name (list_of c.args.tasks) c.place_of.result c.place_of.ensures.exact c.if-is_none.ensures)
