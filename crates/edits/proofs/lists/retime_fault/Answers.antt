-- `lists::retime_fault` meets its contract: the rules in their order.
-- Assumes nothing.
use Rattle.std.proofs.lemmas.Result.{err_from_is_err_and}
use Rattle.task.specs.Tasks.{list_of}
use Rattle.edits.proofs.EditLaws.{found-no, found-yes, retime-own, retime-last}
use Rattle.edits.proofs.lists.retime_fault.Goals as goal

pub returns-in_err-own_fault : goal.returns-in_err-own_fault
returns-in_err-own_fault c =
    let p = err_from_is_err_and c.from_residual.result c.from_residual.ensures.1 in
    rw (p.1, p.2) (retime-own c.args.task (list_of c.args.tasks) c.in_err-own_fault.field-0.0 c.in_err-own_fault.ensures.exact)

pub returns-then-is_none : goal.returns-then-is_none
returns-then-is_none c =
    let s = c.args in
    retime-last s.task (list_of s.tasks) c.in_ok-own_fault.ensures.exact 5
    (rw (found-no s.task.name (list_of s.tasks) c.place_of.result c.place_of.ensures.exact c.if-is_none.ensures))

pub returns : goal.returns
returns c =
    let s = c.args in
    retime-last s.task (list_of s.tasks) c.in_ok-own_fault.ensures.exact 0
    (rw (found-yes s.task.name (list_of s.tasks) c.place_of.result c.place_of.ensures.exact c.if-is_none.ensures))
