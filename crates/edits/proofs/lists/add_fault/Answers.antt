-- `lists::add_fault` meets its contract: the rules in their order.
-- Assumes nothing.
use Rattle.std.proofs.Common.{rules, ◌≡◌, length}
use Rattle.std.proofs.lemmas.Result.{err_from_is_err_and}
use Rattle.demand.proofs.RunLaws.{length-mapped}
use Rattle.task.specs.Tasks.{list_of}
use Rattle.edits.proofs.ListLaws.{room-none, room-some}
use Rattle.edits.proofs.EditLaws.{add-below, add-last}
use Rattle.edits.proofs.lists.add_fault.Goals as goal

pub returns-in_err-task_fault : goal.returns-in_err-task_fault
returns-in_err-task_fault c =
    let p = err_from_is_err_and c.from_residual.result c.from_residual.ensures.1 in
    rw (p.1, p.2) (add-below c.args.task (list_of c.args.tasks) c.in_err-task_fault.field-0.0
    (rw c.held.ensures.exact at c.in_err-task_fault.ensures.exact))

pub returns-then-tasks-ge-TASKS_MOST : goal.returns-then-tasks-ge-TASKS_MOST
returns-then-tasks-ge-TASKS_MOST c =
    let q = c.args.tasks in
    let long : length q.list ≡ 64 = search (rules, length-mapped) in
    add-last c.args.task (list_of q) (rw c.held.ensures.exact at c.in_ok-task_fault.ensures.exact) 6 (rw (room-none q long c.if-tasks-ge-TASKS_MOST.true))

pub returns : goal.returns
returns c =
    let q = c.args.tasks in
    let long : length q.list ≡ 64 = search (rules, length-mapped) in
    add-last c.args.task (list_of q) (rw c.held.ensures.exact at c.in_ok-task_fault.ensures.exact) 0 (rw (room-some q long c.if-tasks-ge-TASKS_MOST.false))
