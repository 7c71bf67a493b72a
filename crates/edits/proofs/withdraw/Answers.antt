-- `withdraw` meets its contract: the plan's own fault, the edit's, or the plan of the new list.
-- Assumes nothing.
use Rattle.std.proofs.Common.{sym, ◌∙◌}
use Rattle.std.proofs.lemmas.Result.{err_from_is_err_and}
use Rattle.task.proofs.TaskLaws.{state-sane}
use Rattle.walks.specs.Edits.{withdraw}
use Rattle.edits.proofs.EditLaws.{edit-state, edit-own, edit-made}
use Rattle.edits.proofs.withdraw.Goals as goal

pub returns-in_err-state_fault : goal.returns-in_err-state_fault
returns-in_err-state_fault c = record {
  exact =
      let p = err_from_is_err_and c.from_residual.result c.from_residual.ensures.1 in
      rw (p.1, p.2) (edit-state (withdraw c.args.name) c.args.plan.now c.in_err-state_fault.field-0.0 c.in_err-state_fault.ensures.exact);
}

pub returns-in_err-withdraw_fault : goal.returns-in_err-withdraw_fault
returns-in_err-withdraw_fault c = record {
  exact =
      let p = err_from_is_err_and c.from_residual-in_err-withdraw_fault.result c.from_residual-in_err-withdraw_fault.ensures.1 in
      rw (p.1, p.2) (edit-own (withdraw c.args.name) c.args.plan.now (sym c.in_ok-state_fault.ensures.exact)
      c.in_err-withdraw_fault.field-0.0 c.in_err-withdraw_fault.ensures);
}

pub remove-next-requires : goal.remove-next-requires
remove-next-requires c =
    let s = c.args.plan.now in
    ((state-sane s.machine s.costs s.tasks.count s.tasks.list (sym c.in_ok-state_fault.ensures.exact)).few, sym c.in_ok-withdraw_fault.ensures)

pub returns : goal.returns
returns c = record {
  exact =
      c.replan.ensures
      ∙ edit-made (withdraw c.args.name) c.args.plan.now (sym c.in_ok-state_fault.ensures.exact)
      (sym c.in_ok-withdraw_fault.ensures) c.remove-next.result c.remove-next.ensures;
}
