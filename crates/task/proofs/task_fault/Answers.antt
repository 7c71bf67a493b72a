-- `task_fault` meets its contract: the task's own fault, then a name that one above it has.
use Rattle.std.proofs.Common.{rules, tests, true, false, ◌∙◌, sym}
use Rattle.std.proofs.lemmas.Result.{err_from_is_err_and}
use Rattle.std.proofs.lemmas.Iterator.{YieldsList-from_slice}
use Rattle.std.proofs.lemmas.Iterator.Search.{any_from_yields_List}
use Rattle.task.specs.declared.Task.{Task}
use Rattle.task.specs.Names.{same_name}
use Rattle.task.proofs.TaskLaws.{any-place, fault-own, fault-below}
use Rattle.task.proofs.task_fault.Goals as goal

pub returns-in_err-own_fault : goal.returns-in_err-own_fault
returns-in_err-own_fault c = record {
  exact =
      let p = err_from_is_err_and c.from_residual.result c.from_residual.ensures.1 in
      rw (p.1, p.2) (fault-own c.args.above.now c.args.task c.in_err-own_fault.field-0.0 c.in_err-own_fault.ensures.exact);
}

pub returns-then-any : goal.returns-then-any
returns-then-any c = record {
  exact =
      let t = c.args.task in
      let found = any_from_yields_List (λ (u : Task). same_name t.name u.name) _ _ c.any.result c.any.ensures.ran
      (YieldsList-from_slice c.args.above.now c.iter.ensures.rest) (λ x b q k. search (rules, tests)) in
      fault-below c.args.above.now t c.in_ok-own_fault.ensures.exact true
      (sym c.if-any.true ∙ (found ∙ any-place (λ (u : Task). u.name) t.name 0 c.args.above.now));
}

pub returns : goal.returns
returns c = record {
  exact =
      let t = c.args.task in
      let found = any_from_yields_List (λ (u : Task). same_name t.name u.name) _ _ c.any.result c.any.ensures.ran
      (YieldsList-from_slice c.args.above.now c.iter.ensures.rest) (λ x b q k. search (rules, tests)) in
      fault-below c.args.above.now t c.in_ok-own_fault.ensures.exact false
      (sym c.if-any.false ∙ (found ∙ any-place (λ (u : Task). u.name) t.name 0 c.args.above.now));
}
