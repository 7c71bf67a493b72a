-- `plan_reached` meets its contract: a fault is refused; else the walk over the packing order of the tasks is the definition's, stuck or not, and the
-- plan is of what was placed until then.
use Rattle.std.proofs.Common.{◌≤◌, sym, arith, length, take, length-take}
use Rattle.std.proofs.lemmas.Result.{err_from_is_err_and}
use Rattle.task.proofs.TaskLaws.{state-sane}
use Rattle.plan.proofs.PlanLaws.{walk-fits, walk-planned-ends}
use Rattle.plan.proofs.ReplyLaws.{all-fits, walk-replied, fault-replied}
use Rattle.plan.proofs.plan_reached.Goals as goal

pub returns-in_err-state_fault : goal.returns-in_err-state_fault
returns-in_err-state_fault c = record {
  exact =
      let s = c.args in
      let p = err_from_is_err_and c.from_residual.result c.from_residual.ensures.1 in
      rw (p.1, p.2) (fault-replied s.machine s.costs s.tasks.count s.tasks.list c.in_err-state_fault.field-0.0 c.in_err-state_fault.ensures.exact);
}

pub order_of-order-requires : goal.order_of-order-requires
order_of-order-requires c =
    let s = c.args in
    let ok = state-sane s.machine s.costs s.tasks.count s.tasks.list (sym c.in_ok-state_fault.ensures.exact) in
    rw c.held-held.ensures.exact (omega (arith, ok.few, length-take s.tasks.count s.tasks.list), ok.timed)

pub walk_over-stuck-requires-clause-walk_fits : goal.walk_over-stuck-requires-clause-walk_fits
walk_over-stuck-requires-clause-walk_fits c =
    let s = c.args in
    let ok = state-sane s.machine s.costs s.tasks.count s.tasks.list (sym c.in_ok-state_fault.ensures.exact) in
    let held = c.held-held.ensures.exact in
    let order = c.order_of-order in
    let few : length (take (length (take s.tasks.count s.tasks.list)) order.result) ≤ 64 =
    omega (arith, ok.few, length-take s.tasks.count s.tasks.list, length-take (length (take s.tasks.count s.tasks.list)) order.result) in
    rw held (walk-fits s.machine s.costs s.tasks.count s.tasks.list ok _ (rw held at order.ensures.0) (rw held at order.ensures.1) few)

pub tidy-requires : goal.tidy-requires
tidy-requires c =
    let s = c.args in
    let ok = state-sane s.machine s.costs s.tasks.count s.tasks.list (sym c.in_ok-state_fault.ensures.exact) in
    ok.few

pub layout_of-requires : goal.layout_of-requires
layout_of-requires c =
    let s = c.args in
    all-fits s.machine s.costs s.tasks.count s.tasks.list (sym c.in_ok-state_fault.ensures.exact) _ c.walk_over-stuck.result
    (walk-planned-ends s.machine s.costs c.held-held.result.now (take s.tasks.count s.tasks.list) c.held-held.ensures.exact _
    c.order_of-order.ensures.0 _ c.walk_over-stuck.result c.walk_over-stuck.ensures)

pub returns : goal.returns
returns c = record {
  exact =
      let s = c.args in
      walk-replied s.machine s.costs s.tasks.count s.tasks.list (sym c.in_ok-state_fault.ensures.exact) _ c.walk_over-stuck.result
      (walk-planned-ends s.machine s.costs c.held-held.result.now (take s.tasks.count s.tasks.list) c.held-held.ensures.exact _
      c.order_of-order.ensures.0 _ c.walk_over-stuck.result c.walk_over-stuck.ensures)
      c.tidy.result c.tidy.ensures c.layout_of.result c.layout_of.ensures;
}
