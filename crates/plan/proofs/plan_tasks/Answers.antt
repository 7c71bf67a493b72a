-- `plan_tasks` meets its contract: where the walk does not stick the reply is the plan's, and a refusal's plan is dropped.
use Rattle.std.proofs.Common.{◌≡◌, ap, arith, rules, length, length-take, add-one}
use Rattle.std.proofs.lemmas.Result.{err_from_is_err_and}
use Rattle.demand.proofs.RunLaws.{length-mapped}
use Rattle.task.specs.Tasks.{place_number}
use Rattle.plan.specs.Plan.{stuck_number}
use Rattle.task.proofs.FaultLaws.{number-some}
use Rattle.plan.proofs.ReplyLaws.{reply-refused, reply-kept, reply-place}
use Rattle.plan.proofs.plan_tasks.Goals as goal

pub returns-in_err-reached : goal.returns-in_err-reached
returns-in_err-reached c = record {
  exact =
      let s = c.args in
      let p = err_from_is_err_and c.from_residual.result c.from_residual.ensures.1 in
      rw (p.1, p.2) (reply-refused s.machine s.costs s.tasks.count s.tasks.list _ c.in_err-reached.ensures.exact
      (number-some c.in_err-reached.field-0.0.fault));
}

pub overflow_add-result : goal.overflow_add-result
overflow_add-result c =
    let s = c.args in
    let long : length s.tasks.list ≡ 64 = search (rules, length-mapped) in
    let low = reply-place s.machine s.costs s.tasks.count s.tasks.list _ c.in_ok-reached.ensures.exact c.in-Some.place
    (ap stuck_number c.in-Some.is) (ap place_number c.in-Some.is) in
    record { fits = omega (arith, low, length-take s.tasks.count s.tasks.list) }

pub returns-in-Some : goal.returns-in-Some
returns-in-Some c = record {
  exact =
      let s = c.args in
      rw add-one (rw c.in-Some.is at (reply-refused s.machine s.costs s.tasks.count s.tasks.list _ c.in_ok-reached.ensures.exact
      (λ none. omega (arith, none, ap stuck_number c.in-Some.is))));
}

pub returns-in-None : goal.returns-in-None
returns-in-None c = record {
  exact =
      let s = c.args in
      rw c.in-None.is at (reply-kept s.machine s.costs s.tasks.count s.tasks.list _ c.in_ok-reached.ensures.exact (ap stuck_number c.in-None.is));
}
