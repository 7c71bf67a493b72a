-- The plan of a machine, costs and a task list, and the refusals before it: document 01, "The C=D walk", "Edits on a held plan", "Refusal numbers".
--
--   no_plan               what a refusal has for a plan: zeros
--   plan_placed m c ts l  the plan of a machine, costs and tasks, of which l was placed
--   plan_of m c n ts      the answer for the first n of ts: 1, 2, 6, then at the first bad task 8, 3 or 4; 7 with the task's place; else the plan
--   reached_of m c n ts   the same answer, and with 7 a plan all the same: of what was placed before the walk stuck
--   plan_reply r            the answer that the result r is
--   reached_reply r       the same of a walk that may have stuck: 7 with the place from 1
use Rattle.std.specs.Prelude.{List, [], ℕ, zero, suc, take, Option, None, Some, Result, Ok, Err}
use Rattle.demand.specs.declared.Costs.{Costs}
use Rattle.demand.specs.Charge.{no_costs}
use Rattle.task.specs.declared.Task.{Task}
use Rattle.task.specs.declared.Machine.{Machine}
use Rattle.task.specs.Tasks.{no_machine, tasks_of, place_number, state_fault}
use Rattle.task.specs.Faults.{number_of}
use Rattle.plan.specs.declared.Plan.{Plan}
use Rattle.task.specs.declared.faults.Refused.{Refused}
use Rattle.plan.specs.declared.Reached.{Reached}
use Rattle.plan.specs.Reply.{Reply}
use Rattle.walks.specs.Way.{Placed, Ending, fine, stuck}
use Rattle.walks.specs.Halves.{Stand}
use Rattle.plan.specs.Walk.{walked, walked_until}
use Rattle.plan.specs.Layout.{layout_on, none}

unfoldable pub no_plan : Plan
no_plan = record {
  machine = no_machine;
  costs = no_costs;
  tasks = tasks_of [];
  layout = none;
}

abbrev pub refused : ℕ → ℕ → Reply
refused n k = record { number = n; carries = k; plan = no_plan }

abbrev pub plan_placed : Machine → Costs → List Task → List (Placed ℕ) → Plan
plan_placed m c ts l = record { machine = m; costs = c; tasks = tasks_of ts; layout = layout_on none l }

abbrev pub finished : Machine → Costs → List Task → Ending Stand ℕ → Reply
finished m c ts (fine s l) = record { number = 0; carries = 0; plan = plan_placed m c ts l }
finished m c ts (stuck k n) = refused n (suc k)

abbrev pub unless_fault : ℕ → Reply → Reply
unless_fault zero r = r
unless_fault (suc n) r = refused (suc n) 0

unfoldable pub plan_of : Machine → Costs → ℕ → List Task → Reply
plan_of m c n ts = unless_fault (state_fault m c n ts) (finished m c (take n ts) (walked m c (take n ts)))

-- a walk's answer with the plan that it reached: where it does not stick, the plan that it answers
abbrev pub reaching : Plan → Reply → Reply
reaching p r = record { number = r.number; carries = r.carries; plan = p }

unfoldable pub reached_of : Machine → Costs → ℕ → List Task → Reply
reached_of m c n ts = unless_fault (state_fault m c n ts) (reaching (plan_placed m c (take n ts) (walked_until m c (take n ts))) (finished m c (take n ts) (walked m c (take n ts))))

-- ---- the code's results

abbrev pub plan_reply : Result Plan Refused → Reply
plan_reply (Ok p) = record { number = 0; carries = 0; plan = p }
plan_reply (Err r) = refused (number_of r.fault) r.carries

abbrev pub stuck_number : Option ℕ → ℕ
stuck_number None = 0
stuck_number (Some k) = 7

abbrev pub reached_reply : Result Reached Refused → Reply
reached_reply (Ok r) = record { number = stuck_number r.stuck; carries = place_number r.stuck; plan = r.plan }
reached_reply (Err r) = refused (number_of r.fault) r.carries
