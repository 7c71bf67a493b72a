-- Edits on a held plan: document 01, "Edits on a held plan" and "Refusal numbers".
--
--   by_name               tasks are known by their names
--   TaskEdit             a task to add, a name to withdraw, or a task with other times for the one of its name
--   tasks_held s          the tasks that the state s holds
--   edit_fault e ts       what is wrong with the edit e of the tasks ts before any walk: 8, then 3, then 4 or 5, then 6; or 0
--   edit_of e s           the answer: the state's own faults first, then the edit's, then 7; each gives the state back; else the new plan
--   edit_reply r s           the answer that the result r is, with the plan s that it leaves
--   SameAnswer x y       the answers x and y are the same, and so are their plans where they are accepted
--   afresh s             the plan worked out afresh from the state's machine, costs and task list
--   Afresh s             the state is that plan, also past its counts: so is every plan that is answered
--   row_in s q            the pieces on core q of the plan s, from 0, as it keeps them, in placement order
--   Held s               a held plan: its rows and words are exactly those of the walk over its own machine, costs and task list; a row is what the walk
--                        placed on the core, and a word has a bit for each task that it placed something of there, and no other
--   played es s          the state after the edits es, refusals among them
use Rattle.std.specs.Prelude.{◌≡◌, Bool, cond, not, ◌↔◌, List, [], ◌∷◌, map, ℕ, zero, suc, ◌≤◌, ◌<◌, eqb, ltb, length, get_or, Result, Ok, Err}
use Rattle.demand.specs.Sizes.{sized}
use Rattle.demand.specs.Tables.{Kept}
use Rattle.task.specs.declared.Name.{Name}
use Rattle.task.specs.declared.Task.{Task}
use Rattle.task.specs.Names.{formed, same_name}
use Rattle.task.specs.Tasks.{cores_most, tasks_most, whole_piece, list_of, place_of, rule, state_fault}
use Rattle.task.specs.Refusals.{state_table}
use Rattle.walks.specs.Way.{Placed, fine, on_core}
use Rattle.walks.specs.Edits.{Keyed, Edit, add, withdraw, retime, edited}
use Rattle.walks.specs.Halves.{Stand}
use Rattle.plan.specs.declared.Stored.{Stored}
use Rattle.task.specs.Faults.{number_of}
use Rattle.plan.specs.declared.Plan.{Plan}
use Rattle.task.specs.declared.faults.Refused.{Refused}
use Rattle.plan.specs.Reply.{Reply}
use Rattle.plan.specs.Walk.{walked}
use Rattle.plan.specs.Layout.{blank}
use Rattle.plan.specs.Plan.{plan_of}
use Rattle.plan.specs.Places.{of_task}
use Rattle.plan.specs.Shows.{stored_of, numbers_on, bit_of}

abbrev pub by_name : Keyed Task Name
by_name = record { key = λ t. t.name; same = same_name }

abbrev pub TaskEdit : Type 0
TaskEdit = Edit Task Name

abbrev pub tasks_held : Plan → List Task
tasks_held s = list_of s.tasks

-- ---- what is wrong with an edit

-- one of them has that name
abbrev pub named : Name → List Task → Bool
named n ts = not (eqb (place_of 1 n ts) 0)

unfoldable pub edit_fault : TaskEdit → List Task → ℕ
edit_fault (add t) ts =
    rule (formed t.name) 8
    (rule (sized (whole_piece t.times)) 3
    (rule (not (named t.name ts)) 4
    (rule (ltb (length ts) tasks_most) 6
    0)))
edit_fault (withdraw n) ts =
    rule (formed n) 8
    (rule (named n ts) 5
    0)
edit_fault (retime t) ts =
    rule (formed t.name) 8
    (rule (sized (whole_piece t.times)) 3
    (rule (named t.name ts) 5
    0))

-- ---- the answer

-- a refusal gives the state back
abbrev pub given_back : Plan → ℕ → ℕ → Reply
given_back s n k = record { number = n; carries = k; plan = s }

-- and so does a fault
abbrev pub back_at : ℕ → Plan → Reply → Reply
back_at zero s r = r
back_at (suc n) s r = given_back s (suc n) 0

abbrev pub settled : Plan → Reply → Reply
settled s r = cond (eqb r.number 0) r (given_back s r.number r.carries)

abbrev pub replanned : Plan → List Task → Reply
replanned s ts = settled s (plan_of s.machine s.costs (length ts) ts)

unfoldable pub edit_of : TaskEdit → Plan → Reply
edit_of e s =
    back_at (state_fault s.machine s.costs s.tasks.count s.tasks.list) s
    (back_at (edit_fault e (tasks_held s)) s
    (replanned s (edited by_name e (tasks_held s))))

-- two answers are the same, but for the state that a refusal gives back
pub record SameAnswer (x y : Reply) : Type 0 where
  pub number : x.number ≡ y.number
  pub carries : x.carries ≡ y.carries
  pub plan : x.number ≡ 0 → x.plan ≡ y.plan

-- ---- held plans

abbrev pub accepted : Plan → Reply
accepted s = record { number = 0; carries = 0; plan = s }

-- the code's result and the plan that it leaves, as an answer: where it is refused, the plan is the state
abbrev pub edit_reply : Result Unit Refused → Plan → Reply
edit_reply (Ok done) s = accepted s
edit_reply (Err r) s = given_back s (number_of r.fault) r.carries

abbrev pub afresh : Plan → Reply
afresh s = plan_of s.machine s.costs s.tasks.count s.tasks.list

unfoldable pub Afresh : Plan → Type 0
Afresh s = afresh s ≡ accepted s

abbrev pub row_in : Plan → ℕ → List Stored
row_in s q = map (λ i. get_or s.layout.pieces i blank) (numbers_on s.layout q)

pub record Held (s : Plan) : Type 0 where
  pub sane : Kept (state_table s.machine s.costs s.tasks.count s.tasks.list)
  pub stand : Stand
  pub log : List (Placed ℕ)
  pub walks : walked s.machine s.costs (tasks_held s) ≡ fine stand log
  pub rows : (q : ℕ) → q < cores_most → row_in s q ≡ map stored_of (on_core q log)
  pub words : (q k : ℕ) → q < cores_most → (bit_of (get_or s.layout.words q 0) k ≡ 1) ↔ (1 ≤ length (of_task k (on_core q log)))

abbrev pub played : List TaskEdit → Plan → Plan
played [] s = s
played (e ∷ es) s = played es (edit_of e s).plan
