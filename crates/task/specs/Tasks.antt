-- Parts, tasks and the machine, and what breaks a rule for them: document 01, "Sizes", "Refusal numbers", "Edits on a held plan".
--
--   whole_piece t       the whole piece of a task with the times t
--   SizedMachine m     m and grain are within their sizes; sized_machine m: the same as a test
--   no_times, no_part, no_task, no_machine   what a struct has where nothing is said: zeros
--   task_of n p         the task n fitted with the part p: every task is made so
--   place_by key k n xs the place of the first of xs with the name n, counted from k, or 0
--   place_of k n ts     of the first task named n
--   place_number p      the place p, from 0, counted from 1; no place is 0
--   part_place k n ps   of the first part named n
--   tasks_of ts         the tasks ts in an array of 64, with zeros past their end
--   list_of q           the tasks that q holds: the first `count`, whatever stands past them
--   task_at ts i        the task at place i, from 0
--   own_fault t         what is wrong with the task t by itself: 8, then 3, or 0
--   fault_of above t    what is wrong with the task t below others: 8, then 3, then 4, or 0
--   first_fault above ts   the first such fault down the list
--   state_fault m c n ts   1, then 2, then 6, then the first bad task's
use Rattle.std.specs.Prelude.{Bool, true, false, cond, ◌&&◌, List, [], ◌∷◌, ◌++◌, Option, None, Some, ℕ, zero, suc, ◌+◌, ◌≤◌, leb, eqb, take, length, get_or}
use Rattle.demand.specs.declared.Kind.TheVariants.{Whole}
use Rattle.demand.specs.declared.Piece.{Piece}
use Rattle.demand.specs.declared.Costs.{Costs}
use Rattle.demand.specs.Lists.{padded}
use Rattle.demand.specs.Sizes.{sized, sized_costs, time_most}
use Rattle.task.specs.declared.Name.{Name}
use Rattle.task.specs.declared.Times.{Times}
use Rattle.task.specs.declared.Part.{Part}
use Rattle.task.specs.declared.Task.{Task}
use Rattle.task.specs.declared.Tasks.{Tasks}
use Rattle.task.specs.declared.Machine.{Machine}
use Rattle.task.specs.Names.{no_name, formed, same_name}

abbrev pub cores_most : ℕ
cores_most = 16

abbrev pub tasks_most : ℕ
tasks_most = 64

abbrev pub no_times : Times
no_times = record { worst = 0; deadline = 0; period = 0; jitter = 0; preempt = 0; migrate = 0 }

abbrev pub no_part : Part
no_part = record { name = no_name; times = no_times }

abbrev pub no_task : Task
no_task = record { name = no_name; times = no_times }

abbrev pub no_machine : Machine
no_machine = record { cores = 0; grain = 0 }

abbrev pub task_of : Name → Part → Task
task_of n p = record { name = n; times = p.times }

unfoldable pub whole_piece : Times → Piece
whole_piece t = record { kind = Whole; budget = t.worst; window = t.deadline; period = t.period; jitter = t.jitter; preempt = t.preempt; migrate = t.migrate }

pub record SizedMachine (m : Machine) : Type 0 where
  pub cores-some : 1 ≤ m.cores
  pub cores-fit : m.cores ≤ cores_most
  pub grain-some : 1 ≤ m.grain
  pub grain-fits : m.grain ≤ time_most

unfoldable pub sized_machine : Machine → Bool
sized_machine m = leb 1 m.cores && leb m.cores cores_most && leb 1 m.grain && leb m.grain time_most

abbrev pub tasks_of : List Task → Tasks
tasks_of ts = record { count = length ts; list = padded tasks_most no_task ts }

abbrev pub list_of : Tasks → List Task
list_of q = take q.count q.list

abbrev pub place_by : {A : Type 0} → (A → Name) → ℕ → Name → List A → ℕ
place_by key k n [] = 0
place_by key k n (x ∷ xs) = cond (same_name n (key x)) k (place_by key (k + 1) n xs)

abbrev pub place_of : ℕ → Name → List Task → ℕ
place_of k n ts = place_by (λ t. t.name) k n ts

abbrev pub place_number : Option ℕ → ℕ
place_number None = 0
place_number (Some i) = suc i

abbrev pub part_place : ℕ → Name → List Part → ℕ
part_place k n ps = place_by (λ p. p.name) k n ps

-- the first rule that is broken, by its number
abbrev pub rule : Bool → ℕ → ℕ → ℕ
rule true n rest = rest
rule false n rest = n

-- what a list of tasks is said to hold past its end, and the task at a place, from 0
abbrev pub past : Task
past = record { name = record { len = 0; bytes = [] }; times = no_times }

abbrev pub task_at : List Task → ℕ → Task
task_at ts i = get_or ts i past

abbrev pub own_fault : Task → ℕ
own_fault t = rule (formed t.name) 8 (rule (sized (whole_piece t.times)) 3 0)

unfoldable pub fault_of : List Task → Task → ℕ
fault_of above t = rule (formed t.name) 8 (rule (sized (whole_piece t.times)) 3 (rule (eqb (place_of 1 t.name above) 0) 4 0))

abbrev pub or_else : ℕ → ℕ → ℕ
or_else zero n = n
or_else (suc k) n = suc k

abbrev pub first_fault : List Task → List Task → ℕ
first_fault above [] = 0
first_fault above (t ∷ ts) = or_else (fault_of above t) (first_fault (above ++ (t ∷ [])) ts)

unfoldable pub state_fault : Machine → Costs → ℕ → List Task → ℕ
state_fault m c n ts = rule (sized_machine m) 1 (rule (sized_costs c) 2 (rule (leb n tasks_most) 6 (first_fault [] (take n ts))))
