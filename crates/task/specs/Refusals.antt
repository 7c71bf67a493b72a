-- The refusals of a machine, costs and a task list, as a table: document 01, "Edits on a held plan": "A state made by hand that breaks a rule for these
-- is 1, 2, 6 (over 64 tasks), then at its first bad task 8, 3 or 4 .. carrying 0". The tasks are the first n of ts.
-- `proofs/RefusalLaws.antt` has that `state_fault` finds what it says.
--
--   TaskNamed n ts, PartNamed n ps     one of the tasks, one of the parts, has the name n
--   task_table above t                  one task, below others
--   state_table m c n ts                all
use Rattle.std.specs.Prelude.{◌≡◌, List, [], ◌∷◌, ◌++◌, ℕ, ◌<◌, take}
use Rattle.demand.specs.declared.Costs.{Costs}
use Rattle.demand.specs.Sizes.{Sized, SizedCosts, SomeOf}
use Rattle.demand.specs.Tables.{Rule, ◌if◌carrying◌, Not, down_each}
use Rattle.task.specs.declared.Name.{Name}
use Rattle.task.specs.declared.Part.{Part}
use Rattle.task.specs.declared.Task.{Task}
use Rattle.task.specs.declared.Machine.{Machine}
use Rattle.task.specs.Names.{Formed}
use Rattle.task.specs.Tasks.{tasks_most, whole_piece, SizedMachine}

abbrev pub TaskNamed : Name → List Task → Type 0
TaskNamed n ts = SomeOf (λ t. t.name ≡ n) ts

abbrev pub PartNamed : Name → List Part → Type 0
PartNamed n ps = SomeOf (λ p. p.name ≡ n) ps

abbrev pub task_table : List Task → Task → List Rule
task_table above t =
    8 if Not (Formed t.name) carrying 0
    ∷ 3 if Not (Sized (whole_piece t.times)) carrying 0
    ∷ 4 if TaskNamed t.name above carrying 0
    ∷ []

unfoldable pub state_table : Machine → Costs → ℕ → List Task → List Rule
state_table m c n ts =
    1 if Not (SizedMachine m) carrying 0
    ∷ 2 if Not (SizedCosts c) carrying 0
    ∷ 6 if (tasks_most < n) carrying 0
    ∷ down_each (λ above k t. task_table above t) (λ above t. above ++ (t ∷ [])) [] 1 (take n ts)
