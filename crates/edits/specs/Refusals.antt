-- The refusals of an edit, as a table: document 01, "Refusal numbers": the state's, then "Edits: 8, 3, 4 or 5, 6, 7". All carry 0, but for 7.
-- `proofs/RefusalLaws.antt` has that `edit_of` answers by it.
--
--   own_table e ts      the edit's own rules, for the tasks ts that are held
--   edit_table e s      the rules of the state s, then the edit's own, then the walk's over the tasks after it
use Rattle.std.specs.Prelude.{List, [], ◌∷◌, ◌++◌, ◌≤◌, length}
use Rattle.demand.specs.Sizes.{Sized}
use Rattle.demand.specs.Tables.{Rule, ◌if◌carrying◌, Not}
use Rattle.task.specs.declared.Task.{Task}
use Rattle.task.specs.Names.{Formed}
use Rattle.task.specs.Tasks.{tasks_most, whole_piece}
use Rattle.task.specs.Refusals.{TaskNamed, task_table, state_table}
use Rattle.walks.specs.Edits.{add, withdraw, retime, edited}
use Rattle.plan.specs.declared.Plan.{Plan}
use Rattle.plan.specs.Refusals.{walk_table}
use Rattle.edits.specs.Edits.{by_name, TaskEdit, tasks_held}

unfoldable pub own_table : TaskEdit → List Task → List Rule
own_table (add t) ts = task_table ts t ++ (6 if (tasks_most ≤ length ts) carrying 0 ∷ [])
own_table (withdraw n) ts =
    8 if Not (Formed n) carrying 0
    ∷ 5 if Not (TaskNamed n ts) carrying 0
    ∷ []
own_table (retime t) ts =
    8 if Not (Formed t.name) carrying 0
    ∷ 3 if Not (Sized (whole_piece t.times)) carrying 0
    ∷ 5 if Not (TaskNamed t.name ts) carrying 0
    ∷ []

unfoldable pub edit_table : TaskEdit → Plan → List Rule
edit_table e s =
    state_table s.machine s.costs s.tasks.count s.tasks.list
    ++ (own_table e (tasks_held s)
    ++ walk_table s.machine s.costs (edited by_name e (tasks_held s)))
