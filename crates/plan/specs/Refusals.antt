-- When the walk sticks, as a table: document 01, "The C=D walk" and "Refusal numbers": 7 "carries the task's place, from 1, in the list walked".
-- `proofs/RefusalLaws.antt` has that `plan_of` answers by it.
--
--   walk_table m c ts      7 at each task of the list ts, by its place
--   plan_table m c n ts    the rules of a machine, costs and a task list, then the walk's over the first n of ts
use Rattle.std.specs.Prelude.{◌≡◌, List, [], ◌∷◌, ◌++◌, ℕ, ◌+◌, take}
use Rattle.demand.specs.declared.Costs.{Costs}
use Rattle.demand.specs.Tables.{Rule, ◌if◌carrying◌, at_each}
use Rattle.task.specs.declared.Task.{Task}
use Rattle.task.specs.declared.Machine.{Machine}
use Rattle.task.specs.Refusals.{state_table}
use Rattle.walks.specs.Way.{stuck}
use Rattle.plan.specs.Walk.{walked}

-- the walk counts places from 0
unfoldable pub walk_table : Machine → Costs → List Task → List Rule
walk_table m c ts = at_each (λ k t. 7 if (walked m c ts ≡ stuck k 7) carrying (k + 1) ∷ []) 0 ts

unfoldable pub plan_table : Machine → Costs → ℕ → List Task → List Rule
plan_table m c n ts = state_table m c n ts ++ walk_table m c (take n ts)
