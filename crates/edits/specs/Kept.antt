-- What an edit keeps: demand 3's second and third sentences, for tasks by their names. `walks/specs/Kept.antt` has the words for any walk, of which
-- `Meet (task_way m c)` says that two walks come to the same state: the same core with the same row (`Stand`). No contract cites it;
-- `proofs/Theorems.antt` shows it of every accepted edit.
--
--   in_order ts            the tasks in packing order
--   pieces_on s n q        the pieces on core q of the plan s whose task is named n, as the verdict sees them, in placement order
--   Keeps s s' n          the task named n has exactly the same pieces on each core in both plans
--   edited_name e          the name that an edit is about
--   Ahead n b ts          ts holds the name b, and where it holds n too, b comes before n in packing order
use Rattle.std.specs.Prelude.{◌≡◌, List, map, ℕ, ◌<◌}
use Rattle.demand.specs.declared.Piece.{Piece}
use Rattle.task.specs.declared.Name.{Name}
use Rattle.task.specs.declared.Task.{Task}
use Rattle.task.specs.Names.{same_name}
use Rattle.task.specs.Tasks.{cores_most, task_at}
use Rattle.walks.specs.Lists.{only}
use Rattle.walks.specs.Edits.{edited_key}
use Rattle.walks.specs.Kept.{Among, Before}
use Rattle.plan.specs.declared.Plan.{Plan}
use Rattle.plan.specs.Walk.{packed}
use Rattle.plan.specs.Layout.{kept_piece}
use Rattle.edits.specs.Edits.{by_name, TaskEdit, tasks_held, row_in}

abbrev pub in_order : List Task → List Task
in_order ts = map (task_at ts) (packed ts)

unfoldable pub pieces_on : Plan → Name → ℕ → List Piece
pieces_on s n q = map kept_piece (only (λ x. same_name n (task_at (tasks_held s) x.task).name) (row_in s q))

unfoldable pub Keeps : Plan → Plan → Name → Type 0
Keeps s s' n = (q : ℕ) → q < cores_most → pieces_on s n q ≡ pieces_on s' n q

abbrev pub edited_name : TaskEdit → Name
edited_name e = edited_key by_name e

pub record Ahead (n b : Name) (ts : List Task) : Type 0 where
  pub held : Among by_name b ts
  pub ahead : Before by_name n b (in_order ts)
