-- The walk that a plan goes by: document 01, "The C=D walk". It is C=D (`walks/specs/Halves.antt`) on the plan's machine, at its costs. It goes over the
-- places of the tasks in the list; a place stands for its task, so it is the walk over the tasks themselves (`edits/proofs/HeldLaws.antt`: `walked-tasks`).
--
--   whole_of t            the whole piece of a task
--   whole_at ts i         that of the task at place i
--   way_for m c whole     the way of a machine and costs, for items of which each has its whole piece
--   task_way m c          that for tasks
--   place_way m c ts      that for places in the list ts
--   upto n               the places 0 to n - 1
--   denser_at ts i j      the task at place i of ts has the greater C/D than the one at place j
--   packed ts            the places of the tasks ts, in packing order: greater C/D first, ties by earlier task
--   walked m c ts        the walk over the tasks ts in packing order, by their places
--   walked_until m c ts   what that walk places before it sticks, or all that it places
use Rattle.std.specs.Prelude.{Bool, List, [], ◌∷◌, ◌++◌, ℕ, zero, suc, length}
use Rattle.demand.specs.declared.Piece.{Piece}
use Rattle.demand.specs.declared.Costs.{Costs}
use Rattle.task.specs.declared.Task.{Task}
use Rattle.task.specs.declared.Machine.{Machine}
use Rattle.task.specs.Tasks.{whole_piece, task_at}
use Rattle.walks.specs.Order.{pack}
use Rattle.walks.specs.Way.{Way, Placed, Ending, walk_over, placed_until}
use Rattle.walks.specs.Halves.{denser, Stand, halving}

abbrev pub whole_of : Task → Piece
whole_of t = whole_piece t.times

abbrev pub whole_at : List Task → ℕ → Piece
whole_at ts i = whole_of (task_at ts i)

abbrev pub way_for : {A : Type 0} → Machine → Costs → (A → Piece) → Way A
way_for m c whole = halving c m.grain m.cores whole

abbrev pub task_way : Machine → Costs → Way Task
task_way m c = way_for m c whole_of

abbrev pub place_way : Machine → Costs → List Task → Way ℕ
place_way m c ts = way_for m c (whole_at ts)

abbrev pub upto : ℕ → List ℕ
upto zero = []
upto (suc n) = upto n ++ (n ∷ [])

abbrev pub denser_at : List Task → ℕ → ℕ → Bool
denser_at ts i j = denser (whole_at ts i) (whole_at ts j)

abbrev pub packed : List Task → List ℕ
packed ts = pack (denser_at ts) (upto (length ts))

unfoldable pub walked : Machine → Costs → List Task → Ending Stand ℕ
walked m c ts = walk_over (place_way m c ts) (packed ts)

abbrev pub walked_until : Machine → Costs → List Task → List (Placed ℕ)
walked_until m c ts = placed_until (place_way m c ts) (place_way m c ts).begin (packed ts)
