-- How the code carries a walk: the core with its row of piece numbers by value, and what was placed.
--
--   row_numbers row       the numbers that a row has
--   pieces_of_row placed row    the pieces whose numbers these are
--   Seated placed row     they are numbers of pieces placed
--   AskFits c row         the verdict on a row can be asked
--   LandFits c placed g   a task can be placed
--   WalkFits              the walk over an order can begin
--   Reach base placed r o      r and what was placed is what the ending o of a walk is, behind base; where it stuck there is no r, and what was placed is base
--   stuck_place o         the place of the task that a walk stuck at
--   EndsOver W placed r ks     the walk over the places ks has ended so: where it stuck, with what was placed before
use Rattle.std.specs.Prelude.{◌≡◌, List, ◌++◌, map, Option, None, Some, ℕ, ◌+◌, ◌<◌, ◌≤◌, length, take, get_or}
use Rattle.demand.specs.declared.Piece.{Piece}
use Rattle.demand.specs.declared.Costs.{Costs}
use Rattle.demand.specs.Records.{outside}
use Rattle.demand.specs.Sizes.{Sized, SizedCosts, Each}
use Rattle.task.specs.declared.Machine.{Machine}
use Rattle.task.specs.declared.Task.{Task}
use Rattle.plan.specs.declared.Row.{Row}
use Rattle.plan.specs.declared.walk.Going.{Going}
use Rattle.walks.specs.Way.{Way, Placed, Ending, fine, stuck, walk_over, placed_until}
use Rattle.walks.specs.Halves.{Stand}
use Rattle.plan.specs.Walk.{whole_at}
use Rattle.task.specs.Tasks.{cores_most, tasks_most}
use Rattle.plan.specs.Sizes.{row_most}

abbrev pub row_numbers : Row → List ℕ
row_numbers row = take row.len row.numbers

abbrev pub pieces_of_row : List (Placed ℕ) → Row → List Piece
pieces_of_row placed row = map (λ i. get_or (map (λ e. e.piece) placed) i outside) (row_numbers row)

pub record Seated (placed : List (Placed ℕ)) (row : Row) : Type 0 where
  pub long : length (row_numbers row) ≡ row.len
  pub below : Each (λ i. i < length placed) (row_numbers row)

pub record AskFits (c : Costs) (row : List Piece) : Type 0 where
  pub costs : SizedCosts c
  pub few : length row ≤ row_most
  pub sizes : Each Sized row

-- the walk makes one split at most on each core before it, and none on it
pub record LandFits (c : Costs) (placed : List (Placed ℕ)) (g : Going) : Type 0 where
  pub costs : SizedCosts c
  pub room : length placed ≤ 63 + g.core
  pub seated : Seated placed g.row
  pub free : g.row.len < row_most
  pub sizes : Each Sized (pieces_of_row placed g.row)

pub record Reached (base placed : List (Placed ℕ)) (g : Going) (s : Stand) (l : List (Placed ℕ)) : Type 0 where
  pub core_is : g.core ≡ s.core
  pub seated : Seated placed g.row
  pub row_is : pieces_of_row placed g.row ≡ s.row
  pub placed-is : placed ≡ base ++ l

abbrev pub Reach : (base placed : List (Placed ℕ)) → Option Going → Ending Stand ℕ → Type 0
Reach base placed (Some g) (fine s l) = Reached base placed g s l
Reach base placed (Some g) (stuck k n) = ⊥
Reach base placed None (fine s l) = ⊥
Reach base placed None (stuck k n) = placed ≡ base

abbrev pub stuck_place : {S : Type 0} → Ending S ℕ → Option ℕ
stuck_place (fine s l) = None
stuck_place (stuck k n) = Some k

pub record EndsOver (W : Way ℕ) (placed : List (Placed ℕ)) (r : Option ℕ) (ks : List ℕ) : Type 0 where
  pub stuck-is : r ≡ stuck_place (walk_over W ks)
  pub placed-is : placed ≡ placed_until W W.begin ks

-- what the walk needs of its input: sizes, and an order of places within them
pub record WalkFits (m : Machine) (c : Costs) (ts : List Task) (order : List ℕ) : Type 0 where
  pub some : 1 ≤ m.cores
  pub few : m.cores ≤ cores_most
  pub costs : SizedCosts c
  pub long : length ts ≤ tasks_most
  pub count : length order ≤ tasks_most
  pub places : Each (λ k. k < length ts) order
  pub sizes : Each (λ k. Sized (whole_at ts k)) order
