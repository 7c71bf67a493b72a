-- What was placed, as the code's seats.
--
--   seat_of p k q         the piece q of the task at place k, on core p
--   seated_as s           what is placed at a seat
--   placed_in l           what is placed at each
--   HasRoom l            a plan has room for what was placed
use Rattle.std.specs.Prelude.{List, map, ℕ, ◌<◌, ◌≤◌, length}
use Rattle.demand.specs.declared.Piece.{Piece}
use Rattle.demand.specs.Sizes.{Each}
use Rattle.walks.specs.Way.{Placed, on_core}
use Rattle.task.specs.Tasks.{cores_most, tasks_most}
use Rattle.plan.specs.declared.seats.Seat.{Seat}
use Rattle.plan.specs.Sizes.{row_most}

abbrev pub seat_of : ℕ → ℕ → Piece → Placed ℕ
seat_of p k q = record { on = p; item = k; piece = q }

abbrev pub seated_as : Seat → Placed ℕ
seated_as s = seat_of s.core s.task s.piece

abbrev pub placed_in : List Seat → List (Placed ℕ)
placed_in l = map seated_as l

pub record HasRoom (l : List (Placed ℕ)) : Type 0 where
  pub cores : Each (λ e. e.on < cores_most) l
  pub places : Each (λ e. e.item < tasks_most) l
  pub rows : (q : ℕ) → length (on_core q l) ≤ row_most
