-- The sizes of a plan: document 01, "Sizes". A lent run of records has a size of its own, `run_most`.
--
--   pieces_most        pieces in a plan: 64 tasks and 15 splits
--   row_most           pieces on one core of it
use Rattle.std.specs.Prelude.{ℕ}

abbrev pub pieces_most : ℕ
pieces_most = 79

abbrev pub row_most : ℕ
row_most = 64
