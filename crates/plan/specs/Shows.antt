-- What a plan's rows and words show of what was placed: document 01, "The plan keeps each core's row ..". No contract cites it.
--
--   stored_of e            what was placed, as the plan keeps it
--   numbers_on s q         the numbers of the pieces on core q
--   LayoutShows s l       the layout s has what was placed, l: each piece by its number, in placement order, and each core's row
--   bit_of w k             bit k of a word
--   WordShows w l         the word w has a bit for each task that l has a piece of, and no other
use Rattle.std.specs.Prelude.{◌≡◌, ◌↔◌, List, map, ℕ, ◌*◌, ◌/◌, ◌%◌, ◌^◌, ◌<◌, ◌≤◌, length, take, drop, get_or}
use Rattle.std.specs.Int.Count.{ones}
use Rattle.plan.specs.declared.Stored.{Stored}
use Rattle.plan.specs.declared.Layout.{Layout}
use Rattle.walks.specs.Way.{Placed, on_core, row_of}
use Rattle.plan.specs.Layout.{stored, blank, piece_numbered}
use Rattle.plan.specs.Places.{of_task}
use Rattle.task.specs.Tasks.{cores_most}
use Rattle.plan.specs.Sizes.{row_most}

abbrev pub stored_of : Placed ℕ → Stored
stored_of e = stored e.item e.piece

abbrev pub numbers_on : Layout → ℕ → List ℕ
numbers_on s q = take (get_or s.lens q 0) (drop (q * row_most) s.rows)

pub record LayoutShows (s : Layout) (l : List (Placed ℕ)) : Type 0 where
  pub count : s.count ≡ length l
  pub pieces : take s.count s.pieces ≡ map stored_of l
  pub lens : (q : ℕ) → q < cores_most → get_or s.lens q 0 ≡ length (row_of q l)
  pub numbers : (q : ℕ) → q < cores_most → map (λ i. get_or s.pieces i blank) (numbers_on s q) ≡ map stored_of (on_core q l)
  pub rows : (q : ℕ) → q < cores_most → map (piece_numbered s.pieces) (numbers_on s q) ≡ row_of q l

abbrev pub bit_of : ℕ → ℕ → ℕ
bit_of w k = w / 2 ^ k % 2

pub record WordShows (w : ℕ) (l : List (Placed ℕ)) : Type 0 where
  pub bit : (k : ℕ) → bit_of w k ≡ length (of_task k l)
  pub set : (k : ℕ) → (bit_of w k ≡ 1) ↔ (1 ≤ length (of_task k l))
  pub single : (k : ℕ) → length (of_task k l) ≤ 1
  pub count : ones w ≡ length l
