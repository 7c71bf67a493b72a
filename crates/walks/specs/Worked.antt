-- The table H for the packing order, beside those of `demand` and `edits`: two tasks by their C and D, and whether the first has the greater C/D. The
-- products are worked out by hand, so that a comparison the wrong way round is seen. `proofs/Worked.antt` has that every row holds.
--
--   Rank            C and D of two tasks, and whether the first comes before the second by these
--   misranked rs    the rows that do not hold
--   rank_rows        the table
use Rattle.std.specs.Prelude.{cond, List, [], ◌∷◌, ℕ}
use Rattle.demand.specs.declared.Piece.{Piece}
use Rattle.demand.specs.Cases.{whole}
use Rattle.walks.specs.Halves.{denser}

pub data Rank : Type 0 where
  first : (c d c' d' : ℕ) → Rank
  not_first : (c d c' d' : ℕ) → Rank

unfoldable pub ranked_task : ℕ → ℕ → Piece
ranked_task c d = whole c d d

unfoldable pub misranked : List Rank → List Rank
misranked [] = []
misranked (first c d c' d' ∷ rs) = cond (denser (ranked_task c d) (ranked_task c' d')) (misranked rs) (first c d c' d' ∷ misranked rs)
misranked (not_first c d c' d' ∷ rs) = cond (denser (ranked_task c d) (ranked_task c' d')) (not_first c d c' d' ∷ misranked rs) (misranked rs)

unfoldable pub rank_rows : List Rank
rank_rows =
    -- 62·109 = 6758 is more than 43·139 = 5977
    first 62 139 43 109
    ∷ not_first 43 109 62 139
    -- the lesser C, and the greater C/D: 2·10 = 20 is more than 3·5 = 15
    ∷ first 2 5 3 10
    ∷ not_first 3 10 2 5
    -- the greater D, and the greater C/D: 9·4 = 36 is more than 3·10 = 30
    ∷ first 9 10 3 4
    ∷ not_first 3 4 9 10
    -- equal quotients: neither
    ∷ not_first 1 2 2 4
    ∷ not_first 2 4 1 2
    ∷ []
