-- The table H for the packing order: every row holds, by computing.
-- Assumes nothing.
use mathlib.Core.Path.{◌≡◌, refl}
use mathlib.Core.List.{[]}
use Rattle.demand.specs.Cases.{piece, whole}
use Rattle.walks.specs.Halves.{denser}
use Rattle.walks.specs.Worked.{ranked_task, misranked, rank_rows}

pub ranks-hold : misranked rank_rows ≡ []
unfolding piece whole denser ranked_task misranked rank_rows
ranks-hold = refl
