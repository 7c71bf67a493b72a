-- `lay_stands` meets its contract: core by core and place by place, what is there so far is laid.
use mathlib.Core.Path.{◌≡◌}
use mathlib.Core.List.{◌++◌, map}
use Prim.Native.Nat.{◌+◌, ◌*◌, ◌≤◌}
use lib.ListN.{length, take}
use Rattle.listing.specs.Diff.{seats_on}
use Rattle.listing.specs.Ways.RankArrays.{ranked_by, placed}
use Rattle.listing.proofs.SeatLaws.{row_to}
use Rattle.listing.proofs.stands.lay_stands.Given as goal

abbrev pub invariant-loop-core : goal.invariant-loop-core
invariant-loop-core l = (l.n ≤ 64 * l.core) × (length l.stands ≡ 1024) × (placed (take l.n l.stands) ≡ map (ranked_by l.ranks) (seats_on l.layout l.core))

abbrev pub invariant-loop-number : goal.invariant-loop-number
invariant-loop-number l =
    (l.n ≡ l.initial.n + l.number-index) × (length l.stands ≡ 1024)
    × (placed (take l.n l.stands) ≡ map (ranked_by l.ranks) (seats_on l.fn.layout l.core) ++ map (ranked_by l.ranks) (row_to l.fn.layout l.core l.number-index))
