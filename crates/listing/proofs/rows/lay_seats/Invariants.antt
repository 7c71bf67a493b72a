-- `lay_seats` meets its contract: place by place, what the row has so far is laid.
use mathlib.Core.Path.{◌≡◌}
use lib.ListN.{length}
use Rattle.listing.specs.Ways.SeatArrays.{seats_laid}
use Rattle.listing.proofs.SeatLaws.{row_to}
use Rattle.listing.proofs.rows.lay_seats.Given as goal

abbrev pub invariant-loop-number : goal.invariant-loop-number
invariant-loop-number l =
    (l.n ≡ l.number-index) × (seats_laid l.core l.places l.records l.n ≡ row_to l.fn.layout l.core l.number-index) × (length l.records ≡ 79) × (length l.places ≡ 79)
