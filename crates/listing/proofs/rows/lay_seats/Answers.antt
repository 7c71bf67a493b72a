-- `lay_seats` meets its contract: place by place, what the row has so far is laid.
use mathlib.Core.Path.{◌≡◌, sym, ◌∙◌}
use native.Mathlib.Omega.{arith}
use borrow.Author.Rules.{rules}
use lib.ListN.{length}
use Rattle.demand.proofs.RunLaws.{length-mapped}
use Rattle.listing.proofs.EntryLaws.{row-few}
use Rattle.listing.proofs.SeatLaws.{seats-all, seats-past}
use Rattle.listing.proofs.rows.lay_seats.Goals as goal

pub lay_seat-requires : goal.lay_seat-requires
lay_seat-requires c =
    omega (arith, row-few c.args.layout c.args.core _ c.row_of-number-items.ensures)

pub returns-after-loop-number : goal.returns-after-loop-number
returns-after-loop-number c =
    let l = c.loop-number in
    let s = c.args in (
      l.invariant.1 ∙ seats-all s.layout s.core _ c.row_of-number-items.ensures l.number-index c.loop-number-test.false,
      omega (arith, row-few s.layout s.core _ c.row_of-number-items.ensures),
    )

pub returns-else-core-lt-CORES_MOST : goal.returns-else-core-lt-CORES_MOST
returns-else-core-lt-CORES_MOST c =
    let lens-long : length c.args.layout.lens ≡ 16 = (search (rules, length-mapped)) in
    (sym (seats-past c.args.layout c.args.core lens-long c.if-core-lt-CORES_MOST.false), omega arith)
