-- `lay_seat` meets its contract: the record is put, and the place of its task beside it.
use Rattle.listing.proofs.SeatLaws.{seat-laid}
use Rattle.listing.proofs.rows.lay_seat.Goals as goal

pub returns : goal.returns
returns c =
    seat-laid _ _ c.args.i c.args.place c.args.piece _ c.requires c.told-records c.told-places c.from.ensures
