-- `Seats::count` meets its contract: as many are placed as there are seats.
use Rattle.std.proofs.Common.{length, ap, sym, ◌∙◌}
use lib.ListN.{length-map}
use Rattle.plan.specs.Ways.PlacedArray.{seated_as}
use Rattle.plan.proofs.seats.Seats.count.Goals as goal

pub returns : goal.returns
returns c = sym (length-map c.seats.result.now seated_as) ∙ ap length c.seats.ensures.seats
