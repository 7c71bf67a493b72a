-- `layouts::layout_of` meets its contract: after i turns it is the layout of the first i seats.
use Rattle.std.proofs.Common.{◌≡◌, take}
use Rattle.plan.specs.Layout.{layout_on, none}
use Rattle.plan.specs.Ways.PlacedArray.{placed_in}
use Rattle.plan.proofs.layouts.layout_of.Given as goal

abbrev pub invariant-loop-seat : goal.invariant-loop-seat
invariant-loop-seat l = l.layout ≡ layout_on none (placed_in (take l.seat-index l.seats))
