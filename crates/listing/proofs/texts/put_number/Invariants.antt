-- `texts::put_number` meets its contract: the digits stand in the array from its end on.
use Rattle.listing.proofs.TextLaws.{Left}
use Rattle.listing.proofs.texts.put_number.Given as goal

abbrev pub invariant-loop-m : goal.invariant-loop-m
invariant-loop-m l =
    Left l.n l.d l.i l.m

abbrev pub decreases-loop-m : goal.decreases-loop-m
decreases-loop-m l =
    l.m
