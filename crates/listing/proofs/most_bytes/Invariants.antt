-- `most_bytes` meets its contract: core by core.
use mathlib.Core.Path.{◌≡◌}
use Prim.Native.Nat.{◌+◌, ◌*◌}
use Rattle.listing.specs.Listing.{listed_on}
use Rattle.listing.proofs.most_bytes.Given as goal

abbrev pub invariant-loop-n : goal.invariant-loop-n
invariant-loop-n l = l.most ≡ 47 + 142 * listed_on l.fn.lens l.n-index
