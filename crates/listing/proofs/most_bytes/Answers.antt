-- `most_bytes` meets its contract: core by core.
use native.Mathlib.Omega.{arith}
use Rattle.listing.proofs.EntryLaws.{listed-none, listed-more, listed-few}
use Rattle.listing.proofs.most_bytes.Goals as goal

pub loop-n-init : goal.loop-n-init
loop-n-init c = omega (arith, listed-none c.args.lens)

pub overflow_add-most : goal.overflow_add-most
overflow_add-most c = record { fits = omega (arith, listed-few c.args.lens c.loop-n.n-index) }

pub loop-n-preserved : goal.loop-n-preserved
loop-n-preserved c = omega (arith, listed-more c.args.lens c.loop-n.n-index)
