-- `write_listing` meets its contract: the plan's writer writes its listing.
use native.Mathlib.Omega.{arith}
use borrow.Author.Rules.{rules}
use Rattle.listing.specs.Listing.{listing_of, plan_with}
use Rattle.listing.proofs.EntryLaws.{listing-with, listed-few}
use Rattle.listing.proofs.write_listing.Goals as goal

pub returns : goal.returns
returns c = record {
  exact =
      let p = c.args.plan in
      let whole = c.write_whole.ensures (listing_of (plan_with p.costs p.tasks p.layout)) (λ lent left r e. (search rules, search rules)) in
      let is = rw (listing-with p) at whole in
      (is.0, is.1, omega (arith, is.2, c.most_bytes.ensures, listed-few p.layout.lens 16));
}
