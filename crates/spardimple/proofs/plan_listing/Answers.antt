-- `plan_listing` meets its contract: the number of what is said of the sheet's listing.
use mathlib.Core.Path.{◌∙◌}
use lib.ListN.{length}
use Rattle.listing.specs.Papers.{note}
use Rattle.spardimple.specs.Sheets.{paper_of, listing_number, listing_left}
use Rattle.spardimple.proofs.WhySteps.{note-told}
use Rattle.spardimple.proofs.StepLaws.{listed-numbered}
use Rattle.spardimple.proofs.plan_listing.Goals as goal

pub returns : goal.returns
unfolding listing_number listing_left
returns c = record {
  exact =
      let s = c.args in
      let w = c.listed.ensures in
      (c.note_number.ensures ∙ note-told (paper_of s.sheet.now) (listed-numbered s.sheet.now) (length s.listing.now) (note c.listed.result) w.says, w.leaves);
}
