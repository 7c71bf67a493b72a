-- `why_records` meets its contract: the number of what is said of the run's listing.
use mathlib.Core.Path.{◌∙◌}
use lib.ListN.{length}
use Rattle.listing.specs.Papers.{note}
use Rattle.spardimple.specs.Whys.{why_records, why_records_number, why_records_left}
use Rattle.spardimple.proofs.WhySteps.{note-told}
use Rattle.spardimple.proofs.StepLaws.{run-shown-numbered}
use Rattle.spardimple.proofs.why_records.Goals as goal

pub returns : goal.returns
unfolding why_records_number why_records_left
returns c = record {
  exact =
      let s = c.args in
      let w = c.run_shown.ensures in
      (c.note_number.ensures ∙ note-told (why_records s.records.now s.costs.now) (run-shown-numbered s.records.now s.costs.now) (length s.out.now) (note c.run_shown.result) w.says, w.leaves);
}
