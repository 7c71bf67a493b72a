-- `why_core` meets its contract: the number of what is said of the core's listing.
use mathlib.Core.Path.{◌∙◌}
use lib.ListN.{length}
use Rattle.listing.specs.Papers.{note}
use Rattle.spardimple.specs.Whys.{why_core, why_core_number, why_core_left}
use Rattle.spardimple.proofs.WhySteps.{note-told}
use Rattle.spardimple.proofs.StepLaws.{core-shown-numbered}
use Rattle.spardimple.proofs.why_core.Goals as goal

pub returns : goal.returns
unfolding why_core_number why_core_left
returns c = record {
  exact =
      let s = c.args in
      let w = c.core_shown.ensures in
      (c.note_number.ensures ∙ note-told (why_core s.sheet.now s.core) (core-shown-numbered s.sheet.now s.core) (length s.out.now) (note c.core_shown.result) w.says, w.leaves);
}
