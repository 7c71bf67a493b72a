-- What the steps on the way to an answer promise. They are ways and no meaning.
--
--   Unlent rs cs why      lent bytes are refused before they are judged: 8, where they are not measured; 6, for more records than a run has
--   told_said a           the number of a verdict, or of what is refused
--   planning sheet        the sheet's own refusal, else the answer for a plan of what it says
--   Writes p old r new    r is what is said of the paper p, and a buffer that held old then holds new
use Rattle.std.specs.Prelude.{true, false, ◌≡◌, ◌⊎◌, List, ℕ, zero, suc, ◌^◌, ◌<◌, length, Result, Ok, Err}
use Rattle.demand.specs.declared.Refusal.TheVariants.{TooMany}
use Rattle.demand.specs.declared.Verdict.{Verdict}
use Rattle.demand.specs.Answer.{Told, told}
use Rattle.demand.specs.Sizes.{run_most}
use Rattle.task.specs.declared.faults.Refused.{Refused}
use Rattle.task.specs.declared.faults.Fault.TheVariants.{Form}
use Rattle.task.specs.Faults.{number_of, refused_as}
use Rattle.plan.specs.Reply.{Reply}
use Rattle.plan.specs.Plan.{refused}
use Rattle.sheet.specs.Sheet.{Read, read_of}
use Rattle.listing.specs.Papers.{Paper, note, note_of, left}
use Rattle.spardimple.specs.Bytes.{pieces_of}
use Rattle.spardimple.specs.Numbers.{measured}
use Rattle.spardimple.specs.Sheets.{plan_sheet, refusal}

abbrev pub Unlent : (rs cs : List ℕ) → Refused → Type 0
Unlent rs cs why =
    ((measured rs cs ≡ false) × (why ≡ record { fault = Form; carries = 0 }))
    ⊎ ((measured rs cs ≡ true) × (run_most < length (pieces_of rs)) × (why ≡ refused_as TooMany))

abbrev pub told_said : Result Verdict Refused → Told
told_said (Ok v) = told (Ok v)
told_said (Err r) = refusal (number_of r.fault) r.carries

abbrev pub reply_unless : (number carries : ℕ) → Reply → Reply
reply_unless zero k rest = rest
reply_unless (suc n) k rest = refused (suc n) k

abbrev pub reply_after : Read → Reply
reply_after r = reply_unless r.number r.carries (plan_sheet r.sheet)

abbrev pub planning : List ℕ → Reply
planning sheet = reply_after (read_of sheet)

pub record Writes (p : Paper) (old : List ℕ) (r : Result ℕ Refused) (new : List ℕ) : Type 0 where
  pub says : note r ≡ note_of p (length old)
  pub leaves : new ≡ left p old
  pub fits : (note r).carries < 2 ^ 32
