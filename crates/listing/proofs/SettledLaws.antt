-- The contracts of `why_run` and `why_plan`, which tell of a result by a note, settle it.
-- Assumes nothing.
--
--   note-settled       two results of which one note is made are one
use Rattle.std.proofs.Common.{◌≡◌, ℕ, sym, ap}
use Rattle.std.specs.Prelude.{Result, Ok, Err}
use Rattle.task.specs.declared.faults.Refused.{Refused}
use Rattle.task.proofs.FaultLaws.{number-some}
use Rattle.task.proofs.SettledLaws.{refused-one}
use Rattle.listing.specs.Papers.{Note, note}

pub note-settled : (r s : Result ℕ Refused) → note r ≡ note s → r ≡ s
note-settled (Ok n) (Ok k) e = ap (λ (n : ℕ). Ok n) (ap (λ (z : Note). z.carries) e)
note-settled (Ok n) (Err s) e = absurd (number-some s.fault (sym (ap (λ (z : Note). z.number) e)))
note-settled (Err r) (Ok k) e = absurd (number-some r.fault (ap (λ (z : Note). z.number) e))
note-settled (Err r) (Err s) e =
    ap (λ (r : Refused). Err r) (refused-one r s (ap (λ (z : Note). z.number) e) (ap (λ (z : Note). z.carries) e))
