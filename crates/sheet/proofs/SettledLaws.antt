-- The contract of `read_sheet`, which tells of a result by a record, settles it.
-- Assumes nothing.
--
--   read-settled       two results that are one record are one
use Rattle.std.proofs.Common.{◌≡◌, sym, ap}
use Rattle.std.specs.Prelude.{Result, Ok, Err}
use Rattle.task.specs.declared.faults.Refused.{Refused}
use Rattle.task.proofs.FaultLaws.{number-some}
use Rattle.task.proofs.SettledLaws.{refused-one}
use Rattle.sheet.specs.declared.Sheet.{Sheet}
use Rattle.sheet.specs.Sheet.{Read, read_shown}

pub read-settled : (r s : Result Sheet Refused) → read_shown r ≡ read_shown s → r ≡ s
read-settled (Ok p) (Ok q) e = ap (λ (p : Sheet). Ok p) (ap (λ (z : Read). z.sheet) e)
read-settled (Ok p) (Err s) e = absurd (number-some s.fault (sym (ap (λ (z : Read). z.number) e)))
read-settled (Err r) (Ok q) e = absurd (number-some r.fault (ap (λ (z : Read). z.number) e))
read-settled (Err r) (Err s) e =
    ap (λ (r : Refused). Err r) (refused-one r s (ap (λ (z : Read). z.number) e) (ap (λ (z : Read). z.carries) e))
