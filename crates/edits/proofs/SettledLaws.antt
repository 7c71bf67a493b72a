-- The contracts of the edits, which tell of a result and of the plan that is left by a reply, settle both.
-- Assumes nothing.
--
--   edit-settled       two results that are one reply are one, and so are the plans that they leave
use Rattle.std.proofs.Common.{◌≡◌, refl, sym, ap}
use Rattle.std.specs.Prelude.{Result, Ok, Err}
use Rattle.task.specs.declared.faults.Refused.{Refused}
use Rattle.task.proofs.FaultLaws.{number-some}
use Rattle.task.proofs.SettledLaws.{refused-one}
use Rattle.plan.specs.declared.Plan.{Plan}
use Rattle.plan.specs.Reply.{Reply}
use Rattle.edits.specs.Edits.{edit_reply}

result-settled : (r s : Result Unit Refused) (p q : Plan) → edit_reply r p ≡ edit_reply s q → r ≡ s
result-settled (Ok a) (Ok b) p q e = refl
result-settled (Ok a) (Err s) p q e = absurd (number-some s.fault (sym (ap (λ (z : Reply). z.number) e)))
result-settled (Err r) (Ok b) p q e = absurd (number-some r.fault (ap (λ (z : Reply). z.number) e))
result-settled (Err r) (Err s) p q e =
    ap (λ (r : Refused). Err r) (refused-one r s (ap (λ (z : Reply). z.number) e) (ap (λ (z : Reply). z.carries) e))

left-settled : (r s : Result Unit Refused) (p q : Plan) → edit_reply r p ≡ edit_reply s q → p ≡ q
left-settled (Ok a) (Ok b) p q e = ap (λ (z : Reply). z.plan) e
left-settled (Ok a) (Err s) p q e = ap (λ (z : Reply). z.plan) e
left-settled (Err r) (Ok b) p q e = ap (λ (z : Reply). z.plan) e
left-settled (Err r) (Err s) p q e = ap (λ (z : Reply). z.plan) e

pub edit-settled : (r s : Result Unit Refused) (p q : Plan) → edit_reply r p ≡ edit_reply s q → (r ≡ s) × (p ≡ q)
edit-settled r s p q e = (result-settled r s p q e, left-settled r s p q e)
