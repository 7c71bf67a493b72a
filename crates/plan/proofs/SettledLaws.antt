-- The contracts of `plan_tasks` and `plan_reached`, which tell of a result by a reply, settle it.
-- Assumes nothing.
--
--   plan-settled       two results that are one reply are one
--   reached-settled    so are two that meet the contract of `plan_reached`. Without it some plan that is made by hand is the reply of a refusal too
use Rattle.std.proofs.Common.{◌≡◌, ℕ, zero, suc, List, refl, sym, ap, ◌∙◌, arith}
use Rattle.std.specs.Prelude.{Option, None, Some, Result, Ok, Err}
use Rattle.demand.specs.declared.Costs.{Costs}
use Rattle.task.specs.declared.Machine.{Machine}
use Rattle.task.specs.declared.Task.{Task}
use Rattle.task.specs.declared.faults.Refused.{Refused}
use Rattle.task.specs.Tasks.{state_fault, place_number}
use Rattle.task.proofs.FaultLaws.{number-some}
use Rattle.task.proofs.SettledLaws.{refused-one, place-number-one}
use Rattle.task.proofs.TaskLaws.{state-sane}
use Rattle.plan.specs.declared.Plan.{Plan}
use Rattle.plan.specs.declared.Reached.{Reached}
use Rattle.plan.specs.Reply.{Reply}
use Rattle.plan.specs.Plan.{no_plan, reached_of, stuck_number, plan_reply, reached_reply}
use Rattle.plan.proofs.Theorems.{reached-ended}

pub plan-settled : (r s : Result Plan Refused) → plan_reply r ≡ plan_reply s → r ≡ s
plan-settled (Ok p) (Ok q) e = ap (λ (p : Plan). Ok p) (ap (λ (z : Reply). z.plan) e)
plan-settled (Ok p) (Err s) e = absurd (number-some s.fault (sym (ap (λ (z : Reply). z.number) e)))
plan-settled (Err r) (Ok q) e = absurd (number-some r.fault (ap (λ (z : Reply). z.number) e))
plan-settled (Err r) (Err s) e =
    ap (λ (r : Refused). Err r) (refused-one r s (ap (λ (z : Reply). z.number) e) (ap (λ (z : Reply). z.carries) e))

module _ (m : Machine) (c : Costs) (n : ℕ) (ts : List Task) where
  -- a plan that is reached is no refusal: its machine has a core, and what refuses the state carries nothing
  apart : (g : Reached) (f : Refused) → reached_reply (Ok g) ≡ reached_of m c n ts → reached_reply (Err f) ≡ reached_of m c n ts → ⊥
  unfolding reached_of no_plan
  apart g f one other = by (state_fault m c n ts) refl
    where
      by : (k : ℕ) → state_fault m c n ts ≡ k → ⊥
      by zero good =
          omega (arith, (state-sane m c n ts good).cores-some, ap (λ (z : Reply). z.plan.machine.cores) (other ∙ reached-ended m c n ts good))
      by (suc k) bad = let e = rw bad at one in stuck_apart g.stuck (ap (λ (z : Reply). z.number) e) (ap (λ (z : Reply). z.carries) e)
        where
          stuck_apart : (e : Option ℕ) → stuck_number e ≡ suc k → place_number e ≡ 0 → ⊥
          stuck_apart None number carries = omega (arith, number)
          stuck_apart (Some i) number carries = omega (arith, carries)

  pub reached-settled : (r s : Result Reached Refused) → reached_reply r ≡ reached_of m c n ts → reached_reply s ≡ reached_of m c n ts → r ≡ s
  reached-settled (Ok g) (Ok h) one other =
      let e = one ∙ sym other in
      ap (λ (g : Reached). Ok g) (both g.plan h.plan g.stuck h.stuck (ap (λ (z : Reply). z.plan) e)
      (place-number-one g.stuck h.stuck (ap (λ (z : Reply). z.carries) e)))
    where
      both : (p q : Plan) (i j : Option ℕ) → p ≡ q → i ≡ j → ◌≡◌ {A = Reached} (record { plan = p; stuck = i }) (record { plan = q; stuck = j })
      both p q i j plan stuck = cc
  reached-settled (Ok g) (Err f) one other = absurd (apart g f one other)
  reached-settled (Err f) (Ok g) one other = absurd (apart g f other one)
  reached-settled (Err r) (Err s) one other =
      let e = one ∙ sym other in
      ap (λ (r : Refused). Err r) (refused-one r s (ap (λ (z : Reply). z.number) e) (ap (λ (z : Reply). z.carries) e))
