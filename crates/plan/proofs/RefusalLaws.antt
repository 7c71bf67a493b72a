-- A plan is refused exactly as its table says.
-- Assumes nothing.
--
--   walk-comes                    where no rule is broken before it, the walk comes to what its table says
--   reply-comes                   the reply does
--   plan-refused, plan-kept       so a refusal comes exactly where the table gives it, and a plan exactly where the table is kept
use mathlib.Core.Path.{◌≡◌, refl, sym, ap, subst, ◌∙◌}
use mathlib.Core.Bool.{Bool, true, false}
use mathlib.Core.Logic.{◌⊎◌, inl, inr, ◌↔◌}
use mathlib.Core.List.{List, [], ◌∷◌, ◌++◌}
use Prim.Native.Nat.{ℕ, zero, suc, ◌+◌, ◌≤◌, ◌<◌}
use native.Mathlib.Omega.{arith}
use borrow.Author.Tests.{eqb-true, eqb-false}
use lib.Dec.{eqb}
use lib.ListN.{length, take}
use Rattle.demand.specs.declared.Costs.{Costs}
use Rattle.demand.specs.Tables.{Rule, ◌if◌carrying◌, Not, Gives, Kept, at_each}
use Rattle.demand.proofs.TableLaws.{Comes, here, next, comes-none, comes-kept, comes-refused, comes-front, comes-behind}
use Rattle.task.specs.declared.Task.{Task}
use Rattle.task.specs.declared.Machine.{Machine}
use Rattle.task.specs.Tasks.{state_fault}
use Rattle.task.specs.Refusals.{state_table}
use Rattle.task.proofs.RefusalLaws.{state-comes, state-kept}
use Rattle.walks.specs.Way.{Placed, Ending, fine, stuck}
use Rattle.walks.specs.Halves.{Stand}
use Rattle.plan.specs.Reply.{Reply}
use Rattle.plan.specs.Walk.{walked}
use Rattle.plan.specs.Plan.{refused, finished, plan_of}
use Rattle.plan.specs.Refusals.{walk_table, plan_table}
use Rattle.plan.proofs.Theorems.{plan-or-stuck, no-room-place}

-- ---- the walk

-- the task that a walk sticks at, from 1
abbrev stuck_at : Ending Stand ℕ → ℕ
stuck_at (fine s l) = 0
stuck_at (stuck k n) = suc k

module _ (o : Ending Stand ℕ) where
  abbrev places : ℕ → List Task → List Rule
  places k ts = at_each (λ i t. 7 if (o ≡ stuck i 7) carrying (i + 1) ∷ []) k ts

  fine-kept : (s : Stand) (l : List (Placed ℕ)) → o ≡ fine s l → (k : ℕ) (ts : List Task) → Kept (places k ts)
  fine-kept s l so k [] = tt
  fine-kept s l so k (t ∷ ts) =
      (λ e. (let z : 0 ≡ suc k = ap stuck_at (sym so) ∙ ap stuck_at e in omega arith), fine-kept s l so (k + 1) ts)

  stuck-comes : (j : ℕ) → o ≡ stuck j 7 → (k : ℕ) (ts : List Task) → k ≤ j → j < k + length ts → Comes (places k ts) 7 (suc j)
  stuck-comes j so k [] low high = absurd (omega arith)
  stuck-comes j so k (t ∷ ts) low high = by (eqb k j) refl (λ up. stuck-comes j so (k + 1) ts up (omega arith))
    where
      other : (k ≡ j → ⊥) → Not (o ≡ stuck k 7)
      other differ e = differ (let z : suc k ≡ suc j = ap stuck_at (sym e) ∙ ap stuck_at so in omega arith)

      by : (b : Bool) → eqb k j ≡ b → (k + 1 ≤ j → Comes (places (k + 1) ts) 7 (suc j)) → Comes (places k (t ∷ ts)) 7 (suc j)
      by true same more =
          let is : k ≡ j = eqb-true k j same in
          let place : k + 1 ≡ suc j = omega arith in
          here (so ∙ ap (λ (i : ℕ). stuck i 7) (sym is)) refl place
      by false differ more = next (other (eqb-false k j differ)) (more (omega (arith, eqb-false k j differ)))

module _ (m : Machine) (c : Costs) (n : ℕ) (ts : List Task) where
  pub walk-comes : state_fault m c n ts ≡ 0 → Comes (walk_table m c (take n ts)) (plan_of m c n ts).number (plan_of m c n ts).carries
  unfolding walk_table
  walk-comes faultless = by (plan-or-stuck m c n ts faultless)
    where
      o : Ending Stand ℕ
      o = walked m c (take n ts)

      table : List Rule
      table = places o 0 (take n ts)

      by : ((s : Stand) × (l : List (Placed ℕ)) × (o ≡ fine s l) × (plan_of m c n ts ≡ finished m c (take n ts) (fine s l)))
          ⊎ ((k : ℕ) × (o ≡ stuck k 7) × (plan_of m c n ts ≡ refused 7 (suc k)))
          → Comes table (plan_of m c n ts).number (plan_of m c n ts).carries
      by (inl h) =
          subst (λ (r : Reply). Comes table r.number r.carries) (sym h.3)
          (comes-none table 0 (fine-kept o h.0 h.1 h.2 0 (take n ts)))
      by (inr h) =
          subst (λ (r : Reply). Comes table r.number r.carries) (sym h.2)
          (stuck-comes o h.0 h.1 0 (take n ts) (omega arith) (omega (arith, no-room-place m c n ts faultless h.0 h.1)))

  -- ---- the reply

  faulty : (k : ℕ) → state_fault m c n ts ≡ suc k → plan_of m c n ts ≡ refused (suc k) 0
  unfolding plan_of
  faulty k e = rw e

  pub reply-comes : Comes (plan_table m c n ts) (plan_of m c n ts).number (plan_of m c n ts).carries
  unfolding plan_table
  reply-comes = by (state_fault m c n ts) refl (state-comes m c n ts)
    where
      all : List Rule
      all = state_table m c n ts ++ walk_table m c (take n ts)

      by : (k : ℕ) → state_fault m c n ts ≡ k → Comes (state_table m c n ts) k 0 → Comes all (plan_of m c n ts).number (plan_of m c n ts).carries
      by zero e comes = comes-behind (state_table m c n ts) ((state-kept m c n ts).0 e) (walk-comes e)
      by (suc k) e comes =
          subst (λ (r : Reply). Comes all r.number r.carries) (sym (faulty k e)) (comes-front comes (walk_table m c (take n ts)))

  pub plan-refused : (N k : ℕ) → (((plan_of m c n ts).number ≡ suc N) × ((plan_of m c n ts).carries ≡ k)) ↔ Gives (plan_table m c n ts) (suc N) k
  plan-refused = comes-refused reply-comes

  pub plan-kept : ((plan_of m c n ts).number ≡ 0) ↔ Kept (plan_table m c n ts)
  plan-kept = comes-kept reply-comes
