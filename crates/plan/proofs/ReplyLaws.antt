-- From where the walk's code ends to the reply.
-- Assumes nothing.
--
--   all-fits           what was placed, until the walk stuck or in all, has room in a plan
--   walk-replied, fault-replied      the two ways to end
--   reply-refused, reply-kept, reply-place      the reply that a refusal's plan is dropped of
use mathlib.Core.Path.{◌≡◌, refl, sym, ap, ◌∙◌}
use mathlib.Core.Logic.{◌⊎◌, inl, inr}
use mathlib.Core.List.{List}
use Prim.Native.Nat.{ℕ, zero, suc, ◌<◌}
use native.Mathlib.Omega.{arith}
use lib.ListN.{length, take, length-take, length-map}
use Rattle.demand.specs.declared.Costs.{Costs}
use Rattle.demand.proofs.Sums.{each-imp}
use Rattle.task.specs.declared.Task.{Task}
use Rattle.task.specs.declared.Tasks.{Tasks}
use Rattle.task.specs.declared.Machine.{Machine}
use Rattle.std.specs.Prelude.{Option, None, Some}
use Rattle.std.specs.declared.result.Result.TheVariants.{Ok}
use Rattle.task.specs.Tasks.{state_fault, task_at, tasks_of, place_number}
use Rattle.task.specs.declared.faults.Fault.{Fault}
use Rattle.task.specs.Faults.{number_of}
use Rattle.task.proofs.FaultLaws.{number-some}
use Rattle.task.proofs.TaskLaws.{Sane, state-sane}
use Rattle.walks.specs.Way.{Placed, Ending, fine, stuck, on_core}
use Rattle.walks.specs.Halves.{Stand}
use Rattle.plan.specs.declared.Layout.{Layout}
use Rattle.plan.specs.declared.Plan.{Plan}
use Rattle.plan.specs.Reply.{Reply}
use Rattle.plan.specs.Walk.{place_way, packed, walked, walked_until}
use Rattle.plan.specs.Layout.{none, layout_on}
use Rattle.plan.specs.Plan.{refused, plan_placed, finished, unless_fault, reaching, plan_of, reached_of, stuck_number, reached_reply}
use Rattle.plan.proofs.WalkLaws.{only-seven}
use Rattle.plan.specs.Ways.PlacedArray.{HasRoom}
use Rattle.plan.specs.Ways.WalkGoing.{stuck_place, EndsOver}
use Rattle.plan.proofs.Theorems.{plan-faultless, plan-or-stuck, no-room-faultless, no-room-place, reached-number, reached-fine, reached-ended, reached-places, reached-counts}

module _ (m : Machine) (c : Costs) (n : ℕ) (ts : List Task) (good : state_fault m c n ts ≡ 0) (placed : List (Placed ℕ)) (e : Option ℕ)
    (there : EndsOver (place_way m c (take n ts)) placed e (packed (take n ts))) where
  sane : Sane m c n ts
  sane = state-sane m c n ts good

  pub all-fits : HasRoom placed
  all-fits =
      let l = walked_until m c (take n ts) in
      let counts = reached-counts m c n ts good in
      rw there.placed-is (record {
        cores = each-imp (λ (e : Placed ℕ). e.on < m.cores) (λ (e : Placed ℕ). e.on < 16) (λ e low. omega (arith, sane.cores-fit)) l counts.cores;
        places =
            each-imp (λ (e : Placed ℕ). e.item < length (take n ts)) (λ (e : Placed ℕ). e.item < 64)
            (λ e low. omega (arith, length-take n ts, sane.few)) l (reached-places m c n ts good);
        rows = λ q. omega (arith, counts.row_fits q, length-map (on_core q l) (λ (e : Placed ℕ). e.piece));
      })

  -- the plan, whole or of what was placed until the walk stuck
  plan-is : (clean : Tasks) → clean ≡ tasks_of (take n ts) → (s : Layout) → s ≡ layout_on none placed
      → ◌≡◌ {A = Plan} (record { machine = m; costs = c; tasks = clean; layout = s }) (plan_placed m c (take n ts) (walked_until m c (take n ts)))
  plan-is clean tidied s laid_out = cc (tidied, laid_out, ap (layout_on none) there.placed-is)

  pub walk-replied : (clean : Tasks) → clean ≡ tasks_of (take n ts) → (s : Layout) → s ≡ layout_on none placed
      → reached_reply (Ok (record { plan = record { machine = m; costs = c; tasks = clean; layout = s }; stuck = e })) ≡ reached_of m c n ts
  unfolding walked
  walk-replied clean tidied s laid_out = by (walked m c (take n ts)) refl
    where
      by : (o : Ending Stand ℕ) → walked m c (take n ts) ≡ o
          → ◌≡◌ {A = Reply} (record {
            number = stuck_number e;
            carries = place_number e;
            plan = record { machine = m; costs = c; tasks = clean; layout = s };
          }) (reached_of m c n ts)
      by (fine t l) is =
          let none : e ≡ None = there.stuck-is ∙ ap stuck_place is in
          rw (none, reached-ended m c n ts good, is) (cc (plan-is clean tidied s laid_out))
      by (stuck k j) is =
          let seven : j ≡ 7 = only-seven m c (λ i. (task_at (take n ts) i).times) (packed (take n ts)) k j is in
          let at : e ≡ Some k = there.stuck-is ∙ ap stuck_place is in
          rw (at, reached-ended m c n ts good, is, seven) (cc (plan-is clean tidied s laid_out))

module _ (m : Machine) (c : Costs) (n : ℕ) (ts : List Task) where
  pub fault-replied : (f : Fault) → number_of f ≡ state_fault m c n ts → refused (number_of f) 0 ≡ reached_of m c n ts
  unfolding reached_of
  fault-replied f e = by (number_of f) (number-some f) e
    where
      by : (k : ℕ) → (k ≡ 0 → ⊥) → k ≡ state_fault m c n ts
          → refused k 0 ≡ unless_fault (state_fault m c n ts) (reaching (plan_placed m c (take n ts) (walked_until m c (take n ts)))
          (finished m c (take n ts) (walked m c (take n ts))))
      by zero some e = absurd (some refl)
      by (suc k) some e = rw (← e)

  -- ---- a refusal has no plan

  no-plan : ((plan_of m c n ts).number ≡ 0 → ⊥) → plan_of m c n ts ≡ refused (plan_of m c n ts).number (plan_of m c n ts).carries
  unfolding plan_of
  no-plan = by (state_fault m c n ts) (walked m c (take n ts))
    where
      by : (k : ℕ) (o : Ending Stand ℕ) → ((unless_fault k (finished m c (take n ts) o)).number ≡ 0 → ⊥)
          → unless_fault k (finished m c (take n ts) o)
          ≡ refused (unless_fault k (finished m c (take n ts) o)).number (unless_fault k (finished m c (take n ts) o)).carries
      by zero (fine s l) some = absurd (some refl)
      by zero (stuck k j) some = refl
      by (suc k) o some = refl

  module _ (r : Reply) (is : r ≡ reached_of m c n ts) where
    number_is : r.number ≡ (plan_of m c n ts).number
    number_is = ap (λ (z : Reply). z.number) is ∙ (reached-number m c n ts).0

    pub reply-refused : (r.number ≡ 0 → ⊥) → refused r.number r.carries ≡ plan_of m c n ts
    reply-refused some =
        let carries-is : r.carries ≡ (plan_of m c n ts).carries = ap (λ (z : Reply). z.carries) is ∙ (reached-number m c n ts).1 in
        rw (number_is, carries-is) (sym (no-plan (λ none. some (number_is ∙ none))))

    pub reply-kept : r.number ≡ 0 → r ≡ plan_of m c n ts
    reply-kept none =
        let so : (plan_of m c n ts).number ≡ 0 = sym number_is ∙ none in
        is ∙ reached-fine m c n ts (plan-faultless m c n ts so) so

    -- the place that it carries
    pub reply-place : (k : ℕ) → r.number ≡ 7 → r.carries ≡ suc k → k < length (take n ts)
    reply-place k seven carries = by (plan-or-stuck m c n ts faultless)
      where
        faultless : state_fault m c n ts ≡ 0
        faultless = no-room-faultless m c n ts (sym number_is ∙ seven)

        by : ((s : Stand) × (l : List (Placed ℕ)) × (walked m c (take n ts) ≡ fine s l) × (plan_of m c n ts ≡ finished m c (take n ts) (fine s l)))
            ⊎ ((j : ℕ) × (walked m c (take n ts) ≡ stuck j 7) × (plan_of m c n ts ≡ refused 7 (suc j)))
            → k < length (take n ts)
        by (inl h) = absurd (omega (arith, number_is, seven, ap (λ (z : Reply). z.number) h.3))
        by (inr h) =
            omega (
              arith,
              carries,
              ap (λ (z : Reply). z.carries) is,
              (reached-number m c n ts).1,
              ap (λ (z : Reply). z.carries) h.2,
              no-room-place m c n ts faultless h.0 h.1,
            )
