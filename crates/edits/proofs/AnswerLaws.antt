-- What an edit answers: a plan made from the tasks after it, or a refusal that gives the state back.
-- Assumes nothing.
--
--   plan-same              a plan is made of the first n of a list
--   Made m c ts s          s is a held plan of the machine m, the costs c and the tasks ts
--   plan-made              a plan that comes is one
--   plan-is, plan-holds    so a plan that comes is one, and worked out afresh, of whatever list it is made
--   Answered, edit-answered      the two ways that an edit ends
--   Ends, replanned-ends   a list that breaks no rule is planned, or refused with 7 and the place of the task that has none
--   edit-goes              an edit of a state that breaks no rule, and breaks none itself, is the walk over the tasks after it
--   edit-made              an accepted edit makes a plan of the state's own machine and costs, and of the tasks after it
--   edit-planned           and is that plan: what is answered for the state's own machine and costs, and the tasks after it
--   edit-back, edit-keeps  a refused one gives the state back; so either keeps the machine, the costs, and that the plan is held
use mathlib.Core.Path.{◌≡◌, refl, sym, ap, ◌∙◌, subst}
use mathlib.Core.Bool.{Bool, true, false, cond}
use mathlib.Core.Logic.{◌⊎◌, inl, inr}
use mathlib.Core.List.{List, []}
use Prim.Native.Nat.{◌≤◌, ℕ, zero, suc}
use native.Mathlib.Omega.{arith}
use borrow.Author.Tests.{eqb-true, eqb-false}
use lib.Dec.{eqb, leb}
use lib.ListN.{length, take}
use lib.Seq.{take-length}
use Rattle.demand.specs.declared.Costs.{Costs}
use Rattle.demand.specs.Sizes.{sized_costs}
use Rattle.task.specs.declared.Task.{Task}
use Rattle.task.specs.declared.Machine.{Machine}
use Rattle.task.specs.Tasks.{tasks_most, rule, first_fault, state_fault, sized_machine, tasks_of}
use Rattle.plan.specs.declared.Plan.{Plan}
use Rattle.plan.specs.Reply.{Reply}
use Rattle.walks.specs.Way.{Placed, fine, stuck}
use Rattle.walks.specs.Edits.{edited}
use Rattle.walks.specs.Halves.{Stand}
use Rattle.plan.specs.Walk.{walked}
use Rattle.task.proofs.TaskLaws.{state-sane, tasks-listed}
use Rattle.plan.specs.Plan.{refused, finished, unless_fault, plan_of}
use Rattle.plan.proofs.Theorems.{plan-faultless, plan-or-stuck}
use Rattle.edits.proofs.FaultLaws.{rightful-known, rightful-faultless}
use Rattle.edits.specs.Edits.{by_name, TaskEdit, tasks_held, edit_fault, given_back, back_at, settled, replanned, edit_of, accepted, Afresh}

pub plan-same : (m : Machine) (c : Costs) (n : ℕ) (xs ys : List Task) → take n xs ≡ take n ys → plan_of m c n xs ≡ plan_of m c n ys
unfolding plan_of state_fault
plan-same m c n xs ys e =
    ap (λ (z : List Task). unless_fault (rule (sized_machine m) 1 (rule (sized_costs c) 2 (rule (leb n tasks_most) 6 (first_fault [] z))))
    (finished m c z (walked m c z))) e

pub record Made (m : Machine) (c : Costs) (ts : List Task) (s : Plan) : Type 0 where
  pub machine-is : s.machine ≡ m
  pub costs-is : s.costs ≡ c
  pub tasks-are : tasks_held s ≡ ts
  pub held : Afresh s

module _ (m : Machine) (c : Costs) (ts : List Task) where
  made_of : length ts ≤ tasks_most → (st : Stand) (l : List (Placed ℕ)) → plan_of m c (length ts) ts ≡ finished m c ts (fine st l)
      → Made m c ts (finished m c ts (fine st l)).plan
  unfolding Afresh
  made_of few st l e = record {
    machine-is = refl;
    costs-is = refl;
    tasks-are = tasks-listed ts few;
    held = plan-same m c (length ts) (tasks_of ts).list ts (tasks-listed ts few ∙ sym (take-length ts)) ∙ e;
  }

  pub plan-made : (plan_of m c (length ts) ts).number ≡ 0 → (s : Plan) × (plan_of m c (length ts) ts ≡ accepted s) × Made m c ts s
  plan-made number = by (plan-or-stuck m c (length ts) ts faultless)
    where
      faultless : state_fault m c (length ts) ts ≡ 0
      faultless = plan-faultless m c (length ts) ts number

      us : List Task
      us = take (length ts) ts

      by : ((st : Stand) × (l : List (Placed ℕ)) × (walked m c us ≡ fine st l) × (plan_of m c (length ts) ts ≡ finished m c us (fine st l)))
          ⊎ ((k : ℕ) × (walked m c us ≡ stuck k 7) × (plan_of m c (length ts) ts ≡ refused 7 (suc k)))
          → (s : Plan) × (plan_of m c (length ts) ts ≡ accepted s) × Made m c ts s
      by (inl r) =
          (let e : plan_of m c (length ts) ts ≡ finished m c ts (fine r.0 r.1) = r.3
          ∙ ap (λ (z : List Task). finished m c z (fine r.0 r.1)) (take-length ts) in
          ((finished m c ts (fine r.0 r.1)).plan, e, made_of (state-sane m c (length ts) ts faultless).few r.0 r.1 e))
      by (inr r) = absurd (omega (arith, sym number ∙ ap (λ (z : Reply). z.number) r.2))

-- the plan of the first n of a list is the plan of those
plan-cut : (m : Machine) (c : Costs) (n : ℕ) (ts : List Task) → state_fault m c n ts ≡ 0 → plan_of m c (length (take n ts)) (take n ts) ≡ plan_of m c n ts
unfolding plan_of
plan-cut m c n ts faultless = rw (rightful-faultless m c (take n ts) (rightful-known m c n ts faultless), faultless, take-length (take n ts))

pub plan-is : (m : Machine) (c : Costs) (n : ℕ) (ts : List Task) → (plan_of m c n ts).number ≡ 0 → Made m c (take n ts) (plan_of m c n ts).plan
plan-is m c n ts number =
    let same = plan-cut m c n ts (plan-faultless m c n ts number) in
    let made = plan-made m c (take n ts) (ap (λ (r : Reply). r.number) same ∙ number) in
    subst (λ (r : Reply). Made m c (take n ts) r.plan) (sym made.1 ∙ same) made.2

pub plan-holds : (m : Machine) (c : Costs) (n : ℕ) (ts : List Task) → (plan_of m c n ts).number ≡ 0 → Afresh (plan_of m c n ts).plan
plan-holds m c n ts number = (plan-is m c n ts number).held

-- ---- the two ways that an edit ends

-- the answer r to an edit of s that leaves the tasks ts
abbrev pub Answered : Plan → List Task → Reply → Type 0
Answered s ts r = ((r.number ≡ 0) × Made s.machine s.costs ts r.plan) ⊎ ((r.number ≡ 0 → ⊥) × (r.plan ≡ s))

module _ (s : Plan) (ts : List Task) where
  settled-answered : Answered s ts (replanned s ts)
  settled-answered = by (eqb planned.number 0) refl
    where
      planned : Reply
      planned = plan_of s.machine s.costs (length ts) ts

      by : (t : Bool) → eqb planned.number 0 ≡ t → Answered s ts (cond t planned (given_back s planned.number planned.carries))
      by true e =
          (let r = plan-made s.machine s.costs ts (eqb-true planned.number 0 e) in
          inl (eqb-true planned.number 0 e, subst (λ (z : Reply). Made s.machine s.costs ts z.plan) (sym r.1) r.2))
      by false e = inr (eqb-false planned.number 0 e, refl)

  back-answered : (k : ℕ) (r : Reply) → Answered s ts r → Answered s ts (back_at k s r)
  back-answered zero r a = a
  back-answered (suc k) r a = inr ((λ z. omega arith), refl)

pub edit-answered : (e : TaskEdit) (s : Plan) → Answered s (edited by_name e (tasks_held s)) (edit_of e s)
unfolding edit_of
edit-answered e s =
    let ts = edited by_name e (tasks_held s) in
    back-answered s ts (state_fault s.machine s.costs s.tasks.count s.tasks.list) (back_at (edit_fault e (tasks_held s)) s (replanned s ts))
    (back-answered s ts (edit_fault e (tasks_held s)) (replanned s ts) (settled-answered s ts))

pub edit-made : (e : TaskEdit) (s : Plan) → (edit_of e s).number ≡ 0 → Made s.machine s.costs (edited by_name e (tasks_held s)) (edit_of e s).plan
edit-made e s number = by (edit-answered e s)
  where
    by : Answered s (edited by_name e (tasks_held s)) (edit_of e s) → Made s.machine s.costs (edited by_name e (tasks_held s)) (edit_of e s).plan
    by (inl r) = r.1
    by (inr r) = absurd (r.0 number)

-- an answer that is accepted is the one that was looked at last
back-accepted : (k : ℕ) (s : Plan) (r : Reply) → (back_at k s r).number ≡ 0 → back_at k s r ≡ r
back-accepted zero s r number = refl
back-accepted (suc k) s r number = absurd (omega arith)

settled-accepted : (s : Plan) (r : Reply) → (settled s r).number ≡ 0 → settled s r ≡ r
settled-accepted s r = by (eqb r.number 0) refl
  where
    by : (t : Bool) → eqb r.number 0 ≡ t → (cond t r (given_back s r.number r.carries)).number ≡ 0 → cond t r (given_back s r.number r.carries) ≡ r
    by true e number = refl
    by false e number = absurd (eqb-false r.number 0 e number)

pub edit-planned : (e : TaskEdit) (s : Plan) → (edit_of e s).number ≡ 0
    → edit_of e s ≡ plan_of s.machine s.costs (length (edited by_name e (tasks_held s))) (edited by_name e (tasks_held s))
unfolding edit_of
edit-planned e s number =
    let ts = edited by_name e (tasks_held s) in
    let state = state_fault s.machine s.costs s.tasks.count s.tasks.list in
    let own = back_at (edit_fault e (tasks_held s)) s (replanned s ts) in
    let planned = plan_of s.machine s.costs (length ts) ts in
    let one : edit_of e s ≡ own = back-accepted state s own number in
    let two : own ≡ replanned s ts =
    back-accepted (edit_fault e (tasks_held s)) s (replanned s ts) (ap (λ (r : Reply). r.number) (sym one) ∙ number) in
    one ∙ (two ∙ settled-accepted s planned (ap (λ (r : Reply). r.number) (sym (one ∙ two)) ∙ number))

pub edit-back : (e : TaskEdit) (s : Plan) → ((edit_of e s).number ≡ 0 → ⊥) → (edit_of e s).plan ≡ s
edit-back e s some = by (edit-answered e s)
  where
    by : Answered s (edited by_name e (tasks_held s)) (edit_of e s) → (edit_of e s).plan ≡ s
    by (inl r) = absurd (some r.0)
    by (inr r) = r.1

-- whatever it answers
pub edit-keeps : (e : TaskEdit) (s : Plan)
    → ((edit_of e s).plan.machine ≡ s.machine) × ((edit_of e s).plan.costs ≡ s.costs) × (Afresh s → Afresh (edit_of e s).plan)
edit-keeps e s = by (edit-answered e s)
  where
    by : Answered s (edited by_name e (tasks_held s)) (edit_of e s)
        → ((edit_of e s).plan.machine ≡ s.machine) × ((edit_of e s).plan.costs ≡ s.costs) × (Afresh s → Afresh (edit_of e s).plan)
    by (inl r) = (r.1.machine-is, r.1.costs-is, λ h. r.1.held)
    by (inr r) = (ap (λ (z : Plan). z.machine) r.1, ap (λ (z : Plan). z.costs) r.1, λ h. subst Afresh (sym r.1) h)

-- ---- only 7 comes of the walk

abbrev pub Ends : Plan → List Task → Reply → Type 0
Ends s ts r = (r.number ≡ 0) ⊎ ((k : ℕ) × (walked s.machine s.costs ts ≡ stuck k 7) × (r ≡ given_back s 7 (suc k)))

pub replanned-ends : (s : Plan) (ts : List Task) → state_fault s.machine s.costs (length ts) ts ≡ 0 → Ends s ts (replanned s ts)
replanned-ends s ts faultless = by (plan-or-stuck m c (length ts) ts faultless)
  where
    m : Machine
    m = s.machine

    c : Costs
    c = s.costs

    us : List Task
    us = take (length ts) ts

    by : ((st : Stand) × (l : List (Placed ℕ)) × (walked m c us ≡ fine st l) × (plan_of m c (length ts) ts ≡ finished m c us (fine st l)))
        ⊎ ((k : ℕ) × (walked m c us ≡ stuck k 7) × (plan_of m c (length ts) ts ≡ refused 7 (suc k)))
        → Ends s ts (settled s (plan_of m c (length ts) ts))
    by (inl r) = inl (ap (λ (z : Reply). (settled s z).number) r.3)
    by (inr r) = inr (r.0, subst (λ (z : List Task). walked m c z ≡ stuck r.0 7) (take-length ts) r.1, ap (settled s) r.2)

pub edit-goes : (e : TaskEdit) (s : Plan) → state_fault s.machine s.costs s.tasks.count s.tasks.list ≡ 0
    → edit_fault e (tasks_held s) ≡ 0 → edit_of e s ≡ replanned s (edited by_name e (tasks_held s))
unfolding edit_of
edit-goes e s faultless right = rw (faultless, right)
