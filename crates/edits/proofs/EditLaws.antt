-- From the code of an edit to what the definitions say of it.
-- Assumes nothing.
--
--   add-below, add-last, retime-own, retime-last      the rules of an edit, by the answers of the code
--   found-no, found-yes, found-there      whether a name is found
--   add-less, withdraw-known, retime-known      what is known of an edit that has no fault
--   plan-lists                     the plan of an array is the plan of the tasks that it lists
--   edit-state, edit-own, edit-made      the three ways to answer: the state's fault, the edit's, and the plan of the new list
use mathlib.Core.Path.{◌≡◌, refl, sym, ap, ◌∙◌}
use mathlib.Core.Bool.{Bool, true, false, not, true≢false}
use Rattle.std.specs.declared.option.Option.{Option}
use Rattle.std.specs.declared.option.Option.TheVariants.{None, Some}
use Rattle.std.specs.Option.{is_some}
use mathlib.Core.List.{List}
use Prim.Native.Nat.{ℕ, zero, suc, ◌<◌, ◌≤◌}
use native.Mathlib.Omega.{arith}
use borrow.Author.Tests.{eqb-false, ltb-true, eq-eqb, ne_eqb, not-true}
use lib.Dec.{eqb, ltb}
use lib.ListN.{length, length-take}
use lib.Seq.{take-length}
use Rattle.demand.specs.declared.Costs.{Costs}
use Rattle.demand.specs.Sizes.{sized}
use Rattle.task.specs.declared.Name.{Name}
use Rattle.task.specs.declared.Task.{Task}
use Rattle.task.specs.declared.Tasks.{Tasks}
use Rattle.task.specs.declared.Machine.{Machine}
use Rattle.task.specs.Names.{formed}
use Rattle.task.specs.Tasks.{tasks_most, whole_piece, place_of, place_number, rule, own_fault, fault_of, state_fault, list_of}
use Rattle.task.specs.declared.faults.Fault.{Fault}
use Rattle.task.specs.Faults.{number_of}
use Rattle.task.proofs.FaultLaws.{number-some}
use Rattle.plan.specs.declared.Plan.{Plan}
use Rattle.plan.specs.Reply.{Reply}
use Rattle.plan.specs.Plan.{plan_of}
use Rattle.walks.specs.Edits.{add, withdraw, retime, edited}
use Rattle.edits.specs.Edits.{by_name, TaskEdit, tasks_held, named, edit_fault, given_back, back_at, settled, replanned, edit_of}
use Rattle.edits.specs.Ways.ListInArray.{Lists}

-- ---- a rule, by the answer of the code

-- the rules of a task below others, and then one more; those of a task by itself, and then one more
below-step : (a b found : Bool) (n rest : ℕ) → n ≡ rule a 8 (rule b 3 (rule found 4 0))
    → ((n ≡ 0 → ⊥) → n ≡ rule a 8 (rule b 3 (rule (not (not found)) 4 rest))) × (n ≡ 0 → rest ≡ rule a 8 (rule b 3 (rule (not (not found)) 4 rest)))
below-step true true true n rest e = ((λ some. absurd (some e)), λ none. refl)
below-step true true false n rest e = ((λ some. e), λ none. absurd (omega (arith, e, none)))
below-step true false found n rest e = ((λ some. e), λ none. absurd (omega (arith, e, none)))
below-step false b found n rest e = ((λ some. e), λ none. absurd (omega (arith, e, none)))

own-step : (a b : Bool) (n rest : ℕ) → n ≡ rule a 8 (rule b 3 0)
    → ((n ≡ 0 → ⊥) → n ≡ rule a 8 (rule b 3 rest)) × (n ≡ 0 → rest ≡ rule a 8 (rule b 3 rest))
own-step true true n rest e = ((λ some. absurd (some e)), λ none. refl)
own-step true false n rest e = ((λ some. e), λ none. absurd (omega (arith, e, none)))
own-step false b n rest e = ((λ some. e), λ none. absurd (omega (arith, e, none)))

module _ (t : Task) (ts : List Task) where
  full : ℕ
  full = rule (ltb (length ts) tasks_most) 6 0

  pub add-below : (f : Fault) → number_of f ≡ fault_of ts t → number_of f ≡ edit_fault (add t) ts
  unfolding edit_fault fault_of full
  add-below f e = (below-step (formed t.name) (sized (whole_piece t.times)) (eqb (place_of 1 t.name ts) 0) (number_of f) full e).0 (number-some f)

  pub add-last : 0 ≡ fault_of ts t → (n : ℕ) → n ≡ rule (ltb (length ts) tasks_most) 6 0 → n ≡ edit_fault (add t) ts
  unfolding edit_fault fault_of full
  add-last e n is = is ∙ (below-step (formed t.name) (sized (whole_piece t.times)) (eqb (place_of 1 t.name ts) 0) 0 full e).1 refl

  pub retime-own : (f : Fault) → number_of f ≡ own_fault t → number_of f ≡ edit_fault (retime t) ts
  unfolding edit_fault
  retime-own f e = (own-step (formed t.name) (sized (whole_piece t.times)) (number_of f) (rule (named t.name ts) 5 0) e).0 (number-some f)

  pub retime-last : 0 ≡ own_fault t → (n : ℕ) → n ≡ rule (named t.name ts) 5 0 → n ≡ edit_fault (retime t) ts
  unfolding edit_fault
  retime-last e n is = is ∙ (own-step (formed t.name) (sized (whole_piece t.times)) 0 (rule (named t.name ts) 5 0) e).1 refl

-- a place that is looked for
module _ (n : Name) (ts : List Task) (r : Option ℕ) (place : place_number r ≡ place_of 1 n ts) where
  pub found-no : is_some r ≡ false → named n ts ≡ false
  found-no none = by r none place
    where
      by : (o : Option ℕ) → is_some o ≡ false → place_number o ≡ place_of 1 n ts → named n ts ≡ false
      by None e at = ap not (eq-eqb (place_of 1 n ts) 0 (sym at))
      by (Some i) e at = absurd (true≢false e)

  pub found-yes : is_some r ≡ true → named n ts ≡ true
  found-yes some = by r some place
    where
      by : (o : Option ℕ) → is_some o ≡ true → place_number o ≡ place_of 1 n ts → named n ts ≡ true
      by None e at = absurd (true≢false (sym e))
      by (Some i) e at = ap not (ne_eqb (place_of 1 n ts) 0 (λ none. omega (arith, at, none)))

  pub found-there : (place_of 1 n ts ≡ 0 → ⊥) → is_some r ≡ true
  found-there some = by r place
    where
      by : (o : Option ℕ) → place_number o ≡ place_of 1 n ts → is_some o ≡ true
      by None at = absurd (some (sym at))
      by (Some i) at = refl

-- ---- an edit that has no fault

rule-kept : (b : Bool) (n rest : ℕ) → rule b (suc n) rest ≡ 0 → (b ≡ true) × (rest ≡ 0)
rule-kept true n rest e = (refl, e)
rule-kept false n rest e = absurd (omega arith)

add-room : (t : Task) (ts : List Task) → edit_fault (add t) ts ≡ 0 → length ts < tasks_most
unfolding edit_fault
add-room t ts none =
    let new : Bool = not (named t.name ts) in
    let room : Bool = ltb (length ts) tasks_most in
    let a = rule-kept (formed t.name) 7 (rule (sized (whole_piece t.times)) 3 (rule new 4 (rule room 6 0))) none in
    let b = rule-kept (sized (whole_piece t.times)) 2 (rule new 4 (rule room 6 0)) a.1 in
    let d = rule-kept new 3 (rule room 6 0) b.1 in
    ltb-true (length ts) tasks_most (rule-kept room 5 0 d.1).0

-- the same by the count of an array
pub add-less : (q : Tasks) → length q.list ≡ tasks_most → q.count ≤ tasks_most → (t : Task) → edit_fault (add t) (list_of q) ≡ 0 → q.count < tasks_most
add-less q long few t none = omega (arith, add-room t (list_of q) none, length-take q.count q.list)

known : (n : Name) (ts : List Task) → named n ts ≡ true → place_of 1 n ts ≡ 0 → ⊥
known n ts e = eqb-false (place_of 1 n ts) 0 (not-true (eqb (place_of 1 n ts) 0) e)

pub withdraw-known : (n : Name) (ts : List Task) → edit_fault (withdraw n) ts ≡ 0 → place_of 1 n ts ≡ 0 → ⊥
unfolding edit_fault
withdraw-known n ts none =
    let a = rule-kept (formed n) 7 (rule (named n ts) 5 0) none in
    known n ts (rule-kept (named n ts) 4 0 a.1).0

pub retime-known : (t : Task) (ts : List Task) → edit_fault (retime t) ts ≡ 0 → place_of 1 t.name ts ≡ 0 → ⊥
unfolding edit_fault
retime-known t ts none =
    let there : Bool = named t.name ts in
    let a = rule-kept (formed t.name) 7 (rule (sized (whole_piece t.times)) 3 (rule there 5 0)) none in
    let b = rule-kept (sized (whole_piece t.times)) 2 (rule there 5 0) a.1 in
    known t.name ts (rule-kept there 4 0 b.1).0

-- ---- a plan looks at the tasks that are listed, and no further

pub plan-lists : (m : Machine) (c : Costs) (q : Tasks) (ts : List Task) → Lists q ts → plan_of m c q.count q.list ≡ plan_of m c (length ts) ts
unfolding plan_of state_fault
plan-lists m c q ts ok = rw (ok.items, ok.count, take-length ts)

-- ---- the answer

module _ (e : TaskEdit) (s : Plan) where
  pub edit-state : (f : Fault) → number_of f ≡ state_fault s.machine s.costs s.tasks.count s.tasks.list → given_back s (number_of f) 0 ≡ edit_of e s
  unfolding edit_of
  edit-state f is = by (number_of f) (number-some f) is
    where
      own : Reply
      own = back_at (edit_fault e (tasks_held s)) s (replanned s (edited by_name e (tasks_held s)))

      by : (k : ℕ) → (k ≡ 0 → ⊥) → k ≡ state_fault s.machine s.costs s.tasks.count s.tasks.list
          → given_back s k 0 ≡ back_at (state_fault s.machine s.costs s.tasks.count s.tasks.list) s own
      by zero some at = absurd (some refl)
      by (suc k) some at = rw (← at)

  module _ (sound : state_fault s.machine s.costs s.tasks.count s.tasks.list ≡ 0) where
    pub edit-own : (f : Fault) → number_of f ≡ edit_fault e (tasks_held s) → given_back s (number_of f) 0 ≡ edit_of e s
    unfolding edit_of
    edit-own f is = rw sound (by (number_of f) (number-some f) is)
      where
        by : (k : ℕ) → (k ≡ 0 → ⊥) → k ≡ edit_fault e (tasks_held s)
            → given_back s k 0 ≡ back_at (edit_fault e (tasks_held s)) s (replanned s (edited by_name e (tasks_held s)))
        by zero some at = absurd (some refl)
        by (suc k) some at = rw (← at)

    pub edit-made : edit_fault e (tasks_held s) ≡ 0 → (q : Tasks) → Lists q (edited by_name e (tasks_held s))
        → settled s (plan_of s.machine s.costs q.count q.list) ≡ edit_of e s
    unfolding edit_of
    edit-made fine q ok = rw (sound, fine) (ap (settled s) (plan-lists s.machine s.costs q (edited by_name e (tasks_held s)) ok))
