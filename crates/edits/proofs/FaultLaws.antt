-- An edit that breaks no rule leaves a task list that breaks none: of the new walk, only 7 can come.
-- Assumes nothing.
--
--   Rightful m c ts           the tasks ts break no rule with the machine m and the costs c
--   rightful-known, rightful-faultless       as a test tells
--   edited-rightful           so do the tasks after an edit
use mathlib.Core.Path.{◌≡◌, refl}
use mathlib.Core.Bool.{Bool, true, false, not}
use mathlib.Core.List.{List, [], ◌∷◌}
use Prim.Native.Nat.{ℕ, ◌≤◌}
use native.Mathlib.Omega.{arith}
use borrow.Author.Tests.{eqb-true, ltb-true, leb-true, le-leb}
use lib.Dec.{eqb, ltb, leb}
use lib.ListN.{length, take, length-append, length-take}
use lib.Seq.{take-length}
use Rattle.demand.specs.declared.Costs.{Costs}
use Rattle.demand.specs.Sizes.{Each, sized, sized_costs}
use Rattle.demand.proofs.Sums.{each_snoc}
use Rattle.task.specs.declared.Name.{Name}
use Rattle.task.specs.declared.Task.{Task}
use Rattle.task.specs.declared.Machine.{Machine}
use Rattle.task.specs.Names.{formed}
use Rattle.task.specs.Tasks.{tasks_most, whole_piece, place_of, rule, first_fault, state_fault, sized_machine}
use Rattle.walks.specs.Lists.{Apart}
use Rattle.walks.specs.Edits.{add, withdraw, retime, edited}
use Rattle.walks.proofs.ListLaws.{apart_snoc}
use Rattle.walks.proofs.EditLaws.{without-each, without-apart, without-short, replaced-each, replaced-apart, replaced-long}
use Rattle.edits.specs.Edits.{by_name, TaskEdit, named, edit_fault}
use Rattle.task.proofs.TaskLaws.{rule-fine}
use Rattle.edits.proofs.NameSets.{Unnamed, name-exact, across-none, Clean, place_none, faults-known, faults-none}

-- ---- lists that break no rule

pub record Rightful (m : Machine) (c : Costs) (ts : List Task) : Type 0 where
  pub machine : sized_machine m ≡ true
  pub costs : sized_costs c ≡ true
  pub few : length ts ≤ tasks_most
  pub clean : Each Clean ts
  pub apart : Apart (λ t. t.name) ts

pub rightful-known : (m : Machine) (c : Costs) (n : ℕ) (ts : List Task) → state_fault m c n ts ≡ 0 → Rightful m c (take n ts)
unfolding state_fault
rightful-known m c n ts e =
    let a = rule-fine (sized_machine m) 0 (rule (sized_costs c) 2 (rule (leb n tasks_most) 6 (first_fault [] (take n ts)))) e in
    let b = rule-fine (sized_costs c) 1 (rule (leb n tasks_most) 6 (first_fault [] (take n ts))) a.1 in
    let d = rule-fine (leb n tasks_most) 5 (first_fault [] (take n ts)) b.1 in
    let known = faults-known [] (take n ts) d.1 in
    record { machine = a.0; costs = b.0; few = omega (arith, length-take n ts, leb-true n tasks_most d.0); clean = known.0; apart = known.2 }

pub rightful-faultless : (m : Machine) (c : Costs) (ts : List Task) → Rightful m c ts → state_fault m c (length ts) ts ≡ 0
unfolding state_fault
rightful-faultless m c ts l =
    rw (l.machine, l.costs, le-leb (length ts) tasks_most l.few, take-length ts) (faults-none [] ts l.clean (across-none ts) l.apart)

-- ---- an edit that breaks no rule

clean-edit : (t : Task) (rest : ℕ) → rule (formed t.name) 8 (rule (sized (whole_piece t.times)) 3 rest) ≡ 0 → Clean t × (rest ≡ 0)
clean-edit t rest e =
    let a = rule-fine (formed t.name) 7 (rule (sized (whole_piece t.times)) 3 rest) e in
    let b = rule-fine (sized (whole_piece t.times)) 2 rest a.1 in
    (record { named = a.0; timed = b.0 }, b.1)

not_named : (n : Name) (ts : List Task) → not (named n ts) ≡ true → Unnamed n ts
not_named n ts e = by (eqb (place_of 1 n ts) 0) refl e
  where
    by : (x : Bool) → eqb (place_of 1 n ts) 0 ≡ x → not (not x) ≡ true → Unnamed n ts
    by true told z = place_none 1 n ts (omega arith) (eqb-true (place_of 1 n ts) 0 told)
    by false told z = let w : ◌≡◌ {A = ℕ} 0 1 = cc in absurd (omega arith)

pub edited-rightful : (m : Machine) (c : Costs) (e : TaskEdit) (ts : List Task) → Rightful m c ts → edit_fault e ts ≡ 0 → Rightful m c (edited by_name e ts)
unfolding edit_fault
edited-rightful m c (add t) ts l e =
    let a = clean-edit t (rule (not (named t.name ts)) 4 (rule (ltb (length ts) tasks_most) 6 0)) e in
    let b = rule-fine (not (named t.name ts)) 3 (rule (ltb (length ts) tasks_most) 6 0) a.1 in
    let d = rule-fine (ltb (length ts) tasks_most) 5 0 b.1 in
    record {
      machine = l.machine;
      costs = l.costs;
      few = omega (arith, length-append ts (t ∷ []), ltb-true (length ts) tasks_most d.0);
      clean = each_snoc Clean ts t l.clean a.0;
      apart = apart_snoc (λ u. u.name) ts t l.apart (not_named t.name ts b.0);
    }
edited-rightful m c (withdraw n) ts l e = record {
  machine = l.machine;
  costs = l.costs;
  few = omega (arith, l.few, without-short by_name n ts);
  clean = without-each by_name Clean n ts l.clean;
  apart = without-apart by_name n ts l.apart;
}
edited-rightful m c (retime t) ts l e =
    let a = clean-edit t (rule (named t.name ts) 5 0) e in
    record {
      machine = l.machine;
      costs = l.costs;
      few = omega (arith, l.few, replaced-long by_name t ts);
      clean = replaced-each by_name Clean t a.0 ts l.clean;
      apart = replaced-apart by_name name-exact t ts l.apart;
    }
