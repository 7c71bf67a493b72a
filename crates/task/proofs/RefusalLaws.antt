-- A machine, costs and a task list are refused exactly as their table says.
-- Assumes nothing.
--
--   comes-rule, comes-or-else     a chain of rules, and one behind another, come to what their table says
--   form-breaks, machine-breaks   the tests of a name's form and of a machine's sizes, and where the rule is broken
--   place-breaks                  a name has a place exactly where one has it
--   fault-comes, state-comes      the fault of a task, and of a state, is what its table says
--   state-refused, state-kept     so a state's refusal comes exactly where the table gives it, and none exactly where the table is kept
use mathlib.Core.Path.{◌≡◌, refl, sym, ◌∙◌}
use mathlib.Core.Bool.{Bool, true, false, cond, true≢false}
use mathlib.Core.Logic.{inl, inr, ◌↔◌}
use mathlib.Core.List.{List, [], ◌∷◌, ◌++◌}
use Prim.Native.Nat.{ℕ, zero, suc, ◌+◌, ◌≤◌}
use native.Mathlib.Omega.{arith}
use borrow.Author.Tests.{ne_eqb}
use lib.Dec.{eqb, leb}
use lib.ListN.{take}
use Rattle.demand.specs.declared.Costs.{Costs}
use Rattle.demand.specs.Sizes.{sized, sized_costs, SomeOf}
use Rattle.demand.specs.Tables.{Rule, ◌if◌carrying◌, Not, Gives, Kept, down_each}
use Rattle.demand.proofs.RefusalLaws.{sized-breaks, costs-break}
use Rattle.demand.proofs.TableLaws.{Comes, none, here, next, comes-kept, comes-refused, comes-front, comes-behind}
use Rattle.demand.proofs.TableLaws.{Breaks, breaks-kept, breaks-exact, breaks-leb}
use Rattle.task.specs.declared.Name.{Name}
use Rattle.task.specs.declared.Task.{Task}
use Rattle.task.specs.declared.Machine.{Machine}
use Rattle.task.specs.Names.{Formed, formed, same_name}
use Rattle.task.specs.Tasks.{tasks_most, whole_piece, SizedMachine, sized_machine, place_by, place_of, rule, or_else, fault_of, first_fault, state_fault}
use Rattle.task.specs.Refusals.{task_table, state_table}
use Rattle.task.proofs.NameLaws.{formed-exact, same-name-exact}
use Rattle.task.proofs.TaskLaws.{machine-exact}

-- ---- chains of rules

pub comes-rule : {P : Type 0} {rules : List Rule} {rest c : ℕ} (t : Bool) → Breaks P t → (n : ℕ) → Comes rules rest c
    → Comes (suc n if P carrying c ∷ rules) (rule t (suc n) rest) c
comes-rule true b n more = next (breaks-kept b refl) more
comes-rule false b n more = here (b.breaks refl) refl refl

pub comes-or-else : {rules more : List Rule} {m c : ℕ} (n : ℕ) → Comes rules n c → Comes more m c → Comes (rules ++ more) (or_else n m) c
comes-or-else {rules} {more} zero first then = comes-behind rules ((comes-kept first).0 refl) then
comes-or-else {rules} {more} (suc n) first then = comes-front first more

-- ---- the tests

pub form-breaks : (n : Name) → Breaks (Not (Formed n)) (formed n)
form-breaks n = breaks-exact (formed n) (formed-exact n)

pub machine-breaks : (m : Machine) → Breaks (Not (SizedMachine m)) (sized_machine m)
machine-breaks m = breaks-exact (sized_machine m) (machine-exact m)

-- ---- names

module _ {A : Type 0} (key : A → Name) (n : Name) where
  abbrev Named : List A → Type 0
  Named xs = SomeOf (λ x. key x ≡ n) xs

  named-from : (k : ℕ) (xs : List A) → 1 ≤ k → Breaks (Named xs) (eqb (place_by key k n xs) 0)
  named-from k [] some = record { breaks = λ e. absurd (true≢false e); fails = λ never. absurd never }
  named-from k (x ∷ xs) some = by (same_name n (key x)) refl (named-from (k + 1) xs (omega arith))
    where
      by : (b : Bool) → same_name n (key x) ≡ b → Breaks (Named xs) (eqb (place_by key (k + 1) n xs) 0)
          → Breaks (Named (x ∷ xs)) (eqb (cond b k (place_by key (k + 1) n xs)) 0)
      by true same more = record { breaks = λ e. inl (sym ((same-name-exact n (key x)).0 same)); fails = λ h. ne_eqb k 0 (λ e. omega arith) }
      by false other more = record { breaks = λ e. inr (more.breaks e); fails = fails_by }
        where
          fails_by : Named (x ∷ xs) → eqb (place_by key (k + 1) n xs) 0 ≡ false
          fails_by (inl is) = absurd (true≢false (sym ((same-name-exact n (key x)).1 (sym is)) ∙ other))
          fails_by (inr h) = more.fails h

  pub place-breaks : (xs : List A) → Breaks (Named xs) (eqb (place_by key 1 n xs) 0)
  place-breaks xs = named-from 1 xs (omega arith)

-- ---- tasks

pub fault-comes : (above : List Task) (t : Task) → Comes (task_table above t) (fault_of above t) 0
unfolding fault_of
fault-comes above t =
    comes-rule (formed t.name) (form-breaks t.name) 7
    (comes-rule (sized (whole_piece t.times)) (sized-breaks (whole_piece t.times)) 2
    (comes-rule (eqb (place_of 1 t.name above) 0) (place-breaks (λ (u : Task). u.name) t.name above) 3
    none))

faults-come : (above : List Task) (k : ℕ) (ts : List Task)
    → Comes (down_each (λ above k t. task_table above t) (λ above t. above ++ (t ∷ [])) above k ts) (first_fault above ts) 0
faults-come above k [] = none
faults-come above k (t ∷ ts) = comes-or-else (fault_of above t) (fault-comes above t) (faults-come (above ++ (t ∷ [])) (k + 1) ts)

pub state-comes : (m : Machine) (c : Costs) (n : ℕ) (ts : List Task) → Comes (state_table m c n ts) (state_fault m c n ts) 0
unfolding state_table state_fault
state-comes m c n ts =
    comes-rule (sized_machine m) (machine-breaks m) 0
    (comes-rule (sized_costs c) (costs-break c) 1
    (comes-rule (leb n tasks_most) (breaks-leb n tasks_most) 5
    (faults-come [] 1 (take n ts))))

pub state-refused : (m : Machine) (c : Costs) (n : ℕ) (ts : List Task) (N k : ℕ)
    → ((state_fault m c n ts ≡ suc N) × (0 ≡ k)) ↔ Gives (state_table m c n ts) (suc N) k
state-refused m c n ts N k = comes-refused (state-comes m c n ts) N k

pub state-kept : (m : Machine) (c : Costs) (n : ℕ) (ts : List Task) → (state_fault m c n ts ≡ 0) ↔ Kept (state_table m c n ts)
state-kept m c n ts = comes-kept (state-comes m c n ts)
