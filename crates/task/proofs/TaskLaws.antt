-- Laws of lists of tasks: the search for a name and for a fault, one task on.
-- Assumes nothing.
--
--   position-place, any-place             the place of a name among things that have one, as std's `position` and `any` answer it
--   fault-own, fault-below                the fault of a task: its own, and where it has none, a name that one above it has
--   fault-form, fault-free      a task with a bad name; a good one
--   rule-fine, or-else-fine     a rule that gives no number is kept
--   tasks-none, tasks-listed, tasks-at      a list in its array, none first
--   machine-exact               a machine is within its sizes exactly where its test says so
--   Good, Sane, state-sane      what is known of tasks, and of a machine with costs and tasks, that break no rule
use mathlib.Core.Path.{◌≡◌, refl, ap, ◌∙◌}
use mathlib.Core.Bool.{Bool, true, false, cond, not, ◌||◌}
use mathlib.Core.Logic.{◌↔◌}
use mathlib.Core.List.{List, [], ◌∷◌, ◌++◌}
use Prim.Native.Nat.{ℕ, zero, suc, ◌+◌, ◌≤◌, ◌<◌}
use native.Mathlib.Omega.{arith}
use borrow.Author.Rules.{rules}
use borrow.Author.Tests.{eq-eqb, ne_eqb, eqb-true, leb-true}
use lib.Dec.{eqb, leb, ltb}
use lib.ListN.{length, take, replicate, get_or-append}
use Rattle.demand.proofs.PaddedLaws.{padded-none, padded-take, padded-append}
use Rattle.std.specs.declared.option.Option.TheVariants.{None, Some}
use Rattle.std.specs.List.{list_any, position, position_or_len}
use Rattle.task.specs.declared.Name.{Name}
use Rattle.task.specs.declared.faults.Fault.{Fault}
use Rattle.task.specs.Faults.{number_of}
use Rattle.task.specs.declared.Task.{Task}
use Rattle.task.specs.declared.Machine.{Machine}
use Rattle.demand.specs.declared.Costs.{Costs}
use Rattle.demand.specs.Sizes.{sized, sized_costs, Sized, SizedCosts, Each, time_most}
use Rattle.demand.proofs.SizeLaws.{tells-exact, Bounds, tells-bounds, sized-exact, costs-exact}
use Rattle.task.proofs.FaultLaws.{number-some}
use Rattle.task.specs.Names.{formed, same_name}
use Rattle.task.specs.Tasks.{whole_piece, place_by, place_of, place_number, own_fault, fault_of, first_fault, or_else, past, task_at, no_task}
use Rattle.task.specs.Tasks.{tasks_of, list_of, rule, state_fault, SizedMachine, sized_machine, cores_most, tasks_most}

-- ---- the place of a name, among things that have one

search-step : (b : Bool) (p m k rest : ℕ) → cond (ltb p m) (k + 1 + p) 0 ≡ rest
    → cond (ltb (cond (not b) (1 + p) 0) (suc m)) (k + cond (not b) (1 + p) 0) 0 ≡ cond b k rest
search-step true p m k rest e = grind arith
search-step false p m k rest e = grind (arith, e)

counted : (b : Bool) (p : ℕ) → place_number (cond b (Some p) None) ≡ cond b (1 + p) 0
counted true p = omega arith
counted false p = refl

any-step : (b rest : Bool) (k place : ℕ) → rest ≡ not (eqb place 0) → (b || rest) ≡ not (eqb (cond b (k + 1) place) 0)
any-step true rest k place e = rw (ne_eqb (k + 1) 0 (λ e. omega arith))
any-step false rest k place e = e

module _ {A : Type 0} (key : A → Name) where
  -- the same search in std's words, from the k-th place on
  search-place : (n : Name) (k : ℕ) (xs : List A)
      → cond (ltb (position_or_len (λ x. same_name n (key x)) xs) (length xs)) (k + position_or_len (λ x. same_name n (key x)) xs) 0 ≡ place_by key k n xs
  search-place n k [] = refl
  search-place n k (x ∷ xs) =
      search-step (same_name n (key x)) (position_or_len (λ x. same_name n (key x)) xs) (length xs) k (place_by key (k + 1) n xs) (search-place n (k + 1) xs)

  pub position-place : (n : Name) (xs : List A) → place_number (position (λ x. same_name n (key x)) xs) ≡ place_by key 1 n xs
  position-place n xs =
      counted (ltb (position_or_len (λ x. same_name n (key x)) xs) (length xs)) (position_or_len (λ x. same_name n (key x)) xs) ∙ search-place n 1 xs

  pub any-place : (n : Name) (k : ℕ) (xs : List A) → list_any (λ x. same_name n (key x)) xs ≡ not (eqb (place_by key (k + 1) n xs) 0)
  any-place n k [] = refl
  any-place n k (x ∷ xs) = any-step (same_name n (key x)) (list_any (λ x. same_name n (key x)) xs) k (place_by key (k + 1 + 1) n xs) (any-place n (k + 1) xs)

-- the fault of a task: its own, and then a name that one above it has
own-step : (a b : Bool) (n rest : ℕ) → (n ≡ 0 → ⊥) → n ≡ rule a 8 (rule b 3 0) → n ≡ rule a 8 (rule b 3 rest)
own-step true true n rest some e = absurd (some e)
own-step true false n rest some e = e
own-step false b n rest some e = e

below-step : (a b : Bool) (rest : ℕ) → 0 ≡ rule a 8 (rule b 3 0) → rest ≡ rule a 8 (rule b 3 rest)
below-step true true rest e = refl
below-step true false rest e = absurd (omega arith)
below-step false b rest e = absurd (omega arith)

module _ (above : List Task) (t : Task) where
  pub fault-own : (f : Fault) → number_of f ≡ own_fault t → number_of f ≡ fault_of above t
  unfolding fault_of
  fault-own f e =
      own-step (formed t.name) (sized (whole_piece t.times)) (number_of f) (rule (eqb (place_of 1 t.name above) 0) 4 0) (number-some f) e

  pub fault-below : 0 ≡ own_fault t → (found : Bool) → found ≡ not (eqb (place_of 1 t.name above) 0) → cond found 4 0 ≡ fault_of above t
  unfolding fault_of
  fault-below e found is =
      below (eqb (place_of 1 t.name above) 0) found is
      ∙ below-step (formed t.name) (sized (whole_piece t.times)) (rule (eqb (place_of 1 t.name above) 0) 4 0) e
    where
      below : (b found : Bool) → found ≡ not b → cond found 4 0 ≡ rule b 4 0
      below true found is = rw is
      below false found is = rw is

-- ---- the fault of one task

module _ (above : List Task) (t : Task) where
  pub fault-form : formed t.name ≡ false → fault_of above t ≡ 8
  unfolding fault_of
  fault-form bad = rw bad

  pub fault-free : formed t.name ≡ true → sized (whole_piece t.times) ≡ true → place_of 1 t.name above ≡ 0 → fault_of above t ≡ 0
  unfolding fault_of
  fault-free good fits alone = rw (good, fits, eq-eqb (place_of 1 t.name above) 0 alone)

-- ---- what is known where no rule is broken

machine-bounds : Machine → List (ℕ × ℕ)
machine-bounds m = (m.grain, time_most) ∷ (1, m.grain) ∷ (m.cores, cores_most) ∷ (1, m.cores) ∷ []

pub machine-exact : (m : Machine) → (sized_machine m ≡ true) ↔ SizedMachine m
unfolding sized_machine machine-bounds
machine-exact m =
    let exact = tells-exact (Bounds (machine-bounds m)) (sized_machine m) (tells-bounds (machine-bounds m)) in (
      (λ e. let b = exact.0 e in record { cores-some = b.0.0.0.1; cores-fit = b.0.0.1; grain-some = b.0.1; grain-fits = b.1 }),
      λ s. exact.1 (search rules),
    )

pub rule-fine : (b : Bool) (n rest : ℕ) → rule b (suc n) rest ≡ 0 → (b ≡ true) × (rest ≡ 0)
rule-fine true n rest e = (refl, e)
rule-fine false n rest e = absurd (omega arith)

pub or-else-fine : (k n : ℕ) → or_else k n ≡ 0 → (k ≡ 0) × (n ≡ 0)
or-else-fine zero n e = (refl, e)
or-else-fine (suc k) n e = absurd (omega arith)

-- a task that breaks no rule
pub record Good (above : List Task) (t : Task) : Type 0 where
  pub named : formed t.name ≡ true
  pub timed : Sized (whole_piece t.times)
  pub alone : place_of 1 t.name above ≡ 0

fault-good : (above : List Task) (t : Task) → fault_of above t ≡ 0 → Good above t
unfolding fault_of
fault-good above t e =
    let a = rule-fine (formed t.name) 7 (rule (sized (whole_piece t.times)) 3 (rule (eqb (place_of 1 t.name above) 0) 4 0)) e in
    let b = rule-fine (sized (whole_piece t.times)) 2 (rule (eqb (place_of 1 t.name above) 0) 4 0) a.1 in
    let d = rule-fine (eqb (place_of 1 t.name above) 0) 3 0 b.1 in
    record { named = a.0; timed = (sized-exact (whole_piece t.times)).0 b.0; alone = eqb-true (place_of 1 t.name above) 0 d.0 }

faults-timed : (above ts : List Task) → first_fault above ts ≡ 0 → Each (λ t. Sized (whole_piece t.times)) ts
faults-timed above [] e = tt
faults-timed above (t ∷ ts) e =
    let both = or-else-fine (fault_of above t) (first_fault (above ++ (t ∷ [])) ts) e in
    ((fault-good above t both.0).timed, faults-timed (above ++ (t ∷ [])) ts both.1)

-- a machine, costs and tasks that break no rule
pub record Sane (m : Machine) (c : Costs) (n : ℕ) (ts : List Task) : Type 0 where
  pub cores-some : 1 ≤ m.cores
  pub cores-fit : m.cores ≤ cores_most
  pub grain-some : 1 ≤ m.grain
  pub grain-fits : m.grain ≤ time_most
  pub costs : SizedCosts c
  pub few : n ≤ tasks_most
  pub faultless : first_fault [] (take n ts) ≡ 0
  pub timed : Each (λ t. Sized (whole_piece t.times)) (take n ts)

pub state-sane : (m : Machine) (c : Costs) (n : ℕ) (ts : List Task) → state_fault m c n ts ≡ 0 → Sane m c n ts
unfolding state_fault
state-sane m c n ts e =
    let a = rule-fine (sized_machine m) 0 (rule (sized_costs c) 2 (rule (leb n tasks_most) 6 (first_fault [] (take n ts)))) e in
    let b = rule-fine (sized_costs c) 1 (rule (leb n tasks_most) 6 (first_fault [] (take n ts))) a.1 in
    let d = rule-fine (leb n tasks_most) 5 (first_fault [] (take n ts)) b.1 in
    let machine = (machine-exact m).0 a.0 in
    record {
      cores-some = machine.cores-some;
      cores-fit = machine.cores-fit;
      grain-some = machine.grain-some;
      grain-fits = machine.grain-fits;
      costs = (costs-exact c).0 b.0;
      few = leb-true n tasks_most d.0;
      faultless = d.1;
      timed = faults-timed [] (take n ts) d.1;
    }

-- ---- a list in its array

pub tasks-none : (t : Task) → t ≡ no_task → record { count = 0; list = replicate tasks_most t } ≡ tasks_of []
tasks-none t e = rw (e, padded-none no_task tasks_most)

pub tasks-listed : (ts : List Task) → length ts ≤ tasks_most → list_of (tasks_of ts) ≡ ts
tasks-listed ts few = padded-take no_task tasks_most ts few

-- the task at a place, from 0
pub tasks-at : (ts : List Task) (i : ℕ) → length ts ≤ tasks_most → i < length ts → task_at (tasks_of ts).list i ≡ task_at ts i
tasks-at ts i few low = ap (λ (l : List Task). task_at l i) (padded-append no_task tasks_most ts few) ∙ get_or-append ts _ past i low
