-- From the tasks to the walk's code.
-- Assumes nothing.
--
--   sized-at           a task at a place below the end is within the sizes
--   upto-each          what holds of each place below n
--   walk-fits          the walk over the packing order can begin
--   walk-planned-ends  and where it ends, the walk over the tasks does
--   fault-seven        no fault of a state has the number 7
use mathlib.Core.Path.{◌≡◌, subst}
use mathlib.Core.Bool.{Bool, true, false}
use mathlib.Core.List.{List, [], ◌∷◌, ◌++◌}
use Prim.Native.Nat.{ℕ, zero, suc, ◌<◌, ◌≤◌}
use native.Mathlib.Nat.{not-suc-le-zero, le_of_suc-le-suc}
use native.Mathlib.Omega.{arith}
use lib.Dec.{eqb, leb}
use lib.ListN.{length, take, length-take}
use Rattle.demand.specs.declared.Costs.{Costs}
use Rattle.demand.specs.Sizes.{Sized, Each, sized, sized_costs}
use Rattle.task.specs.declared.Task.{Task}
use Rattle.task.specs.declared.Machine.{Machine}
use Rattle.task.specs.Tasks.{whole_piece, place_of, rule, or_else, fault_of, first_fault, state_fault, sized_machine, tasks_most}
use Rattle.task.specs.Names.{formed}
use Rattle.task.proofs.TaskLaws.{Sane}
use Rattle.std.specs.Prelude.{Option}
use Rattle.walks.specs.Way.{Placed}
use Rattle.walks.proofs.OrderLaws.{pack-every}
use Rattle.plan.specs.Walk.{whole_at, upto, denser_at, place_way, packed}
use Rattle.plan.specs.Ways.WalkGoing.{EndsOver, WalkFits}

-- ---- sizes

pub sized-at : (l : List Task) → Each (λ t. Sized (whole_piece t.times)) l → (i : ℕ) → i < length l → Sized (whole_at l i)
sized-at [] ok i h = absurd (not-suc-le-zero h)
sized-at (t ∷ l) ok zero h = ok.0
sized-at (t ∷ l) ok (suc i) h = sized-at l ok.1 i (le_of_suc-le-suc h)

pub upto-each : (P : ℕ → Type 0) (n : ℕ) → ((i : ℕ) → i < n → P i) → Each P (upto n)
upto-each P zero h = tt
upto-each P (suc n) h = behind (upto n) (upto-each P n (λ i less. h i (omega arith)))
  where
    behind : (l : List ℕ) → Each P l → Each P (l ++ (n ∷ []))
    behind [] ok = (h n (omega arith), tt)
    behind (i ∷ l) ok = (ok.0, behind l ok.1)

module _ (m : Machine) (c : Costs) (n : ℕ) (ts : List Task) (sane : Sane m c n ts) (order : List ℕ)
    (is : order ≡ packed (take n ts)) (places : Each (λ k. k < length (take n ts)) order) where
  sizes : Each (λ k. Sized (whole_at (take n ts) k)) order
  sizes = rw is (pack-every (denser_at (take n ts)) (λ k. Sized (whole_at (take n ts) k)) (upto (length (take n ts)))
      (upto-each (λ k. Sized (whole_at (take n ts) k)) (length (take n ts)) (sized-at (take n ts) sane.timed)))

  pub walk-fits : length order ≤ 64 → WalkFits m c (take n ts) order
  walk-fits count = record {
    some = sane.cores-some;
    few = sane.cores-fit;
    costs = sane.costs;
    long = omega (arith, length-take n ts, sane.few);
    count = count;
    places = places;
    sizes = sizes;
  }

-- so where the code's walk ends, the definition's does
pub walk-planned-ends : (m : Machine) (c : Costs) (held ts : List Task) → held ≡ ts → (order : List ℕ) → order ≡ packed held
    → (placed : List (Placed ℕ)) (e : Option ℕ) → EndsOver (place_way m c held) placed e order → EndsOver (place_way m c ts) placed e (packed ts)
walk-planned-ends m c held ts same order is placed e there =
    subst (λ (l : List Task). EndsOver (place_way m c l) placed e (packed l)) same (subst (EndsOver (place_way m c held) placed e) is there)

-- ---- no fault has the number 7

rule-other : (b : Bool) (n rest : ℕ) → (n ≡ 7 → ⊥) → (rest ≡ 7 → ⊥) → rule b n rest ≡ 7 → ⊥
rule-other true n rest here below = below
rule-other false n rest here below = here

or-other : (k n : ℕ) → (k ≡ 7 → ⊥) → (n ≡ 7 → ⊥) → or_else k n ≡ 7 → ⊥
or-other zero n here below = below
or-other (suc k) n here below = here

task-seven : (above : List Task) (t : Task) → fault_of above t ≡ 7 → ⊥
unfolding fault_of
task-seven above t =
    let alone : Bool = eqb (place_of 1 t.name above) 0 in
    let timed : Bool = sized (whole_piece t.times) in
    rule-other (formed t.name) 8 (rule timed 3 (rule alone 4 0)) (λ e. omega arith)
    (rule-other timed 3 (rule alone 4 0) (λ e. omega arith) (rule-other alone 4 0 (λ e. omega arith) (λ e. omega arith)))

tasks-seven : (above ts : List Task) → first_fault above ts ≡ 7 → ⊥
tasks-seven above [] e = omega arith
tasks-seven above (t ∷ ts) e = or-other (fault_of above t) (first_fault (above ++ (t ∷ [])) ts) (task-seven above t) (tasks-seven (above ++ (t ∷ [])) ts) e

pub fault-seven : (m : Machine) (c : Costs) (n : ℕ) (ts : List Task) → state_fault m c n ts ≡ 7 → ⊥
unfolding state_fault
fault-seven m c n ts =
    let tasks : ℕ = first_fault [] (take n ts) in
    let few : Bool = leb n tasks_most in
    rule-other (sized_machine m) 1 (rule (sized_costs c) 2 (rule few 6 tasks)) (λ e. omega arith) (rule-other (sized_costs c) 2
    (rule few 6 tasks) (λ e. omega arith) (rule-other few 6 tasks (λ e. omega arith) (tasks-seven [] (take n ts))))
