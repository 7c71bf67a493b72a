-- A held plan of four tasks on three cores, and an edit with a task before it and one behind it where the walks meet: what `edit-before` and `edit-after`
-- ask for does occur.
-- Assumes nothing.
--
--   tasks                  two that fill a core each, and two that go on the third core
--   change                 the second of them retimed, so that it fills its core in another way
--   first-keeps            the first keeps its pieces: it is before the edited one in both packing orders
--   last-keeps             so does the last: both walks come to it at the third core, with the third task there
use mathlib.Core.Path.{◌≡◌, refl, sym, ap, ◌∙◌, subst}
use mathlib.Core.Logic.{inl, inr}
use mathlib.Core.List.{List, [], ◌∷◌, ◌++◌}
use Prim.Native.Nat.{ℕ}
use native.Mathlib.Omega.{arith}
use lib.ListN.{replicate}
use Rattle.demand.specs.declared.Costs.{Costs}
use Rattle.demand.specs.Sizes.{sized, sized_costs}
use Rattle.demand.specs.Charge.{charge, ipi_cost, charged, core_of, stall}
use Rattle.demand.specs.Demand.{ceil, jobs_due, interrupts, blocking, load, demand, least_live}
use Rattle.demand.specs.Busy.{least_holding, busy_load, busy_sum, busy_length, tight_sum, tight_window}
use Rattle.demand.specs.Split.{piece_of, late_jitter, first_piece, last_piece, tight_first, both_pass, greatest_split}
use Rattle.demand.specs.Verdict.{verdict, verdict_of}
use Rattle.task.specs.declared.Name.{Name}
use Rattle.task.specs.declared.Task.{Task}
use Rattle.task.specs.declared.Machine.{Machine}
use Rattle.task.specs.Names.{name_byte, formed, same_name}
use Rattle.task.specs.Tasks.{whole_piece, sized_machine, fault_of, state_fault}
use Rattle.plan.specs.declared.Plan.{Plan}
use Rattle.walks.specs.Way.{Placed}
use Rattle.walks.specs.Edits.{retime, edited}
use Rattle.walks.specs.Kept.{Among, Behind, Meet}
use Rattle.walks.specs.Halves.{denser, Stand}
use Rattle.plan.specs.Walk.{task_way, walked}
use Rattle.plan.specs.Layout.{none, put_of}
use Rattle.plan.specs.Plan.{no_plan, plan_of}
use Rattle.demand.specs.Lists.{padded}
use Rattle.edits.specs.Edits.{by_name, TaskEdit, tasks_held, edit_fault, edit_of, Afresh}
use Rattle.edits.specs.Kept.{in_order, Keeps, Ahead}
use Rattle.edits.proofs.Theorems.{plan-afresh, edit-does, edit-before, edit-after}

-- a name of one letter, and a task that has it
unfoldable pub letter : ℕ → Name
letter b = record { len = 1; bytes = b ∷ replicate 23 0 }

unfoldable pub task : ℕ → ℕ → ℕ → Task
task b c d = record { name = letter b; times = record { worst = c; deadline = d; period = d; jitter = 0; preempt = 0; migrate = 0 } }

unfoldable pub machine : Machine
machine = record { cores = 3; grain = 1 }

unfoldable pub costs : Costs
costs = record { relo = 0; schedo = 0; tseto = 0; ipb = 0; beto = 0; migro = 0; ipio = 0; ipij = 0; precision = 0 }

unfoldable pub tasks : List Task
tasks = task 97 2 2 ∷ task 98 2 2 ∷ task 99 1 2 ∷ task 100 1 3 ∷ []

unfoldable pub changed : List Task
changed = task 97 2 2 ∷ task 98 1 1 ∷ task 99 1 2 ∷ task 100 1 3 ∷ []

unfoldable pub state : Plan
state = (plan_of machine costs 4 tasks).plan

unfoldable pub change : TaskEdit
change = retime (task 98 1 1)

-- ---- by computing

pub record Computed : Type 0 where
  pub planned : (plan_of machine costs 4 tasks).number ≡ 0
  pub taken : (edit_of change state).number ≡ 0
  pub holds : tasks_held state ≡ tasks
  pub machine-is : state.machine ≡ machine
  pub costs-are : state.costs ≡ costs
  pub replaces : edited by_name change tasks ≡ changed
  pub order : in_order tasks ≡ tasks
  pub order-changed : in_order changed ≡ changed
  pub meets : Meet (task_way machine costs) (task 97 2 2 ∷ task 98 2 2 ∷ task 99 1 2 ∷ []) (task 97 2 2 ∷ task 98 1 1 ∷ task 99 1 2 ∷ [])

computed : Computed
unfolding letter task costs machine tasks state change sized sized_costs charge ipi_cost charged core_of stall ceil jobs_due interrupts blocking
    load demand least_live least_holding busy_load busy_sum busy_length tight_sum tight_window late_jitter first_piece last_piece tight_first both_pass
    greatest_split verdict verdict_of name_byte formed same_name whole_piece sized_machine fault_of state_fault denser none put_of padded walked
    no_plan plan_of changed edit_fault edit_of piece_of
computed =
    let third : Stand = record { core = 2; row = whole_piece (task 99 1 2).times ∷ [] } in
    let placed : (t : Task) → ℕ → Placed Task = λ t q. record { on = q; item = t; piece = whole_piece t.times } in
    record {
      planned = refl;
      taken = refl;
      holds = refl;
      machine-is = refl;
      costs-are = refl;
      replaces = refl;
      order = refl;
      order-changed = refl;
      meets = record {
        at = third;
        old-log = placed (task 97 2 2) 0 ∷ placed (task 98 2 2) 1 ∷ placed (task 99 1 2) 2 ∷ [];
        new-log = placed (task 97 2 2) 0 ∷ placed (task 98 1 1) 1 ∷ placed (task 99 1 2) 2 ∷ [];
        old-walk = refl;
        new-walk = refl;
      };
    }

-- ---- by the theorems

held : Afresh state
unfolding state
held = plan-afresh machine costs 4 tasks computed.planned

after : tasks_held (edit_of change state).plan ≡ changed
after = edit-does change state computed.taken ∙ (ap (edited by_name change) computed.holds ∙ computed.replaces)

-- two letters that differ
other : (a b : ℕ) → (a ≡ b → ⊥) → letter a ≡ letter b → ⊥
unfolding letter
other a b differ same = differ (let bytes : a ∷ replicate 23 0 ≡ b ∷ replicate 23 0 = ap (λ (n : Name). n.bytes) same in cc)

-- the first of an order is before all others
leads : (ts rest : List Task) → in_order ts ≡ task 97 2 2 ∷ rest → Among by_name (letter 97) ts → Ahead (letter 98) (letter 97) ts
unfolding task
leads ts rest order among = record { held = among; ahead = by }
  where
    by : (p q : List Task) (a : Task) → in_order ts ≡ p ++ (a ∷ q) → a.name ≡ letter 98 → Among by_name (letter 97) p
    by [] q a e own =
        (let first : task 97 2 2 ∷ rest ≡ a ∷ q = sym order ∙ e in let same : task 97 2 2 ≡ a = cc in
        absurd (other 97 98 (λ z. omega arith) (ap (λ (t : Task). t.name) same ∙ own)))
    by (t ∷ p) q a e own =
        (let first : task 97 2 2 ∷ rest ≡ t ∷ (p ++ (a ∷ q)) = sym order ∙ e in let same : task 97 2 2 ≡ t = cc in
        inl (ap (λ (u : Task). u.name) (sym same)))

-- the last of them is behind the edited one
trails : (ts p : List Task) → in_order ts ≡ p ++ (task 100 1 3 ∷ []) → Behind by_name (letter 98) (in_order ts) p (task 100 1 3) []
unfolding task
trails ts p order = record { order = order; later = by }
  where
    by : Among by_name (letter 98) (task 100 1 3 ∷ []) → ⊥
    by (inl e) = other 100 98 (λ z. omega arith) e
    by (inr e) = e

pub first-keeps : Keeps state (edit_of change state).plan (letter 97)
unfolding change tasks changed task
first-keeps =
    edit-before change state held computed.taken (letter 97)
    (subst (Ahead (letter 98) (letter 97)) (sym computed.holds) (leads tasks (task 98 2 2 ∷ task 99 1 2 ∷ task 100 1 3 ∷ []) computed.order (inl refl)))
    (subst (Ahead (letter 98) (letter 97)) (sym after) (leads changed (task 98 1 1 ∷ task 99 1 2 ∷ task 100 1 3 ∷ []) computed.order-changed (inl refl)))

pub last-keeps : Keeps state (edit_of change state).plan (letter 100)
unfolding change tasks changed task
last-keeps =
    edit-after change state held computed.taken
    (subst (λ (ts : List Task). Behind by_name (letter 98) (in_order ts) (task 97 2 2 ∷ task 98 2 2 ∷ task 99 1 2 ∷ []) (task 100 1 3) [])
    (sym computed.holds) (trails tasks (task 97 2 2 ∷ task 98 2 2 ∷ task 99 1 2 ∷ []) computed.order))
    (subst (λ (ts : List Task). Behind by_name (letter 98) (in_order ts) (task 97 2 2 ∷ task 98 1 1 ∷ task 99 1 2 ∷ []) (task 100 1 3) [])
    (sym after) (trails changed (task 97 2 2 ∷ task 98 1 1 ∷ task 99 1 2 ∷ []) computed.order-changed))
    refl
    (subst (λ (m : Machine). Meet (task_way m state.costs) (task 97 2 2 ∷ task 98 2 2 ∷ task 99 1 2 ∷ [])
    (task 97 2 2 ∷ task 98 1 1 ∷ task 99 1 2 ∷ [])) (sym computed.machine-is)
    (subst (λ (c : Costs). Meet (task_way machine c) (task 97 2 2 ∷ task 98 2 2 ∷ task 99 1 2 ∷ [])
    (task 97 2 2 ∷ task 98 1 1 ∷ task 99 1 2 ∷ [])) (sym computed.costs-are) computed.meets))
    (letter 100) (inl refl)
