-- Small laws for the page's promises of a held plan.
-- Assumes nothing.
--
--   walk-order        the walk goes over the tasks' places in packing order
--   cores-bounded     every core has a busy length within the limit, or no piece, and keeps up at every length at which a job is due
--   ones-are          the number of tasks on a core of a plan is the number of ones of its word
--   held-ones         of a held plan it is the number of pieces that the walk placed there
--   HeldOf m c ts s   s is a held plan of the machine m, the costs c and the tasks ts
--   plan-made         so is a plan that comes, of what it was asked for
--   edit-yields       and what an accepted edit yields, of the state's own machine and costs and the tasks after it
--   plan-counted, plan-listed, plan-none      what a plan counts and lists, and what comes with a refusal
--   reached-is        where the walk sticks, the plan that is reached is that of what was placed before
--   reached-tasks, reached-count, reached-rows, reached-bits      so it has the tasks, counts what was placed, and has it in its rows and words
use mathlib.Core.Path.{◌≡◌, refl, sym, ap, ◌∙◌}
use mathlib.Core.Logic.{◌↔◌}
use mathlib.Core.List.{List, map}
use Prim.Native.Nat.{ℕ, zero, suc, ◌≤◌, ◌<◌}
use native.Mathlib.Omega.{arith}
use borrow.Author.Tests.{lt-leb}
use lib.Count.{ones}
use lib.ListN.{length, take, get_or, length-take}
use lib.Dec.{eqb}
use Rattle.demand.specs.declared.Costs.{Costs}
use Rattle.demand.specs.Sizes.{Sized, Each}
use Rattle.demand.specs.Charge.{core_of, stall}
use Rattle.demand.specs.Verdict.{Bounded, KeepsUp}
use Rattle.demand.proofs.Sums.{each_map}
use Rattle.demand.proofs.Judgement.{passes-means}
use Rattle.task.specs.declared.Task.{Task}
use Rattle.task.specs.declared.Machine.{Machine}
use Rattle.demand.specs.Tables.{Not, Kept}
use Rattle.task.specs.Tasks.{cores_most, state_fault}
use Rattle.task.specs.Refusals.{state_table}
use Rattle.task.proofs.RefusalLaws.{state-kept}
use Rattle.task.proofs.TaskLaws.{state-sane, tasks-listed}
use Rattle.walks.specs.Way.{Placed, Ending, fine, stuck, walk_over, on_core, row_of}
use Rattle.walks.specs.Edits.{edited}
use Rattle.walks.specs.Halves.{Stand}
use Rattle.walks.proofs.ListLaws.{each-only}
use Rattle.plan.specs.declared.Plan.{Plan}
use Rattle.plan.specs.declared.Layout.{Layout}
use Rattle.plan.specs.Reply.{Reply}
use Rattle.plan.specs.Walk.{place_way, packed, walked, walked_until}
use Rattle.plan.specs.Layout.{none, tasks_on}
use Rattle.plan.specs.Plan.{no_plan, plan_placed, finished, unless_fault, plan_of, reached_of}
use Rattle.plan.specs.Places.{of_task}
use Rattle.plan.specs.Shows.{stored_of, bit_of}
use Rattle.plan.proofs.Theorems.{placed-sized, cores-pass, words-show, reached-stuck, reached-shows, reached-words}
use Rattle.listing.specs.Listing.{listing_of}
use Rattle.listing.specs.Placed.{placed_listing}
use Rattle.listing.proofs.PlacedLaws.{plan-is as plan-finished, pieces-count, tasks-count}
use Rattle.listing.proofs.Theorems.{listing-placed}
use Rattle.edits.specs.Edits.{by_name, TaskEdit, tasks_held, row_in, edit_of, Held}
use Rattle.edits.proofs.AnswerLaws.{Made, plan-is, edit-made}
use Rattle.edits.proofs.HeldMeaning.{held-exact}
use Rattle.edits.proofs.HeldTheorems.{afresh-held}

pub walk-order : (m : Machine) (c : Costs) (ts : List Task) → walked m c ts ≡ walk_over (place_way m c ts) (packed ts)
unfolding walked
walk-order m c ts = refl

module _ (m : Machine) (c : Costs) (n : ℕ) (ts : List Task) (good : state_fault m c n ts ≡ 0) (s : Stand) (l : List (Placed ℕ))
    (so : walked m c (take n ts) ≡ fine s l) (q : ℕ) where
  sizes : Each Sized (row_of q l)
  sizes =
      each_map (λ (e : Placed ℕ). Sized e.piece) Sized (λ e. e.piece) (λ e size. size) (on_core q l)
      (each-only (λ e. Sized e.piece) (λ e. eqb e.on q) l (placed-sized m c n ts good s l so))

  pub cores-bounded : Bounded (core_of c (row_of q l)) × KeepsUp (stall c) (core_of c (row_of q l))
  cores-bounded = (passes-means c (row_of q l) sizes).0 (cores-pass m c n ts good s l so q)

pub ones-are : (s : Layout) (q : ℕ) → q < cores_most → tasks_on s q ≡ ones (get_or s.words q 0)
unfolding tasks_on
ones-are s q low = rw (lt-leb cores_most q low)

pub held-ones : (s : Plan) (held : Held s) (q : ℕ) → q < cores_most → tasks_on s.layout q ≡ length (on_core q held.log)
held-ones s held q low =
    let m = s.machine in
    let c = s.costs in
    let n = s.tasks.count in
    let ts = s.tasks.list in
    let good = (state-kept m c n ts).1 held.sane in
    ones-are s.layout q low
    ∙ (ap ones (((held-exact s).0 held).words q low)
    ∙ (words-show m c n ts good held.stand held.log held.walks q low).count)

-- ---- plans that come, and accepted edits

abbrev pub HeldOf : Machine → Costs → List Task → Plan → Type 0
HeldOf m c ts s = Held s × (s.machine ≡ m) × (s.costs ≡ c) × (tasks_held s ≡ ts)

made_holds : (m : Machine) (c : Costs) (ts : List Task) (s : Plan) → Made m c ts s → HeldOf m c ts s
made_holds m c ts s made = (afresh-held s made.held, made.machine-is, made.costs-is, made.tasks-are)

pub plan-made : (m : Machine) (c : Costs) (n : ℕ) (ts : List Task) → (plan_of m c n ts).number ≡ 0 → HeldOf m c (take n ts) (plan_of m c n ts).plan
plan-made m c n ts number = made_holds m c (take n ts) (plan_of m c n ts).plan (plan-is m c n ts number)

pub edit-yields : (e : TaskEdit) (s : Plan) → (edit_of e s).number ≡ 0 → HeldOf s.machine s.costs (edited by_name e (tasks_held s)) (edit_of e s).plan
edit-yields e s taken = made_holds s.machine s.costs (edited by_name e (tasks_held s)) (edit_of e s).plan (edit-made e s taken)

-- ---- what a plan counts and lists, and what comes with a refusal

pub plan-counted : (m : Machine) (c : Costs) (n : ℕ) (ts : List Task) → Kept (state_table m c n ts) → (s : Stand) (l : List (Placed ℕ))
    → walked m c (take n ts) ≡ fine s l
    → ((plan_of m c n ts).carries ≡ 0) × ((plan_of m c n ts).plan.tasks.count ≡ length (take n ts)) × ((plan_of m c n ts).plan.layout.count ≡ length l)
plan-counted m c n ts sane s l so =
    let good = (state-kept m c n ts).1 sane in
    (ap (λ (r : Reply). r.carries) (plan-finished m c n ts good s l so), tasks-count m c n ts good s l so, pieces-count m c n ts good s l so)

pub plan-listed : (m : Machine) (c : Costs) (n : ℕ) (ts : List Task) → Kept (state_table m c n ts) → (s : Stand) (l : List (Placed ℕ))
    → walked m c (take n ts) ≡ fine s l → listing_of (plan_of m c n ts).plan ≡ placed_listing c (take n ts) l
plan-listed m c n ts sane = listing-placed m c n ts ((state-kept m c n ts).1 sane)

refused_none : (m : Machine) (c : Costs) (n : ℕ) (ts : List Task) → Not ((plan_of m c n ts).number ≡ 0) → (plan_of m c n ts).plan ≡ no_plan
unfolding plan_of
refused_none m c n ts some = by (state_fault m c n ts) (finished m c (take n ts) (walked m c (take n ts))) some (ended (walked m c (take n ts)))
  where
    ended : (o : Ending Stand ℕ) → Not ((finished m c (take n ts) o).number ≡ 0) → (finished m c (take n ts) o).plan ≡ no_plan
    ended (fine s l) never = absurd (never refl)
    ended (stuck k j) never = refl

    by : (f : ℕ) (r : Reply) → Not ((unless_fault f r).number ≡ 0) → (Not (r.number ≡ 0) → r.plan ≡ no_plan) → (unless_fault f r).plan ≡ no_plan
    by zero r never rest = rest never
    by (suc f) r never rest = refl

pub plan-none : (m : Machine) (c : Costs) (n : ℕ) (ts : List Task) → Not ((plan_of m c n ts).number ≡ 0)
    → ((plan_of m c n ts).plan.tasks.count ≡ 0) × ((plan_of m c n ts).plan.layout.count ≡ 0)
    × ((m' : Machine) (c' : Costs) (n' : ℕ) (ts' : List Task) → Not ((plan_of m' c' n' ts').number ≡ 0) → (plan_of m c n ts).plan ≡ (plan_of m' c' n' ts').plan)
unfolding no_plan none
plan-none m c n ts some =
    let none_is = refused_none m c n ts some in (
      ap (λ (s : Plan). s.tasks.count) none_is,
      ap (λ (s : Plan). s.layout.count) none_is,
      (λ m' c' n' ts' some'. none_is ∙ sym (refused_none m' c' n' ts' some')),
    )

-- ---- the plan that is reached, where the walk sticks

module _ (m : Machine) (c : Costs) (n : ℕ) (ts : List Task) (sane : Kept (state_table m c n ts)) (k : ℕ) (sticks : walked m c (take n ts) ≡ stuck k 7) where
  good : state_fault m c n ts ≡ 0
  good = (state-kept m c n ts).1 sane

  pub reached-is : (reached_of m c n ts).plan ≡ plan_placed m c (take n ts) (walked_until m c (take n ts))
  reached-is = ap (λ (r : Reply). r.plan) (reached-stuck m c n ts good k sticks)

  pub reached-tasks : tasks_held (reached_of m c n ts).plan ≡ take n ts
  reached-tasks = ap tasks_held reached-is ∙ tasks-listed (take n ts) (omega (arith, length-take n ts, (state-sane m c n ts good).few))

  pub reached-count : (reached_of m c n ts).plan.layout.count ≡ length (walked_until m c (take n ts))
  reached-count = ap (λ (s : Plan). s.layout.count) reached-is ∙ (reached-shows m c n ts good).count

  pub reached-rows : (q : ℕ) → q < cores_most → row_in (reached_of m c n ts).plan q ≡ map stored_of (on_core q (walked_until m c (take n ts)))
  reached-rows q low = ap (λ (s : Plan). row_in s q) reached-is ∙ (reached-shows m c n ts good).numbers q low

  pub reached-bits : (q j : ℕ) → q < cores_most → (bit_of (get_or (reached_of m c n ts).plan.layout.words q 0) j ≡ 1)
      ↔ (1 ≤ length (of_task j (on_core q (walked_until m c (take n ts)))))
  reached-bits q j low = rw reached-is ((reached-words m c n ts good q low).set j)
