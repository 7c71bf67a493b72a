-- The theorems about edits, for any edit and any state: document 01, "Edits on a held plan", and demand 3.
-- Assumes nothing.
--
--   plan-afresh            a plan that comes of a machine, costs and a task list is the one worked out afresh from what it holds
--   edit-refused           a refusal gives the state back
--   edit-does              an accepted edit holds the tasks after it: one more at the end, one less, or one with other times in its place
--   edit-same              no edit changes the machine or the costs
--   edit-afresh            an accepted edit yields the plan worked out afresh, whatever the state's rows and words were
--   edit-faultless         where the state and the edit break no rule, the tasks after it break none
--   edit-or-stuck          so the edit is accepted, or the walk over them sticks and the answer is 7 with the place of the task that it sticks at
--   after-edits            after any sequence of edits, refusals among them, a plan worked out afresh is one, of the same machine and costs
--   after-edits-afresh     so it equals the plan worked out afresh from the tasks then held
--   edit-before            an accepted edit keeps the pieces of each task before the edited one in each packing order, old and new, that holds it
--   edit-after             and where at a later task in each of those the walks come to the same state, of that task and all later ones
--   same-stand             a state is a core and the row on it: two walks that stand at the same core with the same row come to the same state
-- `HeldTheorems` has the same of every held plan, whatever lies past its counts.
use mathlib.Core.Path.{◌≡◌, refl, sym, ap, ◌∙◌, subst}
use mathlib.Core.Logic.{◌⊎◌}
use mathlib.Core.List.{List, [], ◌∷◌}
use Prim.Native.Nat.{ℕ, suc}
use lib.ListN.{length}
use Rattle.demand.specs.declared.Costs.{Costs}
use Rattle.task.specs.declared.Name.{Name}
use Rattle.task.specs.declared.Task.{Task}
use Rattle.task.specs.declared.Machine.{Machine}
use Rattle.task.specs.Tasks.{state_fault}
use Rattle.plan.specs.declared.Plan.{Plan}
use Rattle.walks.specs.Way.{Placed, fine, stuck, walk_over, walk_of}
use Rattle.walks.specs.Edits.{edited}
use Rattle.walks.specs.Kept.{Among, Before, Behind, Meet}
use Rattle.walks.specs.Halves.{Stand}
use Rattle.walks.proofs.DenserLaws.{denser-lawful}
use Rattle.walks.proofs.KeptLaws.{Around, kept-before, kept-after}
use Rattle.walks.proofs.EditLaws.{edit-around}
use Rattle.walks.proofs.HalvesLaws.{stands-meet}
use Rattle.plan.specs.Walk.{whole_of, task_way, walked}
use Rattle.plan.specs.Plan.{plan_of}
use Rattle.edits.specs.Edits.{by_name, TaskEdit, tasks_held, edit_fault, given_back, edit_of, accepted, Afresh, played}
use Rattle.edits.specs.Kept.{in_order, Keeps, edited_name, Ahead}
use Rattle.edits.proofs.NameSets.{name-exact}
use Rattle.edits.proofs.HeldLaws.{in-order, Timed, Told, held-told}
use Rattle.edits.proofs.AnswerLaws.{plan-holds, edit-made, edit-back, edit-keeps, Ends, replanned-ends, edit-goes}
use Rattle.edits.proofs.FaultLaws.{rightful-known, rightful-faultless, edited-rightful}

pub plan-afresh : (m : Machine) (c : Costs) (n : ℕ) (ts : List Task) → (plan_of m c n ts).number ≡ 0 → Afresh (plan_of m c n ts).plan
plan-afresh m c n ts made = plan-holds m c n ts made

-- ---- one edit

pub edit-refused : (e : TaskEdit) (s : Plan) → ((edit_of e s).number ≡ 0 → ⊥) → (edit_of e s).plan ≡ s
edit-refused e s refusal = edit-back e s refusal

pub edit-does : (e : TaskEdit) (s : Plan) → (edit_of e s).number ≡ 0 → tasks_held (edit_of e s).plan ≡ edited by_name e (tasks_held s)
edit-does e s taken = (edit-made e s taken).tasks-are

pub edit-same : (e : TaskEdit) (s : Plan) → ((edit_of e s).plan.machine ≡ s.machine) × ((edit_of e s).plan.costs ≡ s.costs)
edit-same e s = ((edit-keeps e s).0, (edit-keeps e s).1)

pub edit-afresh : (e : TaskEdit) (s : Plan) → (edit_of e s).number ≡ 0 → Afresh (edit_of e s).plan
edit-afresh e s taken = (edit-made e s taken).held

-- ---- where no rule is broken

pub edit-faultless : (e : TaskEdit) (s : Plan) → state_fault s.machine s.costs s.tasks.count s.tasks.list ≡ 0
    → edit_fault e (tasks_held s) ≡ 0
    → state_fault s.machine s.costs (length (edited by_name e (tasks_held s))) (edited by_name e (tasks_held s)) ≡ 0
edit-faultless e s faultless right =
    rightful-faultless s.machine s.costs (edited by_name e (tasks_held s)) (edited-rightful s.machine s.costs e (tasks_held s)
    (rightful-known s.machine s.costs s.tasks.count s.tasks.list faultless) right)

pub edit-or-stuck : (e : TaskEdit) (s : Plan) → state_fault s.machine s.costs s.tasks.count s.tasks.list ≡ 0
    → edit_fault e (tasks_held s) ≡ 0 → ((edit_of e s).number ≡ 0)
    ⊎ ((k : ℕ) × (walked s.machine s.costs (edited by_name e (tasks_held s)) ≡ stuck k 7) × (edit_of e s ≡ given_back s 7 (suc k)))
edit-or-stuck e s faultless right =
    subst (Ends s (edited by_name e (tasks_held s))) (sym (edit-goes e s faultless right))
    (replanned-ends s (edited by_name e (tasks_held s)) (edit-faultless e s faultless right))

-- ---- any sequence of edits

pub after-edits : (es : List TaskEdit) (s : Plan) → Afresh s → Afresh (played es s) × ((played es s).machine ≡ s.machine) × ((played es s).costs ≡ s.costs)
after-edits [] s held = (held, refl, refl)
after-edits (e ∷ es) s held =
    let next = after-edits es (edit_of e s).plan ((edit-keeps e s).2 held) in
    (next.0, next.1 ∙ (edit-same e s).0, next.2 ∙ (edit-same e s).1)

pub after-edits-afresh : (es : List TaskEdit) (s : Plan) → Afresh s
    → plan_of s.machine s.costs (played es s).tasks.count (played es s).tasks.list ≡ accepted (played es s)
unfolding Afresh
after-edits-afresh es s held =
    let now = after-edits es s held in
    let n = (played es s).tasks.count in
    let ts = (played es s).tasks.list in
    ap (λ (m : Machine). plan_of m s.costs n ts) (sym now.1) ∙ (ap (λ (c : Costs). plan_of (played es s).machine c n ts) (sym now.2) ∙ now.0)

-- ---- what an accepted edit keeps

pub same-stand : (m : Machine) (c : Costs) (p p' : List Task) (s s' : Stand) (l l' : List (Placed Task)) → walk_over (task_way m c) p
    ≡ fine s l → walk_over (task_way m c) p' ≡ fine s' l' → s.core ≡ s'.core → s.row ≡ s'.row → Meet (task_way m c) p p'
same-stand m c = stands-meet c m.grain m.cores whole_of

module _ (e : TaskEdit) (s : Plan) (held : Afresh s) (taken : (edit_of e s).number ≡ 0) where
  was : Told s
  was = held-told s held

  is : Told (edit_of e s).plan
  is = held-told (edit_of e s).plan (edit-afresh e s taken)

  around : Around by_name (edited_name e) (tasks_held s) (tasks_held (edit_of e s).plan)
  around = subst (Around by_name (edited_name e) (tasks_held s)) (sym (edit-does e s taken)) (edit-around by_name name-exact e (tasks_held s))

  -- the walk after the edit, on the machine and at the costs of before
  walks : walk_of (task_way s.machine s.costs) (tasks_held (edit_of e s).plan) ≡ fine is.stand is.log
  walks =
      let tasks = tasks_held (edit_of e s).plan in
      ap (λ (m : Machine). walk_of (task_way m s.costs) tasks) (sym (edit-same e s).0)
      ∙ (ap (λ (c : Costs). walk_of (task_way (edit_of e s).plan.machine c) tasks) (sym (edit-same e s).1) ∙ is.walks)

  pub edit-before : (b : Name) → Ahead (edited_name e) b (tasks_held s) → Ahead (edited_name e) b (tasks_held (edit_of e s).plan) → Keeps s (edit_of e s).plan b
  unfolding Keeps
  edit-before b old new q low =
      was.shows b q low
      ∙ (kept-before (task_way s.machine s.costs) Timed (denser-lawful whole_of) by_name name-exact around was.sorts is.sorts
      was.walks walks b (subst (Before by_name (edited_name e) b) (in-order (tasks_held s)) old.ahead)
      (subst (Before by_name (edited_name e) b) (in-order (tasks_held (edit_of e s).plan)) new.ahead) q
      ∙ sym (is.shows b q low))

  pub edit-after : {p r p' r' : List Task} {b b' : Task} → Behind by_name (edited_name e) (in_order (tasks_held s)) p b r
      → Behind by_name (edited_name e) (in_order (tasks_held (edit_of e s).plan)) p' b' r' → b.name ≡ b'.name
      → Meet (task_way s.machine s.costs) p p' →
      (d : Name) → Among by_name d (b ∷ r) → Keeps s (edit_of e s).plan d
  unfolding Keeps
  edit-after {p} {r} {p'} {r'} {b} {b'} old new same meet d among q low =
      let before = subst (λ (l : List Task). Behind by_name (edited_name e) l p b r) (in-order (tasks_held s)) old in
      let after = subst (λ (l : List Task). Behind by_name (edited_name e) l p' b' r') (in-order (tasks_held (edit_of e s).plan)) new in
      was.shows d q low
      ∙ (kept-after (task_way s.machine s.costs) Timed (denser-lawful whole_of) by_name name-exact around was.sorts is.sorts
      was.walks walks before after same meet d among q
      ∙ sym (is.shows d q low))
