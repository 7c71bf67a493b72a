-- What an edit relies on, and demand 3 for every held plan: one whose rows and words are the walk's, whatever lies past its counts.
-- Assumes nothing.
--
--   edit-relies            an edit relies on the state's machine, costs and task list alone: two states equal in these get equal answers, and equal plans where accepted
--   afresh-held            a plan worked out afresh is a held plan
--   edit-held              an accepted edit yields a held plan, whatever the state's rows and words were
--   after-held             after any sequence of edits, refusals among them, a held plan is held, of the same machine and costs
--   held-before, held_after      what an accepted edit of a held plan keeps
use mathlib.Core.Path.{◌≡◌, refl, sym, ap, ◌∙◌, subst}
use mathlib.Core.Bool.{Bool, true, false, cond}
use mathlib.Core.Logic.{inl, inr}
use mathlib.Core.List.{List, [], ◌∷◌, map}
use Prim.Native.Nat.{ℕ, zero, suc, ◌<◌}
use native.Mathlib.Omega.{arith}
use borrow.Author.Tests.{eqb-false}
use lib.Dec.{eqb, leb}
use lib.ListN.{length, get_or}
use Rattle.demand.specs.declared.Costs.{Costs}
use Rattle.demand.specs.Sizes.{sized_costs}
use Rattle.task.specs.declared.Name.{Name}
use Rattle.task.specs.declared.Task.{Task}
use Rattle.task.specs.declared.Machine.{Machine}
use Rattle.task.specs.Names.{same_name}
use Rattle.task.specs.Tasks.{cores_most, tasks_most, rule, sized_machine, first_fault, state_fault, task_at}
use Rattle.walks.specs.Lists.{only}
use Rattle.walks.specs.Edits.{edited}
use Rattle.walks.specs.Kept.{Among, Behind, Meet}
use Rattle.plan.specs.declared.Plan.{Plan}
use Rattle.plan.specs.Reply.{Reply}
use Rattle.plan.specs.Walk.{task_way}
use Rattle.plan.specs.Layout.{kept_piece}
use Rattle.plan.specs.Plan.{plan_of}
use Rattle.plan.proofs.Theorems.{plan-faultless}
use Rattle.edits.specs.Edits.{by_name, TaskEdit, tasks_held, edit_fault, back_at, settled, edit_of, SameAnswer, afresh, Afresh, row_in, Held, played}
use Rattle.edits.specs.Kept.{in_order, pieces_on, Keeps, edited_name, Ahead}
use Rattle.edits.proofs.AnswerLaws.{Made, Answered, plan-is, edit-answered}
use Rattle.edits.proofs.Theorems.{edit-before, edit-after, edit-same}
use Rattle.edits.proofs.HeldMeaning.{LikeAfresh, held-exact}

-- ---- what an edit relies on

answered-by : (f e : ℕ) (r : Reply) (s t : Plan) → SameAnswer (back_at f s (back_at e s (settled s r))) (back_at f t (back_at e t (settled t r)))
answered-by (suc f) e r s t = record { number = refl; carries = refl; plan = λ z. absurd (omega arith) }
answered-by zero (suc e) r s t = record { number = refl; carries = refl; plan = λ z. absurd (omega arith) }
answered-by zero zero r s t = by (eqb r.number 0) refl
  where
    back : Plan → Reply
    back s = record { number = r.number; carries = r.carries; plan = s }

    by : (o : Bool) → eqb r.number 0 ≡ o → SameAnswer (cond o r (back s)) (cond o r (back t))
    by true is = record { number = refl; carries = refl; plan = λ z. refl }
    by false is = record { number = refl; carries = refl; plan = λ z. absurd (eqb-false r.number 0 is z) }

module _ (e : TaskEdit) (s t : Plan) (machine : s.machine ≡ t.machine) (costs : s.costs ≡ t.costs) (tasks : tasks_held s ≡ tasks_held t) where
  -- what an edit that leaves the tasks ts is answered, on the machine m and at the costs c, for a state with the fault f
  answer : ℕ → Machine → Costs → List Task → Plan → Reply
  answer f m c held u =
      back_at f u (back_at (edit_fault e held) u (settled u (plan_of m c (length (edited by_name e held)) (edited by_name e held))))

  relies-on : state_fault s.machine s.costs s.tasks.count s.tasks.list ≡ state_fault t.machine t.costs t.tasks.count t.tasks.list
      → SameAnswer (edit_of e s) (edit_of e t)
  unfolding edit_of answer
  relies-on faults =
      let f = state_fault s.machine s.costs s.tasks.count s.tasks.list in
      let same : answer f s.machine s.costs (tasks_held s) t ≡ edit_of e t = λ i. answer (faults i) (machine i) (costs i) (tasks i) t in
      let new = edited by_name e (tasks_held s) in
      subst (SameAnswer (edit_of e s)) same (answered-by f (edit_fault e (tasks_held s)) (plan_of s.machine s.costs (length new) new) s t)

  pub edit-relies : s.tasks.count ≡ t.tasks.count → SameAnswer (edit_of e s) (edit_of e t)
  unfolding state_fault
  edit-relies count =
      relies-on (λ i. rule (sized_machine (machine i)) 1 (rule (sized_costs (costs i)) 2 (rule (leb (count i) tasks_most) 6 (first_fault [] (tasks i)))))

-- ---- held plans

pub afresh-held : (s : Plan) → Afresh s → Held s
unfolding Afresh
afresh-held s is = (held-exact s).1 (record {
  comes = ap (λ (r : Reply). r.number) is;
  rows = λ q low. ap (λ (r : Reply). row_in r.plan q) (sym is);
  words = λ q low. ap (λ (r : Reply). get_or r.plan.layout.words q 0) (sym is);
})

pub edit-held : (e : TaskEdit) (s : Plan) → (edit_of e s).number ≡ 0 → Held (edit_of e s).plan
edit-held e s taken = by (edit-answered e s)
  where
    by : Answered s (edited by_name e (tasks_held s)) (edit_of e s) → Held (edit_of e s).plan
    by (inl r) = afresh-held (edit_of e s).plan r.1.held
    by (inr r) = absurd (r.0 taken)

pub after-held : (es : List TaskEdit) (s : Plan) → Held s → Held (played es s) × ((played es s).machine ≡ s.machine) × ((played es s).costs ≡ s.costs)
after-held [] s held = (held, refl, refl)
after-held (e ∷ es) s held =
    let next = after-held es (edit_of e s).plan (by (edit-answered e s)) in
    (next.0, next.1 ∙ (edit-same e s).0, next.2 ∙ (edit-same e s).1)
  where
    by : Answered s (edited by_name e (tasks_held s)) (edit_of e s) → Held (edit_of e s).plan
    by (inl r) = afresh-held (edit_of e s).plan r.1.held
    by (inr r) = subst Held (sym r.1) held

-- ---- what an accepted edit of a held plan keeps: the plan worked out afresh keeps it, and shows the same

module _ (s : Plan) (held : Held s) where
  like : LikeAfresh s
  like = (held-exact s).0 held

  faultless : state_fault s.machine s.costs s.tasks.count s.tasks.list ≡ 0
  faultless = plan-faultless s.machine s.costs s.tasks.count s.tasks.list like.comes

  made : Made s.machine s.costs (tasks_held s) (afresh s).plan
  made = plan-is s.machine s.costs s.tasks.count s.tasks.list like.comes

  -- what the state shows is what the plan worked out afresh does
  shows : (b : Name) (q : ℕ) → q < cores_most → pieces_on s b q ≡ pieces_on (afresh s).plan b q
  unfolding pieces_on
  shows b q low = λ i. map kept_piece (only (λ x. same_name b (task_at (sym made.tasks-are i) x.task).name) (like.rows q low i))

  afresh-faultless : (u : Plan) → Afresh u → state_fault u.machine u.costs u.tasks.count u.tasks.list ≡ 0
  unfolding Afresh
  afresh-faultless u is = plan-faultless u.machine u.costs u.tasks.count u.tasks.list (ap (λ (r : Reply). r.number) is)

  module _ (e : TaskEdit) (taken : (edit_of e s).number ≡ 0) where
    alike : SameAnswer (edit_of e (afresh s).plan) (edit_of e s)
    alike =
        relies-on e (afresh s).plan s made.machine-is made.costs-is made.tasks-are
        (afresh-faultless (afresh s).plan made.held ∙ sym faultless)

    accepted-too : (edit_of e (afresh s).plan).number ≡ 0
    accepted-too = alike.number ∙ taken

    same-plan : (edit_of e (afresh s).plan).plan ≡ (edit_of e s).plan
    same-plan = alike.plan accepted-too

    pub held-before : (b : Name) → Ahead (edited_name e) b (tasks_held s) → Ahead (edited_name e) b (tasks_held (edit_of e s).plan) → Keeps s (edit_of e s).plan b
    unfolding Keeps
    held-before b old new q low =
        let kept = edit-before e (afresh s).plan made.held accepted-too b (subst (Ahead (edited_name e) b) (sym made.tasks-are) old)
        (subst (λ (u : Plan). Ahead (edited_name e) b (tasks_held u)) (sym same-plan) new) q low in
        shows b q low ∙ (kept ∙ ap (λ (u : Plan). pieces_on u b q) same-plan)

    pub held_after : {p r p' r' : List Task} {b b' : Task} → Behind by_name (edited_name e) (in_order (tasks_held s)) p b r
        → Behind by_name (edited_name e) (in_order (tasks_held (edit_of e s).plan)) p' b' r' → b.name ≡ b'.name
        → Meet (task_way s.machine s.costs) p p' → (d : Name) → Among by_name d (b ∷ r) → Keeps s (edit_of e s).plan d
    unfolding Keeps
    held_after {p} {r} {p'} {r'} {b} {b'} old new names meet d among q low =
        let before = subst (λ (l : List Task). Behind by_name (edited_name e) (in_order l) p b r) (sym made.tasks-are) old in
        let after = subst (λ (u : Plan). Behind by_name (edited_name e) (in_order (tasks_held u)) p' b' r') (sym same-plan) new in
        let meets = subst (λ (c : Costs). Meet (task_way (afresh s).plan.machine c) p p') (sym made.costs-is)
        (subst (λ (m : Machine). Meet (task_way m s.costs) p p') (sym made.machine-is) meet) in
        let kept = edit-after e (afresh s).plan made.held accepted-too before after names meets d among q low in
        shows d q low ∙ (kept ∙ ap (λ (u : Plan). pieces_on u d q) same-plan)
