-- An edit is refused exactly as its table says.
-- Assumes nothing.
--
--   own-comes                     an edit's own fault is what its own rules say
--   edit-comes                    the answer comes to what the table says
--   edit-refused-exactly, edit-accepted     so a refusal comes exactly where the table gives it, and the edit is accepted exactly where the table is kept
use mathlib.Core.Path.{◌≡◌, refl, subst}
use mathlib.Core.Bool.{Bool, true, false, cond, not}
use mathlib.Core.Logic.{◌↔◌}
use mathlib.Core.List.{List, ◌++◌}
use Prim.Native.Nat.{ℕ, zero, suc}
use lib.Dec.{eqb, ltb}
use lib.ListN.{length}
use lib.Seq.{take-length}
use Rattle.demand.specs.Sizes.{sized}
use Rattle.demand.specs.Tables.{Rule, Not, Gives, Kept}
use Rattle.demand.proofs.RefusalLaws.{sized-breaks}
use Rattle.demand.proofs.TableLaws.{Comes, none, comes-kept, comes-refused, comes-front, comes-behind}
use Rattle.demand.proofs.TableLaws.{Breaks, breaks-negated, breaks-twice, breaks-ltb}
use Rattle.task.specs.declared.Name.{Name}
use Rattle.task.specs.declared.Task.{Task}
use Rattle.task.specs.Names.{formed}
use Rattle.task.specs.Tasks.{tasks_most, whole_piece, place_of, state_fault}
use Rattle.task.specs.Refusals.{TaskNamed}
use Rattle.task.proofs.RefusalLaws.{comes-rule, form-breaks, place-breaks, state-comes}
use Rattle.walks.specs.Edits.{add, withdraw, retime, edited}
use Rattle.plan.specs.declared.Plan.{Plan}
use Rattle.plan.specs.Reply.{Reply}
use Rattle.plan.specs.Plan.{plan_of}
use Rattle.plan.specs.Refusals.{walk_table}
use Rattle.plan.proofs.RefusalLaws.{walk-comes}
use Rattle.edits.specs.Edits.{by_name, TaskEdit, tasks_held, named, edit_fault, given_back, back_at, settled, replanned, edit_of}
use Rattle.edits.specs.Refusals.{own_table, edit_table}
use Rattle.edits.proofs.Theorems.{edit-faultless}

-- ---- the edit's own rules

free-breaks : (n : Name) (ts : List Task) → Breaks (TaskNamed n ts) (not (named n ts))
free-breaks n ts = breaks-twice (eqb (place_of 1 n ts) 0) (place-breaks (λ (t : Task). t.name) n ts)

known-breaks : (n : Name) (ts : List Task) → Breaks (Not (TaskNamed n ts)) (named n ts)
known-breaks n ts = breaks-negated (eqb (place_of 1 n ts) 0) (place-breaks (λ (t : Task). t.name) n ts)

pub own-comes : (e : TaskEdit) (ts : List Task) → Comes (own_table e ts) (edit_fault e ts) 0
unfolding own_table edit_fault
own-comes (add t) ts =
    comes-rule (formed t.name) (form-breaks t.name) 7
    (comes-rule (sized (whole_piece t.times)) (sized-breaks (whole_piece t.times)) 2
    (comes-rule (not (named t.name ts)) (free-breaks t.name ts) 3
    (comes-rule (ltb (length ts) tasks_most) (breaks-ltb (length ts) tasks_most) 5
    none)))
own-comes (withdraw n) ts =
    comes-rule (formed n) (form-breaks n) 7
    (comes-rule (named n ts) (known-breaks n ts) 4
    none)
own-comes (retime t) ts =
    comes-rule (formed t.name) (form-breaks t.name) 7
    (comes-rule (sized (whole_piece t.times)) (sized-breaks (whole_piece t.times)) 2
    (comes-rule (named t.name ts) (known-breaks t.name ts) 4
    none))

-- ---- the answer

-- a fault gives the state back; else the rest is looked at
back-comes : {rules more : List Rule} (s : Plan) (r : Reply) (n : ℕ) → Comes rules n 0 → (n ≡ 0 → Comes more r.number r.carries)
    → Comes (rules ++ more) (back_at n s r).number (back_at n s r).carries
back-comes {rules} {more} s r zero comes rest = comes-behind rules ((comes-kept comes).0 refl) (rest refl)
back-comes {rules} {more} s r (suc n) comes rest = comes-front comes more

settled-comes : (rules : List Rule) (s : Plan) (r : Reply) → Comes rules r.number r.carries → Comes rules (settled s r).number (settled s r).carries
settled-comes rules s r comes = by (eqb r.number 0)
  where
    by : (b : Bool) → Comes rules (cond b r (given_back s r.number r.carries)).number (cond b r (given_back s r.number r.carries)).carries
    by true = comes
    by false = comes

replanned-comes : (s : Plan) (ts : List Task) → state_fault s.machine s.costs (length ts) ts ≡ 0
    → Comes (walk_table s.machine s.costs ts) (replanned s ts).number (replanned s ts).carries
replanned-comes s ts faultless =
    let r = plan_of s.machine s.costs (length ts) ts in
    settled-comes (walk_table s.machine s.costs ts) s r
    (subst (λ (z : List Task). Comes (walk_table s.machine s.costs z) r.number r.carries) (take-length ts)
    (walk-comes s.machine s.costs (length ts) ts faultless))

module _ (e : TaskEdit) (s : Plan) where
  pub edit-comes : Comes (edit_table e s) (edit_of e s).number (edit_of e s).carries
  unfolding edit_table edit_of
  edit-comes =
      let held = tasks_held s in
      let after = edited by_name e held in
      let state = state_fault s.machine s.costs s.tasks.count s.tasks.list in
      back-comes s (back_at (edit_fault e held) s (replanned s after)) state (state-comes s.machine s.costs s.tasks.count s.tasks.list)
      (λ sound. back-comes s (replanned s after) (edit_fault e held) (own-comes e held) (λ right. replanned-comes s after (edit-faultless e s sound right)))

  pub edit-refused-exactly : (n k : ℕ) → (((edit_of e s).number ≡ suc n) × ((edit_of e s).carries ≡ k)) ↔ Gives (edit_table e s) (suc n) k
  edit-refused-exactly = comes-refused edit-comes

  pub edit-accepted : ((edit_of e s).number ≡ 0) ↔ Kept (edit_table e s)
  edit-accepted = comes-kept edit-comes
