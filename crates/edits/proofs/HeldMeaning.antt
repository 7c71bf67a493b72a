-- A held plan by what the plan worked out afresh shows: the form that proofs about edits go by, where `Held` says it of the walk.
-- Assumes nothing.
--
--   LikeAfresh s       a plan comes of the state's machine, costs and task list, and the state's rows and words are those of that plan
--   held-exact         exactly the held plans are so
use mathlib.Core.Path.{◌≡◌, sym, ◌∙◌, subst}
use mathlib.Core.Logic.{◌↔◌}
use Prim.Native.Nat.{ℕ, ◌≤◌, ◌<◌}
use lib.ListN.{length, get_or}
use Rattle.task.specs.Tasks.{cores_most, state_fault}
use Rattle.task.proofs.RefusalLaws.{state-kept}
use Rattle.walks.specs.Way.{on_core}
use Rattle.plan.specs.declared.Plan.{Plan}
use Rattle.plan.specs.Places.{of_task}
use Rattle.plan.specs.Shows.{bit_of}
use Rattle.plan.proofs.WordLaws.{words-alike}
use Rattle.plan.proofs.Theorems.{plan-faultless, plan-comes, plan-shows, words-show}
use Rattle.edits.specs.Edits.{afresh, row_in, Held}

pub record LikeAfresh (s : Plan) : Type 0 where
  pub comes : (afresh s).number ≡ 0
  pub rows : (q : ℕ) → q < cores_most → row_in s q ≡ row_in (afresh s).plan q
  pub words : (q : ℕ) → q < cores_most → get_or s.layout.words q 0 ≡ get_or (afresh s).plan.layout.words q 0

module _ (s : Plan) where
  faultless : Held s → state_fault s.machine s.costs s.tasks.count s.tasks.list ≡ 0
  faultless held = (state-kept s.machine s.costs s.tasks.count s.tasks.list).1 held.sane

  held-like : Held s → LikeAfresh s
  held-like held =
      let m = s.machine in
      let c = s.costs in
      let n = s.tasks.count in
      let ts = s.tasks.list in
      let good = faultless held in
      let t = held.stand in
      let l = held.log in
      let walks = held.walks in
      record {
        comes = (plan-comes m c n ts good).1 (t, l, walks);
        rows = λ q low. held.rows q low ∙ sym ((plan-shows m c n ts good t l walks).numbers q low);
        words = λ q low. words-alike (get_or s.layout.words q 0) (get_or (afresh s).plan.layout.words q 0)
            (λ k. (let shown = (words-show m c n ts good t l walks q low).set k in
            ((λ on. shown.1 ((held.words q k low).0 on)), (λ on. (held.words q k low).1 (shown.0 on)))));
      }

  like-held : LikeAfresh s → Held s
  like-held like =
      let m = s.machine in
      let c = s.costs in
      let n = s.tasks.count in
      let ts = s.tasks.list in
      let good = plan-faultless m c n ts like.comes in
      let come = (plan-comes m c n ts good).0 like.comes in
      let t = come.0 in
      let l = come.1 in
      let walks = come.2 in
      record {
        sane = (state-kept m c n ts).0 good;
        stand = t;
        log = l;
        walks = walks;
        rows = λ q low. like.rows q low ∙ (plan-shows m c n ts good t l walks).numbers q low;
        words = λ q k low. subst (λ (w : ℕ). (bit_of w k ≡ 1) ↔ (1 ≤ length (of_task k (on_core q l)))) (sym (like.words q low))
            ((words-show m c n ts good t l walks q low).set k);
      }

  pub held-exact : Held s ↔ LikeAfresh s
  held-exact = (held-like, like-held)
