-- `SizedTask::last` meets its contract: nothing is outside its range.
use mathlib.Core.Path.{◌≡◌, ap, ◌∙◌}
use mathlib.Core.List.{[], ◌∷◌}
use Rattle.demand.specs.declared.Charged.{Charged}
use Rattle.demand.specs.Charge.{charged}
use Rattle.demand.specs.Split.{last_piece}
use Rattle.demand.specs.Ways.ChargedSplit.{last_alone}
use Rattle.demand.proofs.ChargeLaws.{charged-within, charged-ranged}
use Rattle.demand.proofs.ChargedSplitLaws.{last-countable}
use Rattle.splits.proofs.sized_task.SizedTask.last.Goals as goal

pub returns : goal.returns
unfolding last_alone
returns c =
    let s = c.args in
    let t = s.self in
    let q = last_piece t.costs t.task s.x s.w in
    let ok = last-countable t.costs t.task s.x s.w t.costs_sized t.sized in
    let is : c.charged_piece.result ≡ charged t.costs q = rw c.last_piece.ensures.exact at c.charged_piece.ensures.exact ∙ charged-within t.costs q t.costs_sized ok in
    record { exact = ap (λ (r : Charged). r ∷ []) is; ranged = rw is (charged-ranged t.costs t.costs_sized q ok) }
