-- `SizedTask::first` meets its contract: nothing is outside its range.
use mathlib.Core.Path.{◌≡◌, ◌∙◌}
use Rattle.demand.specs.Charge.{charged}
use Rattle.demand.specs.Split.{first_piece}
use Rattle.demand.proofs.ChargeLaws.{charged-within, charged-ranged}
use Rattle.demand.proofs.ChargedSplitLaws.{first-countable}
use Rattle.splits.proofs.sized_task.SizedTask.first.Goals as goal

pub returns : goal.returns
returns c =
    let s = c.args in
    let p = s.self.task in
    let q = first_piece p s.x s.w in
    let ok = first-countable p s.x s.w s.self.sized c.requires.0 c.requires.1 in
    let is : c.charged_piece.result ≡ charged s.self.costs q = rw c.first_piece.ensures.exact at c.charged_piece.ensures.exact ∙ charged-within s.self.costs q s.self.costs_sized ok in
    record { exact = is; ranged = rw is (charged-ranged s.self.costs s.self.costs_sized q ok) }
