-- `split_search::tight_first` meets its contract: the tight window of the piece behind, up to one less than the task's window.
use mathlib.Core.Path.{◌∙◌}
use Rattle.demand.proofs.ChargedSplitLaws.{tight-in}
use Rattle.splits.proofs.BenchLaws.{first-behind}
use Rattle.splits.proofs.split_search.tight_first.Goals as goal

pub returns : goal.returns
returns c =
    let s = c.args in
    let g = s.given in
    let laid = c.both.ensures.exact ∙ first-behind g.costs s.bench.now.core g.task s.x _ c.put.new.self c.put.ensures.core (c.put.ensures.tried ∙ c.first.ensures.exact) in
    let found = c.tight_window.ensures.within c.stall.ensures.within in
    (tight-in g.costs s.bench.now.core g.task s.x c.both.result laid c.tight_window.result (rw c.stall.ensures.exact at found), c.put.ensures.core)
