-- `split_search::greatest_split` meets its contract: what the search over charged pieces chooses is the split of the pieces.
use mathlib.Core.Path.{sym, subst, ◌∙◌}
use mathlib.Core.List.{List}
use Rattle.demand.specs.declared.Charged.{Charged}
use Rattle.demand.specs.Records.{pieces_in}
use Rattle.demand.specs.Ways.ChargedSplit.{Chosen}
use Rattle.demand.proofs.ChargedSplitLaws.{splits_of}
use Rattle.demand.proofs.SplitLaws.{split-exact, split-none}
use Rattle.splits.proofs.split_search.greatest_split.Goals as goal

pub returns-then-grain-eq0 : goal.returns-then-grain-eq0
returns-then-grain-eq0 c =
    let s = c.args in
    rw c.if-grain-eq0.true (sym (split-none s.given.costs (pieces_in s.records.now) s.given.task))

pub returns : goal.returns
returns c =
    let s = c.args in
    let g = s.given in
    let ps = pieces_in s.records.now in
    let same = c.start_of-top.ensures.1 ∙ (c.least_sum-least.ensures.2 ∙ c.laid-bench.ensures) in
    let chosen = subst (λ (qs : List Charged). Chosen g.costs s.grain qs g.task c.search.result) same c.search.ensures in
    sym ((split-exact g.costs s.grain ps g.task c.search.result).1 (splits_of g.costs ps g.task s.grain c.search.result chosen))
