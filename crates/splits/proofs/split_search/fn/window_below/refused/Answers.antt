-- The closure `refused` of `split_search::window_below` meets its contract: a climb that finds nothing shows that no length up to the top holds the budget.
use mathlib.Core.Path.{sym, ◌∙◌}
use Rattle.splits.proofs.MonotoneSearchLaws.{climbed-none, shows-none}
use Rattle.splits.proofs.split_search.fn.window_below.refused.Goals as goal

pub returns : goal.returns
returns c =
    let found = c.wait.ensures.within c.requires.0 c.requires.1 in
    shows-none _ c.wait.result c.is_none.result c.is_none.ensures (λ none. climbed-none _ _ _ c.args.m (sym none ∙ found))
