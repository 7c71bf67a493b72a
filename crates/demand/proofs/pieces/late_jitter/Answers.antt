-- `pieces::late_jitter` meets its contract: the test tells which.
use mathlib.Core.Path.{sym, subst, ◌∙◌}
use borrow.Author.Tests.{not-true, not-false}
use Rattle.demand.specs.Sizes.{SizedCosts, Tells}
use Rattle.demand.proofs.ChargeLaws.{late-jitter-none}
use Rattle.demand.proofs.SizeLaws.{sized-costs-is}
use Rattle.demand.proofs.pieces.late_jitter.Goals as goal

pub returns-then-not-sized_costs : goal.returns-then-not-sized_costs
returns-then-not-sized_costs c =
    let t = c.sized_costs in
    let costs = c.args.costs in
    sym (late-jitter-none costs (sym (sized-costs-is costs t.result t.ensures) ∙ not-true t.result c.if-not-sized_costs.true-raw))

pub late_within-requires : goal.late_within-requires
late_within-requires c =
    let t = c.sized_costs in
    subst (Tells (SizedCosts c.args.costs)) (not-false t.result c.if-not-sized_costs.false-raw) t.ensures
