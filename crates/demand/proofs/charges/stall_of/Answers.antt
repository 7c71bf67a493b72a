-- `charges::stall_of` meets its contract: the test tells which.
use mathlib.Core.Path.{sym, subst, ◌∙◌}
use borrow.Author.Tests.{not-true, not-false}
use Rattle.demand.specs.Sizes.{SizedCosts, Tells}
use Rattle.demand.proofs.ChargeLaws.{stall-within, stall-no-costs}
use Rattle.demand.proofs.SizeLaws.{sized-costs-is}
use Rattle.demand.proofs.charges.stall_of.Goals as goal

pub returns-then-not-sized_costs : goal.returns-then-not-sized_costs
returns-then-not-sized_costs c = record {
  exact =
      let t = c.sized_costs in
      let costs = c.args.costs in
      sym (stall-no-costs costs (sym (sized-costs-is costs t.result t.ensures) ∙ not-true t.result c.if-not-sized_costs.true-raw));
}

pub stall_within-requires : goal.stall_within-requires
stall_within-requires c =
    let t = c.sized_costs in
    subst (Tells (SizedCosts c.args.costs)) (not-false t.result c.if-not-sized_costs.false-raw) t.ensures

pub returns : goal.returns
returns c = record {
  exact =
      let t = c.sized_costs in
      let costs = c.args.costs in
      c.stall_within.ensures ∙ sym (stall-within costs (subst (Tells (SizedCosts costs)) (not-false t.result c.if-not-sized_costs.false-raw) t.ensures));
}
