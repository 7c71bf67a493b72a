-- `charges::charged_piece` meets its contract: the two tests tell which.
use mathlib.Core.Path.{sym, subst, ◌∙◌}
use borrow.Author.Tests.{not-true, not-false}
use Rattle.demand.specs.Sizes.{SizedCosts, Tells}
use Rattle.demand.specs.Ways.Ranges.{Countable}
use Rattle.demand.proofs.ChargeLaws.{charged-within, charged-no-costs, charged-no-piece}
use Rattle.demand.proofs.SizeLaws.{sized-costs-is, countable-is}
use Rattle.demand.proofs.charges.charged_piece.Goals as goal

pub returns-then-not-sized_costs : goal.returns-then-not-sized_costs
returns-then-not-sized_costs c = record {
  exact =
      let s = c.args in
      let t = c.sized_costs in
      let bad = sym (sized-costs-is s.costs t.result t.ensures) ∙ not-true t.result c.if-not-sized_costs.true-raw in
      c.no_charge.ensures.exact ∙ sym (charged-no-costs s.costs s.piece bad);
}

pub returns-then-not-countable_piece : goal.returns-then-not-countable_piece
returns-then-not-countable_piece c = record {
  exact =
      let s = c.args in
      let u = c.countable_piece in
      let bad = sym (countable-is s.piece u.result u.ensures) ∙ not-true u.result c.if-not-countable_piece.true-raw in
      c.no_charge-then-not-countable_piece.ensures.exact ∙ sym (charged-no-piece s.costs s.piece bad);
}

pub charged_of-requires : goal.charged_of-requires
charged_of-requires c =
    let s = c.args in
    let t = c.sized_costs in
    let u = c.countable_piece in
    record {
      sized_costs = subst (Tells (SizedCosts s.costs)) (not-false t.result c.if-not-sized_costs.false-raw) t.ensures;
      countable = subst (Tells (Countable s.piece)) (not-false u.result c.if-not-countable_piece.false-raw) u.ensures;
    }

pub returns : goal.returns
returns c = record {
  exact =
      let s = c.args in
      let t = c.sized_costs in
      let u = c.countable_piece in
      let costs = subst (Tells (SizedCosts s.costs)) (not-false t.result c.if-not-sized_costs.false-raw) t.ensures in
      let ok = subst (Tells (Countable s.piece)) (not-false u.result c.if-not-countable_piece.false-raw) u.ensures in
      c.charged_of.ensures ∙ sym (charged-within s.costs s.piece costs ok);
}
