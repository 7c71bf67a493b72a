-- `charged_time` meets its contract: each return is the definition's with the tests before it decided.
use mathlib.Core.Path.{sym, ◌∙◌, subst}
use mathlib.Core.Bool.{true, false}
use borrow.Author.Tests.{not-true, not-false}
use Rattle.demand.specs.Sizes.{SizedCosts, Sized, Tells}
use Rattle.demand.proofs.ChargeLaws.{sized-countable, charged-tells, charged-costs}
use Rattle.demand.proofs.charges.charged_time.Goals as goal

pub returns-then-not-sized_costs : goal.returns-then-not-sized_costs
returns-then-not-sized_costs c = record {
  exact =
      let s = c.args in
      let t = c.sized_costs in
      let no : Tells (SizedCosts s.costs) false = subst (Tells (SizedCosts s.costs)) (not-true t.result c.if-not-sized_costs.true-raw) t.ensures in
      sym (charged-costs s.costs s.piece no);
}

pub returns-then-not-sized_piece : goal.returns-then-not-sized_piece
returns-then-not-sized_piece c = record {
  exact =
      let s = c.args in
      let t = c.sized_costs in
      let u = c.sized_piece in
      let yes' : Tells (SizedCosts s.costs) true = subst (Tells (SizedCosts s.costs)) (not-false t.result c.if-not-sized_costs.false-raw) t.ensures in
      let no : Tells (Sized s.piece) false = subst (Tells (Sized s.piece)) (not-true u.result c.if-not-sized_piece.true-raw) u.ensures in
      sym (charged-tells s.costs s.piece true false yes' no);
}

pub charge_of-requires : goal.charge_of-requires
charge_of-requires c =
    let s = c.args in
    let t = c.sized_costs in
    let u = c.sized_piece in
    let costs : Tells (SizedCosts s.costs) true =
    subst (Tells (SizedCosts s.costs)) (not-false t.result c.if-not-sized_costs.false-raw) t.ensures in
    let size : Tells (Sized s.piece) true = subst (Tells (Sized s.piece)) (not-false u.result c.if-not-sized_piece.false-raw) u.ensures in
    record { sized_costs = costs; countable = sized-countable s.piece size }

pub returns : goal.returns
returns c = record {
  exact =
      let s = c.args in
      let t = c.sized_costs in
      let u = c.sized_piece in
      let costs : Tells (SizedCosts s.costs) true =
      subst (Tells (SizedCosts s.costs)) (not-false t.result c.if-not-sized_costs.false-raw) t.ensures in
      let size : Tells (Sized s.piece) true = subst (Tells (Sized s.piece)) (not-false u.result c.if-not-sized_piece.false-raw) u.ensures in
      c.charge_of.ensures.0 ∙ sym (charged-tells s.costs s.piece true true costs size);
}
