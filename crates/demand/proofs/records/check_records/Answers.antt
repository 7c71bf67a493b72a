-- `records::check_records` meets its contract: the refusals in their order.
use mathlib.Core.Path.{sym, ap, ◌∙◌}
use mathlib.Core.List.{List}
use Rattle.demand.specs.declared.Piece.{Piece}
use lib.ListN.{length}
use Rattle.demand.specs.Answer.{bad_record, first_bad}
use Rattle.demand.specs.Records.{pieces_in}
use Rattle.demand.proofs.RecordLaws.{pieces-all}
use Rattle.demand.proofs.RunLaws.{check-many, check-costs, check-records}
use Rattle.demand.proofs.SizeLaws.{sized-costs-is}
use Rattle.demand.proofs.records.check_records.Goals as goal

pub returns-then-records-gt-RUN_MOST : goal.returns-then-records-gt-RUN_MOST
returns-then-records-gt-RUN_MOST c = record {
  exact =
      let rs = c.args.records.now in
      sym (check-many c.args.costs (length rs) (pieces_in rs) c.if-records-gt-RUN_MOST.true);
}

pub returns-then-not-sized_costs : goal.returns-then-not-sized_costs
returns-then-not-sized_costs c = record {
  exact =
      let rs = c.args.records.now in
      let bad = sym (sized-costs-is c.args.costs c.sized_costs.result c.sized_costs.ensures) ∙ c.if-not-sized_costs.true in
      sym (check-costs c.args.costs (length rs) (pieces_in rs) c.if-records-gt-RUN_MOST.false bad);
}

pub returns : goal.returns
returns c = record {
  exact =
      let rs = c.args.records.now in
      let good = sym (sized-costs-is c.args.costs c.sized_costs.result c.sized_costs.ensures) ∙ c.if-not-sized_costs.false in
      c.check_each.ensures ∙ sym (check-records c.args.costs (length rs) (pieces_in rs) c.if-records-gt-RUN_MOST.false good ∙ ap (λ (ps : List Piece). bad_record (first_bad 1 ps)) (pieces-all rs));
}
