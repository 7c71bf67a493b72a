-- `records::check_task` meets its contract: the task's record is looked at behind the run's.
use Rattle.std.proofs.Common.{rules, ◌≡◌, Err}
use mathlib.Core.Path.{sym, ◌∙◌}
use mathlib.Core.List.{[], ◌∷◌, ◌++◌}
use Prim.Native.Nat.{◌+◌}
use native.Mathlib.Omega.{arith}
use lib.ListN.{length}
use Rattle.demand.specs.Records.{pieces_in}
use Rattle.demand.proofs.RecordLaws.{pieces-length, pieces-all}
use Rattle.demand.proofs.RunLaws.{check-many, behind-fine, behind-bad, behind-refused}
use Rattle.demand.proofs.SizeLaws.{sized-is}
use Rattle.demand.proofs.records.check_task.Goals as goal

pub returns-then-records-ge-RUN_MOST : goal.returns-then-records-ge-RUN_MOST
returns-then-records-ge-RUN_MOST c = record {
  exact =
      let rs = c.args.records.now in
      sym (check-many c.args.costs (length rs + 1) (pieces_in rs ++ (c.args.task ∷ [])) (omega arith));
}

pub returns-in_err-check_records : goal.returns-in_err-check_records
returns-in_err-check_records c = record {
  exact =
      let s = c.args in
      let rs = s.records.now in
      let same : c.from_residual.result ≡ Err c.in_err-check_records.field-0.0 = search rules in
      same ∙ sym (rw (pieces-all rs) at (behind-refused s.costs (length rs) (pieces_in rs) s.task (omega (arith, c.if-records-ge-RUN_MOST.false)) (omega (arith, pieces-length rs))
      _ (sym c.check_records.ensures.exact ∙ c.in_err-check_records.was)));
}

pub returns-then-not-sized_piece : goal.returns-then-not-sized_piece
returns-then-not-sized_piece c = record {
  exact =
      let s = c.args in
      let rs = s.records.now in
      let bad = sym (sized-is s.task c.sized_piece.result c.sized_piece.ensures) ∙ c.if-not-sized_piece.true in
      sym (rw (pieces-all rs) at (behind-bad s.costs (length rs) (pieces_in rs) s.task (omega (arith, c.if-records-ge-RUN_MOST.false)) (omega (arith, pieces-length rs))
      (sym c.check_records.ensures.exact ∙ c.in_ok-check_records.was) bad));
}

pub returns : goal.returns
returns c = record {
  exact =
      let s = c.args in
      let rs = s.records.now in
      let good = sym (sized-is s.task c.sized_piece.result c.sized_piece.ensures) ∙ c.if-not-sized_piece.false in
      sym (rw (pieces-all rs) at (behind-fine s.costs (length rs) (pieces_in rs) s.task (omega (arith, c.if-records-ge-RUN_MOST.false)) (omega (arith, pieces-length rs))
      (sym c.check_records.ensures.exact ∙ c.in_ok-check_records.was) good));
}
