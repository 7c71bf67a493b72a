-- `demand_of` meets its contract: the refusal, or the demand of the charged pieces.
use Rattle.std.proofs.Common.{Err, ◌≡◌, rules}
use mathlib.Core.Path.{sym, ◌∙◌}
use Rattle.demand.proofs.RunLaws.{check-taken}
use Rattle.demand.specs.Answer.{demand_figure}
use borrow.Author.Tests.{le-leb, lt-leb}
use Rattle.demand.specs.Sizes.{length_most}
use Rattle.verdicts.proofs.demand_of.Goals as goal

pub returns-then-t-gt-LENGTH_MOST : goal.returns-then-t-gt-LENGTH_MOST
unfolding demand_figure
returns-then-t-gt-LENGTH_MOST c = record { exact = simp (sym c.check_records.ensures.exact ∙ c.in_ok-check_records.was, lt-leb c.args.t length_most c.if-t-gt-LENGTH_MOST.true) }

-- refused, whatever the length
pub returns-in_err-check_records : goal.returns-in_err-check_records
unfolding demand_figure
returns-in_err-check_records c = record {
  exact =
      let same : c.from_residual.result ≡ Err c.in_err-check_records.field-0.0 = search rules in
      rw (same, sym c.check_records.ensures.exact ∙ c.in_err-check_records.was);
}

pub lay_run-stall-requires : goal.lay_run-stall-requires
lay_run-stall-requires c = check-taken _ _ _ (sym c.check_records.ensures.exact ∙ c.in_ok-check_records.was)

pub returns : goal.returns
unfolding demand_figure
returns c = record {
  exact =
      let run = c.lay_run-stall.ensures in
      simp (c.demand_at.ensures, c.stalled.ensures.0, c.stalled.ensures.1, run.stall-is, run.exact, run.taken, le-leb c.args.t length_most c.if-t-gt-LENGTH_MOST.false);
}
