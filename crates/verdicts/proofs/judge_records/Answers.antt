-- `judge_records` meets its contract: the refusal, or the verdict on the charged pieces.
use Rattle.demand.specs.Answer.{answer_of}
use Rattle.std.proofs.Common.{Err, ◌≡◌, rules}
use Rattle.demand.specs.Verdict.{verdict_of}
use mathlib.Core.Path.{sym, ◌∙◌}
use Rattle.demand.proofs.RunLaws.{check-taken}
use Rattle.verdicts.proofs.judge_records.Goals as goal

pub returns-in_err-check_records : goal.returns-in_err-check_records
unfolding answer_of
returns-in_err-check_records c = record {
  exact =
      let same : c.from_residual.result ≡ Err c.in_err-check_records.field-0.0 = search rules in
      rw (same, sym c.check_records.ensures.exact ∙ c.in_err-check_records.was);
}

pub lay_run-stall-requires : goal.lay_run-stall-requires
lay_run-stall-requires c = check-taken _ _ _ (sym c.check_records.ensures.exact ∙ c.in_ok-check_records.was)

pub returns : goal.returns
unfolding answer_of verdict_of
returns c = record {
  exact =
      let run = c.lay_run-stall.ensures in
      rw (c.judge_core.ensures, c.stalled.ensures.0, c.stalled.ensures.1, run.stall-is, run.exact, run.taken);
}
