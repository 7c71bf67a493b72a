-- `busy_length` meets its contract: the refusal, or the busy length of the charged pieces.
use Rattle.std.proofs.Common.{Err, ◌≡◌, rules}
use Rattle.demand.specs.Answer.{busy_figure}
use mathlib.Core.Path.{sym, ◌∙◌}
use Rattle.demand.proofs.RunLaws.{check-taken}
use Rattle.verdicts.proofs.busy_length.Goals as goal

pub returns-in_err-check_records : goal.returns-in_err-check_records
unfolding busy_figure
returns-in_err-check_records c = record {
  exact =
      let same : c.from_residual.result ≡ Err c.in_err-check_records.field-0.0 = search rules in
      rw (same, sym c.check_records.ensures.exact ∙ c.in_err-check_records.was);
}

pub lay_run-requires : goal.lay_run-requires
lay_run-requires c = check-taken _ _ _ (sym c.check_records.ensures.exact ∙ c.in_ok-check_records.was)

pub returns : goal.returns
unfolding busy_figure
returns c = record {
  exact =
      let run = c.lay_run.ensures in
      rw (c.climb_busy.ensures, run.exact, run.taken);
}
