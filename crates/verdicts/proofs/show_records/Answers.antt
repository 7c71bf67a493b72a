-- `show_records` meets its contract: the refusal, or what is shown of the charged pieces.
use Rattle.demand.specs.Answer.{showing_of}
use Rattle.std.proofs.Common.{Err, ◌≡◌, rules}
use Rattle.demand.specs.Why.{shown_of}
use mathlib.Core.Path.{sym, ◌∙◌}
use Rattle.demand.proofs.RunLaws.{check-taken}
use Rattle.verdicts.proofs.show_records.Goals as goal

pub returns-in_err-check_records : goal.returns-in_err-check_records
unfolding showing_of
returns-in_err-check_records c = record {
  exact =
      let same : c.from_residual.result ≡ Err c.in_err-check_records.field-0.0 = search rules in
      rw (same, sym c.check_records.ensures.exact ∙ c.in_err-check_records.was);
}

pub lay_run-stall-requires : goal.lay_run-stall-requires
lay_run-stall-requires c = check-taken _ _ _ (sym c.check_records.ensures.exact ∙ c.in_ok-check_records.was)

pub returns : goal.returns
unfolding showing_of shown_of
returns c = record {
  exact =
      let run = c.lay_run-stall.ensures in
      rw (c.show_core.ensures, c.stalled.ensures.0, c.stalled.ensures.1, run.stall-is, run.exact, run.taken);
}
