-- `tight_window` meets its contract: the refusal, or the tight window among the charged pieces.
use Rattle.std.proofs.Common.{Err, ◌≡◌, length, rules}
use Rattle.demand.specs.Answer.{tight_figure}
use mathlib.Core.Path.{sym, ◌∙◌}
use Rattle.demand.proofs.RunLaws.{check-taken}
use Rattle.verdicts.proofs.LaidRunLaws.{tight-none}
use Rattle.verdicts.proofs.tight_window.Goals as goal

-- of no record
pub returns-then-is_empty : goal.returns-then-is_empty
returns-then-is_empty c = record {
  exact =
      let none : length c.args.records.now ≡ 0 = search rules in
      sym (tight-none c.args.costs c.args.records.now none (sym c.check_records.ensures.exact ∙ c.in_ok-check_records.was));
}

pub returns-in_err-check_records : goal.returns-in_err-check_records
unfolding tight_figure
returns-in_err-check_records c = record {
  exact =
      let same : c.from_residual.result ≡ Err c.in_err-check_records.field-0.0 = search rules in
      rw (same, sym c.check_records.ensures.exact ∙ c.in_err-check_records.was);
}

pub lay_run-stall-requires : goal.lay_run-stall-requires
lay_run-stall-requires c = check-taken _ _ _ (sym c.check_records.ensures.exact ∙ c.in_ok-check_records.was)

pub returns : goal.returns
unfolding tight_figure
returns c = record {
  exact =
      let run = c.lay_run-stall.ensures in
      rw (c.tight_of.ensures, run.stall-is, run.exact, run.taken);
}
