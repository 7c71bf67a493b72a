-- `split_records` meets its contract: the refusal that `check_task` gives, or the greatest split.
use Rattle.std.proofs.Common.{rules, arith, ◌≡◌, Err, length, ◌<◌, ◌+◌}
use Rattle.std.specs.Prelude.{Ok, Option}
use mathlib.Core.Path.{sym, ap, ◌∙◌}
use mathlib.Core.List.{List, [], ◌∷◌, ◌++◌}
use Rattle.std.proofs.lemmas.List.{length-append, take_all}
use Rattle.demand.specs.declared.Costs.{Costs}
use Rattle.demand.specs.declared.Cut.{Cut}
use Rattle.demand.specs.declared.Piece.{Piece}
use Rattle.demand.specs.declared.Record.{Record}
use Rattle.demand.specs.Answer.{check_run, split_of}
use Rattle.demand.specs.Records.{pieces_in}
use Rattle.demand.specs.Sizes.{run_most, Each, Sized, SizedCosts}
use Rattle.demand.specs.Split.{greatest_split}
use Rattle.demand.proofs.RecordLaws.{pieces-all, pieces-length}
use Rattle.demand.proofs.RunLaws.{check-taken, split-fine, split-bad}
use Rattle.demand.proofs.Sums.{each-front, each_last}
use Rattle.splits.proofs.split_records.Goals as goal

-- what is known of a task and a run that are taken
record Fit (c : Costs) (rs : List Record) (p : Piece) : Type 0 where
  costs : SizedCosts c
  room : length rs < run_most
  each : Each Sized (pieces_in rs)
  own : Sized p

fit : (c : Costs) (rs : List Record) (p : Piece) → check_run c (length rs + 1) (pieces_in rs ++ (p ∷ [])) ≡ Ok tt → Fit c rs p
fit c rs p fine =
    let ps = pieces_in rs in
    let ok = check-taken c (length rs + 1) (ps ++ (p ∷ [])) fine in
    let each = rw (take_all (length rs + 1) (ps ++ (p ∷ [])) (omega (arith, length-append ps (p ∷ []), pieces-length rs))) at ok.each in
    record { costs = ok.costs; room = omega (arith, ok.few); each = each-front Sized ps p each; own = each_last Sized ps p each }

pub invariant_of-given : goal.invariant_of-given
invariant_of-given c =
    let s = c.args in
    let fits = fit s.costs s.records.now s.task (sym c.check_task.ensures.exact ∙ c.in_ok-check_task.was) in
    record { costs_sized = fits.costs; sized = fits.own }

pub greatest_split-requires : goal.greatest_split-requires
greatest_split-requires c =
    let s = c.args in
    let ok = fit s.costs s.records.now s.task (sym c.check_task.ensures.exact ∙ c.in_ok-check_task.was) in
    record { room = ok.room; each = ok.each }

pub returns-in_err-check_task : goal.returns-in_err-check_task
unfolding split_of
returns-in_err-check_task c = record {
  exact =
      let s = c.args in
      let ps = pieces_in s.records.now in
      let same : c.from_residual.result ≡ Err c.in_err-check_task.field-0.0 = search rules in
      same ∙ rw (pieces-all s.records.now) (split-bad (check_run s.costs (length s.records.now + 1) (ps ++ (s.task ∷ []))) (greatest_split s.costs s.grain ps s.task)
      _ (sym c.check_task.ensures.exact ∙ c.in_err-check_task.was));
}

pub returns : goal.returns
unfolding split_of
returns c = record {
  exact =
      let s = c.args in
      let ps = pieces_in s.records.now in
      rw (pieces-all s.records.now) (ap (λ (r : Option Cut). Ok r) c.greatest_split.ensures
      ∙ split-fine (check_run s.costs (length s.records.now + 1) (ps ++ (s.task ∷ []))) (greatest_split s.costs s.grain ps s.task)
      (sym c.check_task.ensures.exact ∙ c.in_ok-check_task.was));
}
