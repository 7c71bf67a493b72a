-- `lent::run_shown` meets its contract: refused as they are lent; else what is said of the run.
use mathlib.Core.Path.{◌≡◌, ap, ◌∙◌}
use native.Mathlib.Omega.{arith}
use lib.ListN.{length}
use borrow.Author.Rules.{rules}
use Rattle.std.specs.Prelude.{Err}
use Rattle.listing.specs.Papers.{Paper, note_of, left}
use Rattle.spardimple.proofs.LentLaws.{unlent-why, unlent-small, lent-why}
use Rattle.spardimple.proofs.StepLaws.{refused-writes}
use Rattle.spardimple.specs.Whys.{why_records}
use Rattle.spardimple.proofs.lent.run_shown.Goals as goal

pub returns-in_err-measure : goal.returns-in_err-measure
returns-in_err-measure c =
    let s = c.args in
    let same : c.from_residual.result ≡ Err c.in_err-measure.field-0.0 = search rules in
    let why = c.in_err-measure.ensures in
    rw same (refused-writes (why_records s.records.now s.costs.now) c.in_err-measure.field-0.0
    (unlent-why s.records.now s.costs.now c.in_err-measure.field-0.0 why) (unlent-small s.records.now s.costs.now c.in_err-measure.field-0.0 why) s.out.now)

pub returns-in_err-costs : goal.returns-in_err-costs
returns-in_err-costs c =
    let s = c.args in
    let same : c.from_residual-in_err-costs.result ≡ Err c.in_err-costs.field-0.0 = search rules in
    let why = c.in_err-costs.ensures in
    rw same (refused-writes (why_records s.records.now s.costs.now) c.in_err-costs.field-0.0
    (unlent-why s.records.now s.costs.now c.in_err-costs.field-0.0 why) (unlent-small s.records.now s.costs.now c.in_err-costs.field-0.0 why) s.out.now)

pub returns : goal.returns
returns c =
    let s = c.args in
    let read = c.in_ok-costs.ensures in
    let paper = lent-why s.records.now s.costs.now c.in_ok-costs.costs c.in_ok-costs.run'.now read.0 read.1 read.2 in
    let said = c.why_run.ensures.exact in
    record {
      says = said.0 ∙ ap (λ (p : Paper). note_of p (length s.out.now)) paper;
      leaves = said.1 ∙ ap (λ (p : Paper). left p s.out.now) paper;
      fits = omega (arith, said.3);
    }
