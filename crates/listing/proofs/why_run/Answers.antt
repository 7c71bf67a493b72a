-- `why_run` meets its contract: the listing of the records, with no line in front.
use mathlib.Core.Path.{ap, ◌∙◌}
use lib.ListN.{length, replicate}
use Rattle.task.specs.Tasks.{no_task}
use Rattle.listing.specs.Papers.{Paper, note_of, left}
use Rattle.listing.proofs.SeatLaws.{run-paper}
use Rattle.listing.proofs.why_run.Goals as goal

pub returns : goal.returns
returns c = record {
  exact =
      let s = c.args in
      let old = s.buf.now in
      let same = run-paper s.costs (replicate 64 no_task) (replicate 79 0) s.records.now in (
        c.write_why.ensures.value.0 ∙ ap (λ (p : Paper). note_of p (length old)) same,
        c.write_why.ensures.value.1
            ∙ ap (λ (p : Paper). left p old) same,
        c.write_why.ensures.number_bound.0,
        c.write_why.ensures.number_bound.1,
      );
}
