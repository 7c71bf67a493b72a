-- `diff_listing` meets its contract: refused as the first sheet is, then as the second; else the listing of both plans.
use mathlib.Core.Path.{sym, ap, ◌∙◌}
use Prim.Native.Nat.{◌+◌}
use native.Mathlib.Omega.{arith}
use lib.ListN.{length}
use Rattle.task.specs.Faults.{number_of}
use Rattle.listing.specs.Papers.{Paper, note, left, written}
use Rattle.listing.specs.Diff.{diff_of}
use Rattle.spardimple.specs.Numbers.{number}
use Rattle.spardimple.specs.Sheets.{told_paper}
use Rattle.spardimple.specs.Diffs.{second_from, diff_paper, diff_number, diff_left}
use Rattle.spardimple.proofs.WhySteps.{note-told, refused-told, refused-left}
use Rattle.spardimple.proofs.StepLaws.{refusal-small, first-refused, second-refused, both-planned}
use Rattle.spardimple.proofs.diff_listing.Goals as goal

pub refusal_number-requires : goal.refusal_number-requires
refusal_number-requires c = (omega arith, refusal-small c.args.sheet1.now c.in-Err.why c.in-Err.ensures)

pub returns-in-Err : goal.returns-in-Err
unfolding diff_number diff_left
returns-in-Err c = record {
  exact =
      let s = c.args in
      let why = c.in-Err.why in
      let paper = diff_paper s.sheet1.now s.sheet2.now in
      let is = first-refused s.sheet1.now s.sheet2.now why c.in-Err.ensures in (
        c.refusal_number.ensures ∙ refused-told paper (0 + number_of why.fault) why.carries is (length s.out.now),
        refused-left paper (0 + number_of why.fault) why.carries is s.out.now,
      );
}

pub refusal_number-requires-in-Err-planned : goal.refusal_number-requires-in-Err-planned
refusal_number-requires-in-Err-planned c = (omega arith, refusal-small c.args.sheet2.now c.in-Err-planned.why c.in-Err-planned.ensures)

pub returns-in-Err-planned : goal.returns-in-Err-planned
unfolding diff_number diff_left
returns-in-Err-planned c = record {
  exact =
      let s = c.args in
      let why = c.in-Err-planned.why in
      let paper = diff_paper s.sheet1.now s.sheet2.now in
      let is = second-refused s.sheet1.now s.sheet2.now c.in-Ok.plan c.in-Ok.ensures why c.in-Err-planned.ensures in (
        c.refusal_number-in-Err-planned.ensures ∙ refused-told paper (second_from + number_of why.fault) why.carries is (length s.out.now),
        refused-left paper (second_from + number_of why.fault) why.carries is s.out.now,
      );
}

pub returns : goal.returns
unfolding diff_number diff_left
returns c = record {
  exact =
      let s = c.args in
      let w = c.compared.ensures in
      let text = written (diff_of c.in-Ok.plan c.in-Ok-planned.plan) in
      let is = sym (both-planned s.sheet1.now s.sheet2.now c.in-Ok.plan c.in-Ok.ensures c.in-Ok-planned.plan c.in-Ok-planned.ensures) in (
        c.note_number.ensures ∙ (note-told text tt (length s.out.now) (note c.compared.result) w.says ∙ ap (λ (p : Paper). number (told_paper p (length s.out.now))) is),
        w.leaves ∙ ap (λ (p : Paper). left p s.out.now) is,
      );
}
