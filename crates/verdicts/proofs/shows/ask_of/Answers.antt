-- `shows::ask_of` meets its contract: what is asked for by the verdict's case, where no number is past its bound.
use mathlib.Core.Path.{sym, ap, ◌∙◌}
use native.Mathlib.Omega.{arith}
use Rattle.demand.specs.declared.Verdict.{Verdict}
use Rattle.demand.specs.Why.{ask}
use Rattle.demand.specs.Ways.Ranges.{Ranged}
use Rattle.verdicts.proofs.AskLaws.{ask-held, ask-long, ask-unranged}
use Rattle.verdicts.proofs.shows.ask_of.Goals as goal

pub returns-then-t-gt-LENGTH_MOST : goal.returns-then-t-gt-LENGTH_MOST
returns-then-t-gt-LENGTH_MOST c = record {
  exact =
      let s = c.args in
      c.no_ask.ensures ∙ ask-long s.verdict s.t s.q c.if-t-gt-LENGTH_MOST.true;
}

pub returns-then-not-ranged_piece : goal.returns-then-not-ranged_piece
returns-then-not-ranged_piece c = record {
  exact =
      let s = c.args in
      c.no_ask-then-not-ranged_piece.ensures ∙ ask-unranged s.verdict s.t s.q c.ranged_piece.result c.ranged_piece.ensures
      c.if-not-ranged_piece.true (omega (arith, c.if-t-gt-LENGTH_MOST.false));
}

pub returns-in-Passes : goal.returns-in-Passes
returns-in-Passes c = record {
  exact =
      let s = c.args in
      let ok : Ranged s.q = c.if-not-ranged_piece.ensures in
      c.due_ask.ensures ∙ (ap (λ (v : Verdict). ask v s.t s.q) (sym c.in-Passes.is)
      ∙ sym (ask-held s.verdict s.t s.q ok (omega (arith, c.if-t-gt-LENGTH_MOST.false))));
}

pub returns-in-Overloaded : goal.returns-in-Overloaded
returns-in-Overloaded c = record {
  exact =
      let s = c.args in
      let ok : Ranged s.q = c.if-not-ranged_piece.ensures in
      c.due_ask-in-Overloaded.ensures ∙ (ap (λ (v : Verdict). ask v s.t s.q) (sym c.in-Overloaded.is)
      ∙ sym (ask-held s.verdict s.t s.q ok (omega (arith, c.if-t-gt-LENGTH_MOST.false))));
}

pub returns-in-Undecided : goal.returns-in-Undecided
returns-in-Undecided c = record {
  exact =
      let s = c.args in
      let ok : Ranged s.q = c.if-not-ranged_piece.ensures in
      c.busy_ask.ensures ∙ (ap (λ (v : Verdict). ask v s.t s.q) (sym c.in-Undecided.is)
      ∙ sym (ask-held s.verdict s.t s.q ok (omega (arith, c.if-t-gt-LENGTH_MOST.false))));
}
