-- `lengths::climb` meets its contract: nothing below l holds, and each step goes on to what is asked there. What is left to the top falls.
use Rattle.std.specs.Prelude.{None, Some}
use borrow.Author.Rules.{rules}
use native.Mathlib.Omega.{arith}
use Rattle.demand.proofs.BusyLaws.{clear_step, least-holding-is}
use Rattle.verdicts.proofs.CoreLaws.{asked, asked-mono}
use Rattle.verdicts.proofs.lengths.climb.Goals as goal

pub returns-then-asked-l : goal.returns-then-asked-l
returns-then-asked-l c =
    let s = c.args in
    let qs = s.core.now in
    let loop = c.loop-l in
    least-holding-is (asked s.sum s.base qs) (asked-mono s.sum s.base qs) s.top (Some loop.l)
    (record { here = record { some = loop.invariant.0; fits = omega arith }; none_below = loop.invariant.1 }, search rules)

pub loop-l-preserved : goal.loop-l-preserved
loop-l-preserved c =
    let s = c.args in
    let qs = s.core.now in
    let loop = c.loop-l in (
      search rules,
      rw c.sum_at.ensures.0 (clear_step (asked s.sum s.base qs)
          (asked-mono s.sum s.base qs) loop.l loop.invariant.1 (omega arith)),
    )

pub returns : goal.returns
returns c =
    let s = c.args in
    let qs = s.core.now in
    least-holding-is (asked s.sum s.base qs) (asked-mono s.sum s.base qs) s.top None
    (λ k h p. c.loop-l.invariant.1 k (omega arith) p)
