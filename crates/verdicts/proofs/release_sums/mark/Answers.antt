-- `release_sums::mark` meets its contract: before each turn the jobs released before l + at are marked, and one is released there.
use borrow.Author.Rules.{rules}
use Prim.Native.Nat.{ℕ, ◌+◌, ◌*◌, ◌-◌}
use mathlib.Core.Path.{ap}
use native.Mathlib.Omega.{arith}
use Rattle.demand.proofs.Division.{ceil-covers}
use Rattle.verdicts.proofs.ReleaseSumLaws.{marking-none, marking-more, marking-all}
use Rattle.verdicts.proofs.release_sums.mark.Goals as goal

pub overflow_sub-at : goal.overflow_sub-at
overflow_sub-at c =
    let s = c.args in
    omega (arith, ap (λ (j : ℕ). j * s.q.period) c.ceil_div.ensures.0, ceil-covers s.l {k = s.q.period} c.requires.ranged.period-some)

pub loop-at-init : goal.loop-at-init
loop-at-init c =
    let s = c.args in
    let q = s.q in
    marking-none (q.charge + q.release + q.ipi) c.requires.ranged.period-some s.l _ s.marks.now c.requires.l_le_busy_most.1
    (ap (λ (j : ℕ). j * q.period - s.l) c.ceil_div.ensures.0)

pub loop-at-preserved : goal.loop-at-preserved
loop-at-preserved c =
    let s = c.args in
    let q = s.q in
    let o = c.loop-at in
    marking-more (q.charge + q.release + q.ipi) c.requires.ranged.period-some s.l o.at s.marks.now o.marks o.invariant
    c.loop-at-test.true (search rules)

pub returns : goal.returns
returns c =
    let s = c.args in
    let o = c.loop-at in
    (marking-all s.q s.l o.at s.marks.now o.marks o.invariant (omega arith), o.invariant.room)
