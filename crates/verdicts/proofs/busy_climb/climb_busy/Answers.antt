-- `busy_climb::climb_busy` meets its contract: nothing below l holds the busy sum, and each step goes on to what is asked there or to the reach of its pass,
-- whichever is more. What is left of the plain steps falls.
use borrow.Author.Rules.{rules}
use native.Mathlib.Omega.{arith}
use Rattle.demand.specs.Busy.{busy_sum}
use Rattle.demand.proofs.BusyLaws.{busy-found, busy-nothing, busy-sum-mono}
use Rattle.verdicts.proofs.BusyClimbLaws.{clear-leap}
use Rattle.verdicts.proofs.busy_climb.climb_busy.Goals as goal

pub returns-then-l-gt-BUSY_MOST : goal.returns-then-l-gt-BUSY_MOST
returns-then-l-gt-BUSY_MOST c =
    let s = c.args in
    let qs = s.core.now in
    let loop = c.loop in
    busy-nothing qs loop.l c.if-l-gt-BUSY_MOST.true loop.invariant.1

pub returns-then-f-l : goal.returns-then-f-l
returns-then-f-l c =
    let s = c.args in
    let qs = s.core.now in
    let o = c.loop in
    busy-found qs o.l o.invariant.0 (omega arith)
    (omega (arith, c.flow_at-f.ensures.0.exact, c.if-f-l.true)) o.invariant.1

pub loop-preserved : goal.loop-preserved
loop-preserved c =
    let s = c.args in
    let qs = s.core.now in
    let o = c.loop in
    let clear =
    clear-leap (busy_sum qs) (busy-sum-mono qs) o.l c.flow_at-f.result c.reach_of.result o.invariant.0
    o.invariant.1 c.flow_at-f.ensures.0 c.reach_of.ensures.0 in
    (search rules, rw c.max-l.ensures clear, search rules)
