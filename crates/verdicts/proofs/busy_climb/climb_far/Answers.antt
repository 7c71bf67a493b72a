-- `busy_climb::climb_far` meets its contract: nothing below l holds the busy sum. What is left to the limit, in parts of 256, falls.
use native.Mathlib.Omega.{arith}
use Rattle.demand.specs.Busy.{busy_sum}
use Rattle.demand.proofs.BusyLaws.{busy-found, busy-nothing, busy-sum-mono}
use Rattle.verdicts.proofs.BusyClimbLaws.{clear-leap}
use Rattle.verdicts.proofs.ReleaseSumLaws.{clear-past}
use Rattle.verdicts.proofs.busy_climb.climb_far.Goals as goal

pub returns-then-f-l : goal.returns-then-f-l
returns-then-f-l c =
    let s = c.args in
    let qs = s.core.now in
    let o = c.loop-l in
    busy-found qs o.l o.invariant.0 (omega arith)
    (omega (arith, c.flow_at-f.ensures.0.exact, c.if-f-l.true)) o.invariant.1

pub leap-m-requires : goal.leap-m-requires
leap-m-requires c =
    let s = c.args in
    let qs = s.core.now in
    let o = c.loop-l in
    let exact = c.flow_at-f.ensures.0.exact in
    let next =
    clear-leap (busy_sum qs) (busy-sum-mono qs) o.l c.flow_at-f.result c.reach_of.result o.invariant.0
    o.invariant.1 c.flow_at-f.ensures.0 c.reach_of.ensures.0 in record {
      l_le_busy_most = (
        omega arith,
        exact,
        c.flow_at-f.ensures.1,
        clear-past (busy_sum qs) o.l o.invariant.1 (omega (arith, exact, c.if-f-l.false)),
      );
      clear = rw c.max-next.ensures next;
    }

pub returns-then-m-gt-BUSY_MOST : goal.returns-then-m-gt-BUSY_MOST
returns-then-m-gt-BUSY_MOST c =
    let s = c.args in
    let qs = s.core.now in
    busy-nothing qs c.leap-m.result c.if-m-gt-BUSY_MOST.true c.leap-m.ensures.1

pub returns-then-m-l : goal.returns-then-m-l
returns-then-m-l c =
    let s = c.args in
    let qs = s.core.now in
    let held = c.leap-m.ensures in
    busy-found qs c.leap-m.result (omega arith) (omega arith) (held.2 c.if-m-l.true) held.1

pub returns : goal.returns
returns c =
    let s = c.args in
    let qs = s.core.now in
    busy-nothing qs c.loop-l.l (omega arith) c.loop-l.invariant.1
