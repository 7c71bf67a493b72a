-- `most_fitting::lower` meets its contract: nothing is left; or the walk goes on below what is asked for at the last length, as it was held or as it is looked at;
-- or there is less left and a second look to come.
use Prim.Native.Nat.{◌≤◌, ◌-◌}
use native.Mathlib.Omega.{arith}
use Rattle.verdicts.proofs.MostFittingLaws.{lowers-look, lowers-below, asked-last}
use Rattle.verdicts.proofs.most_fitting.lower.Goals as goal

pub returns-then-s-t : goal.returns-then-s-t
returns-then-s-t c =
    let s = c.args in
    let qs = s.core.now.pieces.now in
    rw c.last_below-then-s-t.ensures
    (lowers-below s.core.now.stall qs s.q s.a s.s c.requires.a_lt_end.0 c.requires.a_lt_end.1 c.level_at-v.result c.level_at-v.ensures
    s.core.now.widest c.next_end-end.result s.s.rest s.s.jobs
    s.core.now.widest_is c.next_end-end.ensures (c.requires.a_lt_end.1.asks (omega (arith, c.if-s-t.true))))

pub returns-then-s-v : goal.returns-then-s-v
returns-then-s-v c =
    let s = c.args in
    let qs = s.core.now.pieces.now in
    let last : s.s.end - 1 ≤ s.s.look = omega (arith, c.if-s-t.false) in
    let some : 1 ≤ c.level_at-v.result.charge = omega (arith, c.if-v-eq0.false) in
    rw c.last_below-then-s-v.ensures
    (lowers-below s.core.now.stall qs s.q s.a s.s c.requires.a_lt_end.0 c.requires.a_lt_end.1 c.level_at-v.result c.level_at-v.ensures
    s.core.now.widest c.next_end-end-then-s-v.result
    c.level_at-v.result.rest c.level_at-v.result.jobs s.core.now.widest_is c.next_end-end-then-s-v.ensures
    (asked-last s.core.now.stall qs s.q s.a s.s c.requires.a_lt_end.0 c.requires.a_lt_end.1 c.level_at-v.result c.level_at-v.ensures last some))

pub returns : goal.returns
returns c =
    let s = c.args in
    let qs = s.core.now.pieces.now in
    let last : s.s.end - 1 ≤ s.s.look = omega (arith, c.if-s-t.false) in
    let some : 1 ≤ c.level_at-v.result.charge = omega (arith, c.if-v-eq0.false) in
    lowers-look s.core.now.stall qs s.q s.a s.s c.requires.a_lt_end.0 c.requires.a_lt_end.1 c.level_at-v.result c.level_at-v.ensures c.min-start.result last some
    (omega arith) (omega (arith, c.min-start.ensures, c.max.ensures)) (omega (arith, c.min-start.ensures))
