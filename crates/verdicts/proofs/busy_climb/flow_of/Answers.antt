-- `busy_climb::flow_of` meets its contract: a piece that flows asks for its share of every length, and any other for its jobs by l.
use Prim.Native.Nat.{◌+◌, ◌*◌}
use mathlib.Core.Path.{refl}
use native.Mathlib.Nat.{div-le_self}
use native.Mathlib.Omega.{arith}
use Rattle.demand.specs.Busy.{busy_load}
use Rattle.verdicts.specs.Ways.BusyClimb.{all_time}
use Rattle.demand.proofs.ChargeLaws.{ranged-recurs}
use Rattle.demand.proofs.Division.{prod-le}
use Rattle.verdicts.proofs.BusyClimbLaws.{flow-share, flow-work}
use borrow.Author.Rules.{rules}
use Rattle.verdicts.proofs.busy_climb.flow_of.Goals as goal

pub returns-then-jobs-q : goal.returns-then-jobs-q
returns-then-jobs-q c =
    let s = c.args in
    let q = s.q in
    let ranged = c.requires.ranged in
    let jobs = c.ceil_div-jobs.result in (
      flow-share q (ranged-recurs q ranged) s.l _ (unfold busy_load in cc) refl refl,
      omega (arith, prod-le 101000000 2300000 {a = jobs} {b = q.charge + q.release + q.ipi} (search rules) (search rules)),
      omega (arith, div-le_self ((q.charge + q.release + q.ipi) * all_time) q.period),
      search rules,
    )

pub returns : goal.returns
returns c =
    let s = c.args in
    let q = s.q in
    let ranged = c.requires.ranged in
    let jobs = c.ceil_div-jobs.result in
    let few = prod-le 101000000 2300000 {a = jobs} {b = q.charge + q.release + q.ipi} (search rules) (search rules) in
    (flow-work q s.l _ (unfold busy_load in cc) refl refl, omega (arith, few), search rules, omega (arith, few))
