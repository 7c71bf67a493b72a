-- `busy_climb::reach_of` meets its contract: the quotient where the share leaves room, and past the limit where it leaves none.
use Prim.Native.Nat.{◌*◌, ◌-◌}
use native.Mathlib.Nat.{div-le_self}
use native.Mathlib.Omega.{arith}
use Rattle.verdicts.specs.Ways.BusyClimb.{all_time}
use Rattle.verdicts.proofs.BusyClimbLaws.{reach-part}
use Rattle.verdicts.proofs.busy_climb.reach_of.Goals as goal

pub returns-then-f-lt-ALL_TIME : goal.returns-then-f-lt-ALL_TIME
returns-then-f-lt-ALL_TIME c =
    let f = c.args.f in
    (reach-part f c.if-f-lt-ALL_TIME.true, omega (arith, div-le_self (f.work * all_time) (all_time - f.share)))
