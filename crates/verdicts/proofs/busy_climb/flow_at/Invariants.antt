-- `busy_climb::flow_at` meets its contract: so far it is the pass over the pieces so far.
use Rattle.std.proofs.Common.{◌≤◌, ◌*◌, take}
use Rattle.demand.specs.Busy.{busy_sum}
use Rattle.verdicts.specs.Ways.BusyClimb.{Flows}
use Rattle.verdicts.proofs.busy_climb.flow_at.Given as goal

abbrev pub invariant-loop-q : goal.invariant-loop-q
invariant-loop-q l = Flows (busy_sum (take l.q-index l.q-items)) l.l (record { asked = l.asked; share = l.share; work = l.work })
    × (l.asked ≤ l.q-index * 1000000000000000) × (l.share ≤ l.q-index * 10000000000000000) × (l.work ≤ l.q-index * 1000000000000000)
