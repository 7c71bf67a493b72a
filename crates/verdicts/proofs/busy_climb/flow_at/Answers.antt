-- `busy_climb::flow_at` meets its contract: so far it is the pass over the pieces so far.
use Rattle.std.proofs.Common.{rules, arith, refl}
use Rattle.demand.specs.Ways.Ranges.{no_charge}
use Rattle.verdicts.proofs.BusyClimbLaws.{flow-none, flow-more}
use Rattle.verdicts.proofs.busy_climb.flow_at.Goals as goal

pub loop-q-init : goal.loop-q-init
loop-q-init c = (flow-none _ _ refl refl refl, search rules, search rules, search rules)

pub loop-q-preserved : goal.loop-q-preserved
loop-q-preserved c =
    let loop = c.loop-q in (
      flow-more c.core.inside.pieces.now loop.q-index no_charge c.loop-q-test.true c.args.l _ c.flow_of-f.result _ loop.invariant.0 c.flow_of-f.ensures.0 refl refl refl,
      omega arith,
      omega arith,
      omega arith,
    )
