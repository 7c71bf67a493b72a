-- `stretches::stretch_start` meets its contract: the start never falls.
use Rattle.demand.specs.Ways.Ranges.{Ranged, no_charge}
use Rattle.verdicts.proofs.CoreLaws.{each-piece}
use Rattle.verdicts.proofs.stretches.stretch_start.Goals as goal

pub piece_start-requires : goal.piece_start-requires
piece_start-requires c =
    record { ranged = each-piece c.core.inside.pieces.now c.loop-q.q-index no_charge c.loop-q-test.true Ranged c.core.invariant.1; t_in_bounds = c.requires }
