-- `pieces::piece_of` meets its contract: field by field.
use Rattle.demand.specs.Split.{piece_of}
use Rattle.demand.proofs.pieces.piece_of.Goals as goal

pub returns : goal.returns
unfolding piece_of
returns c = cc
