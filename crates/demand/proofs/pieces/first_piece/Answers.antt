-- `pieces::first_piece` meets its contract: it is made as every piece is.
use Rattle.demand.specs.Split.{first_piece}
use Rattle.demand.proofs.pieces.first_piece.Goals as goal

pub returns : goal.returns
unfolding first_piece
returns c = record { exact = c.piece_of.ensures }
