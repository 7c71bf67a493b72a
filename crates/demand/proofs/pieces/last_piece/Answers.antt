-- `pieces::last_piece` meets its contract: it is made as every piece is.
use Rattle.demand.specs.Split.{last_piece}
use Rattle.demand.proofs.pieces.last_piece.Goals as goal

pub returns : goal.returns
unfolding last_piece
returns c = record { exact = cc }
