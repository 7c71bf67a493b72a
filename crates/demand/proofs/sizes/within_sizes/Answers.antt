-- `within_sizes` meets its contract: a test that tells the rule is the definition's.
use Rattle.demand.proofs.SizeLaws.{sized-is}
use Rattle.demand.proofs.sizes.within_sizes.Goals as goal

pub returns : goal.returns
returns c = record { exact = sized-is c.args.piece c.sized_piece.result c.sized_piece.ensures }
