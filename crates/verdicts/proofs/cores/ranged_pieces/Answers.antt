-- `cores::ranged_pieces` meets its contract: it is what `all` tells.
use Rattle.std.proofs.Common.{rules}
use Rattle.std.proofs.lemmas.Iterator.{cases_from_all, YieldsList-from_slice}
use Rattle.demand.specs.Ways.Ranges.{Ranged}
use Rattle.verdicts.proofs.CoreLaws.{each-told}
use Rattle.verdicts.proofs.cores.ranged_pieces.Goals as goal

pub returns : goal.returns
returns c =
    each-told Ranged c.args.pieces.now c.all.result
    (cases_from_all _ _ _ Ranged (λ q. Ranged q → ⊥) c.all.ensures.ran (YieldsList-from_slice c.args.pieces.now cc) (λ x q k. search rules) (λ x q k. search rules))
