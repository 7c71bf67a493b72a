-- `spans::descend` meets its contract: a hunt with no bar is the scan.
use Rattle.verdicts.proofs.HuntLaws.{hunt-hit, hunt-none}
use Rattle.verdicts.proofs.spans.descend.Goals as goal

pub returns-in-Some : goal.returns-in-Some
returns-in-Some c =
    let s = c.args in
    hunt-hit s.core.now.stall s.core.now.pieces.now s.a s.l c.in-Some.hit.length c.in-Some.ensures.0

pub returns-in-None : goal.returns-in-None
returns-in-None c =
    let s = c.args in
    hunt-none s.core.now.stall s.core.now.pieces.now s.a s.l c.in-None.ensures
