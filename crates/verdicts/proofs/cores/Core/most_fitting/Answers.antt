-- `Core::most_fitting` meets its contract: the walk's answer, where no number is past its bound.
use native.Mathlib.Omega.{arith}
use Rattle.verdicts.proofs.LaidLaws.{most-fitting-held, most-fitting-none}
use Rattle.verdicts.proofs.cores.Core.most_fitting.Goals as goal

pub returns-then-b-gt-STALL_MOST-clause-exact : goal.returns-then-b-gt-STALL_MOST-clause-exact
returns-then-b-gt-STALL_MOST-clause-exact c =
    let s = c.args in
    most-fitting-none s.b s.q s.a s.l s.f s.self.now (λ h i j k. grind arith)

pub returns-then-not-ranged_piece-clause-exact : goal.returns-then-not-ranged_piece-clause-exact
returns-then-not-ranged_piece-clause-exact c =
    let s = c.args in
    most-fitting-none s.b s.q s.a s.l s.f s.self.now (λ h i j k. c.if-not-ranged_piece.ensures i)

pub returns-clause-exact : goal.returns-clause-exact
returns-clause-exact c =
    let s = c.args in
    rw (c.squeeze.ensures, c.stalled.ensures.0, c.stalled.ensures.1) (most-fitting-held s.b s.q s.a s.l s.f s.self.now (omega arith) c.if-not-ranged_piece.ensures (omega arith) (omega arith))
