-- `Core::of` meets its contract: the pieces are few, and each is within its range.
use mathlib.Core.Path.{sym}
use Rattle.verdicts.proofs.LaidLaws.{laid-held, laid-none}
use native.Mathlib.Omega.{arith}
use Rattle.verdicts.proofs.cores.Core.of.Goals.{else-pieces-le-RUN_MOST-via-then-pieces-le-RUN_MOST+else-ranged_pieces, else-pieces-le-RUN_MOST-via-else-pieces-le-RUN_MOST}
use Rattle.verdicts.proofs.cores.Core.of.Goals as goal

pub returns-then-ranged_pieces : goal.returns-then-ranged_pieces
returns-then-ranged_pieces c = record { exact = sym (laid-held c.args.pieces.now (c.if-pieces-le-RUN_MOST.true, c.if-ranged_pieces.ensures)) }

pub returns-else-pieces-le-RUN_MOST : goal.returns-else-pieces-le-RUN_MOST
returns-else-pieces-le-RUN_MOST c = record {
  exact =
      sym (laid-none c.args.pieces.now (λ core. elim c.else-pieces-le-RUN_MOST.branch [
        | else-pieces-le-RUN_MOST-via-then-pieces-le-RUN_MOST+else-ranged_pieces w ↦ w.if-ranged_pieces.ensures core.1
        | else-pieces-le-RUN_MOST-via-else-pieces-le-RUN_MOST w ↦ omega arith
      ]));
}
