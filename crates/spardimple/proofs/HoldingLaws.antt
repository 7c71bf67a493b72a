-- Laws of pieces that stand at the front of others.
-- Assumes nothing.
--
--   holds-answer          what is answered for the first pieces of others is what is answered for them alone
use mathlib.Core.Path.{◌≡◌, sym, ◌∙◌}
use mathlib.Core.List.{List}
use Prim.Native.Nat.{◌≤◌}
use native.Mathlib.Decide.{dec_le}
use native.Mathlib.Omega.{arith}
use lib.ListN.{length, take}
use lib.Seq.{take-length}
use Rattle.demand.specs.declared.Piece.{Piece}
use Rattle.demand.specs.declared.Costs.{Costs}
use Rattle.demand.specs.declared.Refusal.TheVariants.{TooMany}
use Rattle.demand.specs.Sizes.{run_most}
use Rattle.demand.specs.Answer.{check_run, answer_of}
use Rattle.demand.proofs.RunLaws.{check-many, answer-bad}

module _ (ps : List Piece) where
  same-pieces : (c : Costs) (qs : List Piece) → take (length ps) qs ≡ ps → answer_of c (length ps) qs ≡ answer_of c (length ps) ps
  unfolding answer_of check_run
  same-pieces c qs e = rw (e ∙ sym (take-length ps))

  -- 79 at the most: the pieces are the same. More: 6, by their count alone.
  pub holds-answer : (c : Costs) (qs : List Piece) → (length ps ≤ run_most → take (length ps) qs ≡ ps) → answer_of c (length ps) qs ≡ answer_of c (length ps) ps
  holds-answer c qs holds = elim (dec_le (length ps) run_most) [
    | yes few ↦ same-pieces c qs (holds few)
    | no many ↦ answer-bad c (length ps) qs TooMany (check-many c (length ps) qs (omega arith))
        ∙ sym (answer-bad c (length ps) ps TooMany (check-many c (length ps) ps (omega arith)))
  ]
