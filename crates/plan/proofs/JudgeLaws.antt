-- Records within the sizes are judged and not refused, and so is a split beside them.
-- Assumes nothing.
--
--   judged        the verdict on them
--   told-split    the split of a whole piece beside them
use Rattle.std.specs.Prelude.{Ok, Result, ⊤}
use mathlib.Core.Path.{◌≡◌, ap, ◌∙◌}
use mathlib.Core.List.{List, [], ◌∷◌, ◌++◌}
use Prim.Native.Nat.{ℕ, ◌+◌}
use native.Mathlib.Omega.{arith}
use lib.ListN.{length, length-append}
use lib.Seq.{take_all}
use Rattle.demand.specs.declared.Piece.{Piece}
use Rattle.demand.specs.declared.Costs.{Costs}
use Rattle.demand.specs.declared.Record.{Record}
use Rattle.demand.specs.declared.Refusal.{Refusal}
use Rattle.demand.specs.Answer.{answer_of, check_run, splitted, split_of}
use Rattle.demand.specs.Records.{pieces_in}
use Rattle.demand.specs.Verdict.{verdict_of}
use Rattle.demand.specs.Split.{greatest_split}
use Rattle.demand.proofs.RecordLaws.{pieces-length, pieces-all}
use Rattle.demand.proofs.RunLaws.{taken-check, taken-answer}
use Rattle.plan.specs.Ways.WalkGoing.{AskFits}

module _ (c : Costs) (rs : List Record) where
  pub judged : AskFits c (pieces_in rs) → answer_of c (length rs) (pieces_in rs) ≡ Ok (verdict_of c (pieces_in rs))
  judged fits =
      taken-answer c (length rs) (pieces_in rs) (record {
        few = omega (arith, fits.few, pieces-length rs);
        costs = fits.costs;
        each = rw (pieces-all rs) fits.sizes;
      })
      ∙ ap (λ (l : List Piece). Ok (verdict_of c l)) (pieces-all rs)

  pub told-split : (q : Piece) (r : ℕ) → AskFits c (pieces_in rs ++ (q ∷ [])) → split_of c (length rs) (pieces_in rs) q r ≡ Ok (greatest_split c r (pieces_in rs) q)
  unfolding split_of
  told-split q r fits =
      let all = take_all (length rs + 1) (pieces_in rs ++ (q ∷ [])) (omega (arith, length-append (pieces_in rs) (q ∷ []), pieces-length rs)) in
      let fine : check_run c (length rs + 1) (pieces_in rs ++ (q ∷ [])) ≡ Ok tt =
      taken-check c (length rs + 1) (pieces_in rs ++ (q ∷ [])) (record {
        few = omega (arith, fits.few, length-append (pieces_in rs) (q ∷ []), pieces-length rs);
        costs = fits.costs;
        each = rw all fits.sizes;
      }) in
      rw (pieces-all rs) (ap (λ (k : Result ⊤ Refusal). splitted k (greatest_split c r (pieces_in rs) q)) fine)
