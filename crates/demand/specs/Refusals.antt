-- The refusals of a run of piece records, as a table: document 01, "Verdict on a core". The run is the first n of the records ps.
-- `proofs/RefusalLaws.antt` has that `answer_of` and `split_of` answer by it.
--
--   record_table c n ps    "More than 79 is refusal 6; next, a bad constant is 2; then the first record outside the sizes is 3", with its place from 1
--   Refuses rules r       the table gives the refusal r, by its number and with what it carries
use Rattle.std.specs.Prelude.{List, [], ◌∷◌, ℕ, ◌<◌, take}
use Rattle.demand.specs.declared.Piece.{Piece}
use Rattle.demand.specs.declared.Costs.{Costs}
use Rattle.demand.specs.declared.Refusal.{Refusal}
use Rattle.demand.specs.declared.Refusal.TheVariants.{TooMany, BadCosts, BadRecord}
use Rattle.demand.specs.Sizes.{run_most, SizedCosts, Sized}
use Rattle.demand.specs.Tables.{Rule, ◌if◌carrying◌, Not, Gives, at_each}

unfoldable pub record_table : Costs → ℕ → List Piece → List Rule
record_table c n ps =
    6 if (run_most < n) carrying 0
    ∷ 2 if Not (SizedCosts c) carrying 0
    ∷ at_each (λ k p. 3 if Not (Sized p) carrying k ∷ []) 1 (take n ps)

abbrev pub Refuses : List Rule → Refusal → Type 0
Refuses rules TooMany = Gives rules 6 0
Refuses rules BadCosts = Gives rules 2 0
Refuses rules (BadRecord k) = Gives rules 3 k
