-- How records and costs are written as bytes, to be lent: what `Bytes.antt` reads, the other way round. No contract cites it;
-- `proofs/Agreement.antt` does, to say that both forms of the verdict agree.
--
--   four_bytes n          the four bytes of n, lowest first
--   run_numbers ps        the numbers of all records, seven to a record
--   nine_numbers c        the costs in the sheet's order
--   spell ns             the bytes of the numbers ns
--   Narrow n             n has four bytes
use Rattle.std.specs.Prelude.{List, [], ◌∷◌, ◌++◌, ℕ, ◌/◌, ◌%◌, ◌^◌, ◌<◌}
use Rattle.demand.specs.declared.Piece.{Piece}
use Rattle.demand.specs.declared.Costs.{Costs}
use Rattle.demand.specs.Records.{numbers_of}

abbrev pub four_bytes : ℕ → List ℕ
four_bytes n = n % 256 ∷ n / 256 % 256 ∷ n / 65536 % 256 ∷ n / 16777216 % 256 ∷ []

abbrev pub run_numbers : List Piece → List ℕ
run_numbers [] = []
run_numbers (p ∷ ps) = numbers_of p ++ run_numbers ps

abbrev pub nine_numbers : Costs → List ℕ
nine_numbers c = c.relo ∷ c.schedo ∷ c.tseto ∷ c.ipb ∷ c.beto ∷ c.migro ∷ c.ipio ∷ c.ipij ∷ c.precision ∷ []

abbrev pub spell : List ℕ → List ℕ
spell [] = []
spell (n ∷ ns) = four_bytes n ++ spell ns

abbrev pub Narrow : ℕ → Type 0
Narrow n = n < 2 ^ 32
