-- Piece records and costs as lent bytes: document 01, "Verdict on a core". A number has four bytes, lowest first; seven numbers are a record, as
-- `demand/specs/Records.antt` has it, and there are nine costs. The laws are in `proofs/ByteLaws.antt`.
--
--   number_at s k         the number at place k of s, whose four bytes start at 4 · k
--   numbers_spelt s       the numbers that s spells
--   pieces_of s           the records that these numbers spell
--   costs_spelt s         the costs that its first nine numbers are, in the sheet's order
use Rattle.std.specs.Prelude.{List, ℕ, ◌+◌, ◌*◌, ◌/◌, length, get_or}
use Rattle.demand.specs.declared.Piece.{Piece}
use Rattle.demand.specs.declared.Costs.{Costs}
use Rattle.demand.specs.Lists.{firsts}
use Rattle.demand.specs.Records.{record_at}
use Rattle.lines.specs.Forms.{costs_of}

abbrev pub number_at : List ℕ → ℕ → ℕ
number_at s k = get_or s (4 * k) 0 + 256 * get_or s (4 * k + 1) 0 + 65536 * get_or s (4 * k + 2) 0 + 16777216 * get_or s (4 * k + 3) 0

unfoldable pub numbers_spelt : List ℕ → List ℕ
numbers_spelt s = firsts (number_at s) (length s / 4)

unfoldable pub pieces_of : List ℕ → List Piece
pieces_of s = firsts (record_at (numbers_spelt s)) (length s / 28)

unfoldable pub costs_spelt : List ℕ → Costs
costs_spelt s = costs_of (firsts (number_at s) 9)
