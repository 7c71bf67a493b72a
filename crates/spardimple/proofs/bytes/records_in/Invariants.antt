-- `bytes::records_in` meets its contract: the first i records are those that the bytes spell.
use Rattle.std.proofs.Common.{◌≡◌, take, length}
use Rattle.demand.specs.Lists.{firsts}
use Rattle.demand.specs.Records.{record_spelt}
use Rattle.demand.specs.Sizes.{run_most}
use Rattle.spardimple.specs.Bytes.{numbers_spelt}
use Rattle.spardimple.proofs.bytes.records_in.Given as goal

abbrev pub invariant-loop-i : goal.invariant-loop-i
invariant-loop-i l = (length l.room ≡ run_most) × (take l.i l.room ≡ firsts (record_spelt (numbers_spelt l.s)) l.i)
