-- `records::records_of` meets its contract: the first records are those of the first pieces.
use Rattle.std.proofs.Common.{◌≡◌, map, take, length}
use Rattle.demand.specs.Sizes.{run_most}
use Rattle.demand.specs.Records.{record_for}
use Rattle.demand.proofs.records.records_of.Given as goal

abbrev pub invariant-loop-place : goal.invariant-loop-place
invariant-loop-place l = (length l.records ≡ run_most) × (take l.place l.records ≡ take l.place (map record_for l.fn.run.pieces))
