-- `runs::lay_records` meets its contract: so far the first records lie there, charged.
use Rattle.std.proofs.Common.{◌≡◌, take}
use Rattle.demand.specs.Records.{pieces_in}
use Rattle.verdicts.specs.Cores.{lay_records}
use Rattle.verdicts.proofs.runs.lay_records.Given as goal

abbrev pub invariant-loop-place : goal.invariant-loop-place
invariant-loop-place l = l.core ≡ lay_records l.initial.core l.costs (take l.place (pieces_in l.records))
