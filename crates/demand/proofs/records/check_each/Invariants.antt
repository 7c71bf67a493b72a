-- `records::check_each` meets its contract: what is left to look at has the same first bad place.
use Rattle.std.proofs.Common.{◌≡◌, ◌+◌, drop}
use Rattle.demand.specs.Answer.{first_bad}
use Rattle.demand.specs.Records.{pieces_in}
use Rattle.demand.proofs.records.check_each.Given as goal

abbrev pub invariant-loop-place : goal.invariant-loop-place
invariant-loop-place l = first_bad 1 (pieces_in l.records) ≡ first_bad (l.place + 1) (drop l.place (pieces_in l.records))
