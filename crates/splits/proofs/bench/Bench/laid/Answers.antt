-- `Bench::laid` meets its contract: the records lie there, charged, and behind them what asks for nothing.
use Rattle.std.proofs.Common.{arith, ◌≡◌, length, take, get_or, ◌<◌, ◌≤◌}
use mathlib.Core.Path.{sym}
use Rattle.std.proofs.lemmas.List.{get_or-replicate, take_all}
use Rattle.demand.specs.Charge.{core_of}
use Rattle.demand.specs.Records.{pieces_in}
use Rattle.demand.specs.Sizes.{run_most}
use Rattle.demand.specs.Ways.Ranges.{Ranged, no_charge}
use Rattle.demand.proofs.ChargeLaws.{all-countable}
use Rattle.demand.proofs.RecordLaws.{pieces-length}
use Rattle.verdicts.proofs.CoreLaws.{lay-records-in}
use Rattle.splits.proofs.BenchLaws.{idle-ranged, ready-laid, laid-behind}
use Rattle.splits.proofs.bench.Bench.laid.Goals as goal

pub invariant_of-result : goal.invariant_of-result
invariant_of-result c =
    let s = c.args in
    let rs = s.records.now in
    let ps = pieces_in rs in
    let many = pieces-length rs in
    let room : length ps < run_most = omega (arith, many, c.requires.room) in
    let few : length ps ≤ run_most = omega (arith, room) in
    let laid = rw (take_all run_most ps few) at c.lay_records.ensures.exact in
    let front : take (length rs) c.lay_records.new.core ≡ core_of s.costs ps = rw laid (lay-records-in _ s.costs c.requires.sized_costs ps (all-countable ps c.requires.each) (length rs) (sym many)) in
    let behind : Ranged (get_or c.lay_records.new.core (length rs) no_charge) =
    rw (laid, ← many, laid-behind _ s.costs ps no_charge, get_or-replicate run_most (length ps) _ no_charge room) (idle-ranged c.no_charge.result c.no_charge.ensures.exact) in
    (c.requires.room, rw front (ready-laid s.costs ps c.requires.sized_costs room c.requires.each), behind)

pub returns : goal.returns
returns c =
    let s = c.args in
    let rs = s.records.now in
    let ps = pieces_in rs in
    let many = pieces-length rs in
    let few : length ps ≤ run_most = omega (arith, many, c.requires.room) in
    let laid = rw (take_all run_most ps few) at c.lay_records.ensures.exact in
    rw laid (lay-records-in _ s.costs c.requires.sized_costs ps (all-countable ps c.requires.each) (length rs) (sym many))
