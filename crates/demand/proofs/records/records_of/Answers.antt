-- `records::records_of` meets its contract: the first records are those of the first pieces.
use borrow.Author.Rules.{rules}
use mathlib.Core.Path.{◌≡◌, sym, ◌∙◌}
use mathlib.Core.List.{map}
use native.Mathlib.Omega.{arith}
use lib.ListN.{length, length-map}
use lib.Seq.{take_all}
use lib.ListN.{length-set}
use Rattle.demand.specs.Records.{outside, record_for}
use Rattle.demand.specs.Sizes.{run_most}
use Rattle.demand.proofs.RunLaws.{length-mapped}
use Rattle.demand.proofs.RecordLaws.{record-next}
use Rattle.demand.proofs.records.records_of.Goals as goal

pub loop-place-preserved : goal.loop-place-preserved
loop-place-preserved c =
    let ps = c.args.run.pieces in
    let l = c.loop-place in
    let many : length ps ≡ run_most = search (rules, length-mapped) in (
      length-set l.records l.place c.from.result ∙ l.invariant.0,
      record-next l.records ps l.place c.from.result outside (l.invariant.0 ∙ sym many) (omega (arith, many, c.loop-place-test.true)) l.invariant.1 c.from.ensures,
    )

pub returns : goal.returns
returns c = record {
  exact =
      let ps = c.args.run.pieces in
      let l = c.loop-place in
      let many : length ps ≡ run_most = search (rules, length-mapped) in
      let some : length (map record_for ps) ≡ run_most = length-map ps record_for ∙ many in
      sym (take_all l.place l.records (omega (arith, l.invariant.0, c.loop-place-test.false))) ∙ l.invariant.1 ∙ take_all l.place (map record_for ps) (omega (arith, some, c.loop-place-test.false));
}
