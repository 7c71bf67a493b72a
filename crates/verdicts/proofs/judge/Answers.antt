-- `judge` meets its contract: the run's records, lent.
use borrow.Author.Rules.{rules}
use mathlib.Core.Path.{◌≡◌, ap, ◌∙◌}
use mathlib.Core.List.{List, map}
use native.Mathlib.Omega.{arith}
use Prim.Native.Nat.{ℕ}
use Rattle.std.proofs.lemmas.List.{length-map, length-take-le, take-map, take-take}
use Rattle.std.specs.Prelude.{length, take}
use Rattle.demand.specs.declared.Costs.{Costs}
use Rattle.demand.specs.declared.Piece.{Piece}
use Rattle.demand.specs.Answer.{answer_of, check_run}
use Rattle.demand.specs.Records.{piece_in, pieces_in, record_for}
use Rattle.demand.specs.Sizes.{run_most}
use Rattle.demand.proofs.RecordLaws.{pieces-back}
use Rattle.demand.proofs.RunLaws.{check-many, length-mapped}
use Rattle.verdicts.proofs.judge.Goals as goal

pub returns-then-run-gt-RUN_MOST : goal.returns-then-run-gt-RUN_MOST
unfolding answer_of
returns-then-run-gt-RUN_MOST c = record { exact = rw (check-many c.args.costs c.args.run.count c.args.run.pieces c.if-run-gt-RUN_MOST.true) }

-- an answer looks at the first n pieces alone
by-first : (c : Costs) (n : ℕ) (ps : List Piece) → answer_of c n (take n ps) ≡ answer_of c n ps
unfolding answer_of check_run
by-first c n ps = rw (take-take n n ps (omega arith))

pub returns : goal.returns
returns c = record {
  exact =
      let s = c.args in
      let n = s.run.count in
      let ps = s.run.pieces in
      let long : length ps ≡ run_most = search (rules, length-mapped) in
      let records = c.records_of-records.result in
      let back : pieces_in (take n records) ≡ take n ps = rw (c.records_of-records.ensures.exact, ← take-map piece_in n (map record_for ps)) (ap (take n) (pieces-back ps)) in
      let all : length records ≡ run_most = rw c.records_of-records.ensures.exact (length-map ps record_for ∙ long) in
      let many = length-take-le n records (omega (arith, all, c.if-run-gt-RUN_MOST.false)) in
      c.judge_records.ensures.exact ∙ rw (many, back) (by-first s.costs n ps);
}
