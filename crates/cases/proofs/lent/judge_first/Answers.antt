-- `lent::judge_first` meets its contract: what is answered for the first n records alone is what is answered for the first n of all.
use mathlib.Core.Path.{◌≡◌, sym, ap, ◌∙◌}
use mathlib.Core.List.{List}
use Prim.Native.Nat.{ℕ}
use lib.ListN.{length, take}
use lib.Seq.{length-take-le}
use native.Mathlib.Omega.{arith}
use borrow.Author.Rules.{rules}
use Rattle.demand.specs.declared.Piece.{Piece}
use Rattle.demand.specs.declared.Costs.{Costs}
use Rattle.demand.specs.Answer.{answer_of}
use Rattle.spardimple.proofs.HoldingLaws.{holds-answer}
use Rattle.cases.proofs.lent.judge_first.Goals as goal

first-answer : (k : Costs) (n : ℕ) (xs : List Piece) → length (take n xs) ≡ n → answer_of k (length (take n xs)) (take n xs) ≡ answer_of k n xs
first-answer k n xs len = sym (holds-answer (take n xs) k xs (λ _. ap (λ (m : ℕ). take m xs) len)) ∙ ap (λ (m : ℕ). answer_of k m xs) len

pub returns : goal.returns
returns c = record {
  exact =
      let long : length c.args.records ≡ 80 = search rules in
      c.judge_lent.ensures.exact
      ∙ first-answer c.args.costs c.args.n c.args.records (length-take-le c.args.n c.args.records (omega (arith, long, c.requires)));
}
