-- `diffs::put_moved` meets its contract: in the second plan alone, in the first alone, or as it was and as it is now.
use mathlib.Core.Path.{◌≡◌, ◌∙◌, subst}
use mathlib.Core.List.{List}
use Prim.Native.Nat.{ℕ}
use native.Mathlib.Omega.{arith}
use lib.Dec.{eqb}
use lib.ListN.{length}
use Rattle.listing.specs.Text.{Wrote}
use Rattle.listing.specs.Listing.{spelling}
use Rattle.listing.specs.Diff.{of_item}
use Rattle.listing.specs.Ways.RankArrays.{placed}
use Rattle.listing.proofs.TextLaws.{wrote-both}
use Rattle.listing.proofs.DiffTextLaws.{of-few, block-both}
use borrow.Author.Rules.{rules}
use Rattle.listing.proofs.diffs.put_moved.Goals as goal

pub put_stands-requires-2 : goal.put_stands-requires-2
put_stands-requires-2 c =
    let s = c.args in
    (omega (arith, c.put_stands-k.ensures.1, of-few s.rank s.stands.now, c.requires.0), search rules, c.requires.2)

pub returns : goal.returns
returns c =
    let s = c.args in
    let l = placed s.stands.now in
    let k = placed s.others.now in
    let some : length (of_item eqb s.rank l) ≡ 0 → ⊥ = (λ e. c.if-of_rank-eq0.false (c.of_rank.ensures ∙ e)) in
    let more : length (of_item eqb s.rank k) ≡ 0 → ⊥ = (λ e. c.if-of_rank-eq0-2.false (c.of_rank-2.ensures ∙ e)) in (
      subst (λ (t : List ℕ). Wrote s.buf.now s.at t c.put_stands-2.result c.put_stands-2.new.buf)
          (block-both (spelling s.name) s.rank l k some more) (wrote-both c.put_stands-k.ensures.0 c.put_stands-2.ensures.0),
      omega (arith, c.put_stands-k.ensures.1, c.put_stands-2.ensures.1),
    )
