-- `diffs::put_diff` meets its contract: behind the first line, rank by rank, the lines of the ranks before are written.
use mathlib.Core.Path.{◌≡◌, sym, ◌∙◌, subst}
use mathlib.Core.List.{List}
use Prim.Native.Nat.{ℕ}
use native.Mathlib.Omega.{arith}
use Rattle.listing.specs.Text.{Wrote}
use Rattle.listing.specs.Listing.{spelling}
use Rattle.listing.specs.Ways.RankArrays.{placed, ranked_name, rank_blocks}
use Rattle.listing.proofs.TextLaws.{wrote-both}
use Rattle.listing.proofs.DiffTextLaws.{blocks-alike, blocks_more, lesser-more, lesser-few}
use Rattle.listing.proofs.diffs.put_diff.Goals.{then-not-alike, else-not-alike}
use Rattle.listing.proofs.diffs.put_diff.Goals as goal

pub put_moved-k-requires : goal.put_moved-k-requires
put_moved-k-requires c =
    let s = c.args in (
      omega (arith, lesser-few c.loop-rank.rank s.stands.now, lesser-few c.loop-rank.rank s.rest.now, c.requires.0, c.requires.1),
      c.requires.2,
      c.requires.3,
    )

pub loop-rank-preserved : goal.loop-rank-preserved
loop-rank-preserved c =
    let s = c.args in
    let l = placed s.stands.now in
    let k = placed s.rest.now in
    let name : ℕ → List ℕ = (λ r. ranked_name r s.ranks.now s.tasks.list s.others.now s.more.list) in
    let at = c.loop-rank in
    elim c.if-not-alike.branch [
      | then-not-alike w ↦ rw (w.k-is, w.buf-is) (
        omega (arith, w.put_moved-k.ensures.1, lesser-more at.rank l, lesser-more at.rank k),
        subst (λ (t : List ℕ). Wrote c.put_diff_head-k.new.buf c.put_diff_head-k.result t w.put_moved-k.result w.put_moved-k.new.buf)
            (blocks_more name l k at.rank (sym c.alike.ensures ∙ w.if-not-alike.true) (spelling w.name_with-name.result) w.name_with-name.ensures)
            (wrote-both at.invariant.1 w.put_moved-k.ensures.0),
      )
      | else-not-alike w ↦ rw (w.k-is, w.buf-is) (
        omega (arith, lesser-more at.rank l, lesser-more at.rank k),
        subst (λ (t : List ℕ). Wrote c.put_diff_head-k.new.buf c.put_diff_head-k.result t at.k at.buf)
            (blocks-alike name l k at.rank (sym c.alike.ensures ∙ w.if-not-alike.false)) at.invariant.1,
      )
    ]

pub returns : goal.returns
returns c =
    let s = c.args in
    let l = placed s.stands.now in
    let k = placed s.rest.now in
    let name : ℕ → List ℕ = (λ r. ranked_name r s.ranks.now s.tasks.list s.others.now s.more.list) in
    let at = c.loop-rank in
    let all : at.rank ≡ 129 = omega arith in
    let blocks : Wrote c.put_diff_head-k.new.buf c.put_diff_head-k.result (rank_blocks name l k 129) at.k at.buf = rw all at at.invariant.1 in
    (wrote-both c.put_diff_head-k.ensures.0 blocks, omega (arith, lesser-few at.rank s.stands.now, lesser-few at.rank s.rest.now))
