-- `diffs::put_stands` meets its contract: place by place, the lines of the rank so far are written.
use mathlib.Core.Path.{◌≡◌, subst}
use mathlib.Core.List.{List, ◌++◌, ◌∷◌, []}
use Prim.Native.Nat.{ℕ, ◌+◌, ◌<◌}
use native.Mathlib.Omega.{arith}
use lib.ListN.{take, get_or, length-take}
use Rattle.walks.specs.Way.{Placed}
use Rattle.listing.specs.Text.{Wrote}
use Rattle.listing.specs.Listing.{spelling}
use Rattle.listing.specs.Ways.RankArrays.{seat, placed}
use Rattle.listing.proofs.TextLaws.{wrote-both}
use Rattle.listing.proofs.RankLaws.{nothing, placed-more, placed-each}
use Rattle.listing.proofs.DiffTextLaws.{lines_more, lines_stay, of-more, of-stay, of-few}
use Rattle.listing.proofs.diffs.put_stands.Goals.{then-e-rank, else-e-rank}
use Rattle.listing.proofs.diffs.put_stands.Goals as goal

pub put_stand-k-requires : goal.put_stand-k-requires
put_stand-k-requires c =
    let s = c.args in
    let i = c.loop-e.e-index in (
      omega (arith, of-few s.rank (take i s.stands.now), length-take i s.stands.now),
      c.requires.1,
      placed-each (λ (e : Placed ℕ). e.on < 16) s.stands.now i c.loop-e-test.true c.requires.2,
    )

pub loop-e-preserved : goal.loop-e-preserved
loop-e-preserved c =
    let s = c.args in
    let i = c.loop-e.e-index in
    let l = placed (take i s.stands.now) in
    let e = seat (get_or s.stands.now i nothing) in
    let more : placed (take (i + 1) s.stands.now) ≡ l ++ (e ∷ []) = placed-more s.stands.now i c.loop-e-test.true in
    rw more (elim c.if-e-rank.branch [
      | then-e-rank w ↦ rw (w.k-is, w.buf-is) (
        omega (arith, w.put_stand-k.ensures.1, of-more s.rank l e w.if-e-rank.true),
        subst (λ (t : List ℕ). Wrote s.buf.now s.at t w.put_stand-k.result w.put_stand-k.new.buf)
            (lines_more s.rank l e s.word.now (spelling s.name) w.if-e-rank.true) (wrote-both c.loop-e.invariant.1 w.put_stand-k.ensures.0),
      )
      | else-e-rank w ↦ rw (w.k-is, w.buf-is) (
        omega (arith, of-stay s.rank l e w.if-e-rank.false),
        subst (λ (t : List ℕ). Wrote s.buf.now s.at t c.loop-e.k c.loop-e.buf)
            (lines_stay s.rank l e s.word.now (spelling s.name) w.if-e-rank.false) c.loop-e.invariant.1,
      )
    ])
