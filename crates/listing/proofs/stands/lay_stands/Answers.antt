-- `lay_stands` meets its contract: core by core and place by place, what is there so far is laid.
use mathlib.Core.Path.{◌∙◌}
use mathlib.Core.List.{map}
use Prim.Native.Nat.{◌<◌}
use native.Mathlib.Omega.{arith}
use lib.ListN.{length, length-set}
use Rattle.listing.specs.Diff.{seats_on}
use Rattle.listing.specs.Ways.RankArrays.{ranked_by}
use Rattle.listing.proofs.EntryLaws.{row-few}
use Rattle.listing.proofs.RankLaws.{stand-more, stands-over}
use Rattle.listing.proofs.stands.lay_stands.Goals as goal

pub bounds-stands-n : goal.bounds-stands-n
bounds-stands-n c = omega (arith, row-few c.args.layout c.loop-core.core _ c.row_of-number-items.ensures)

pub offset_bounds-stands-n : goal.offset_bounds-stands-n
offset_bounds-stands-n c = record { fits = omega (arith, row-few c.args.layout c.loop-core.core _ c.row_of-number-items.ensures) }

pub loop-number-preserved : goal.loop-number-preserved
loop-number-preserved c =
    let s = c.args in
    let l = c.loop-number in
    let room : l.n < length l.stands = omega (arith, row-few s.layout c.loop-core.core _ c.row_of-number-items.ensures) in (
      omega arith,
      length-set l.stands l.n _ ∙ l.invariant.1,
      stand-more s.layout c.loop-core.core _ c.row_of-number-items.ensures s.ranks.now (map (ranked_by s.ranks.now) (seats_on s.layout c.loop-core.core)) l.stands l.n
          l.number-index _ _ room c.loop-number-test.true l.invariant.2 c.numbered-stored.ensures (cc (c.rank_in.ensures, c.stored_piece.ensures.exact)),
    )

pub loop-core-preserved : goal.loop-core-preserved
loop-core-preserved c =
    let s = c.args in
    let l = c.loop-number in (
      omega (arith, row-few s.layout c.loop-core.core _ c.row_of-number-items.ensures),
      l.invariant.1,
      l.invariant.2 ∙ stands-over s.layout c.loop-core.core _ c.row_of-number-items.ensures s.ranks.now l.number-index c.loop-number-test.false,
    )
