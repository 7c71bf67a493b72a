-- `put_plan` meets its contract: behind the header, core by core and place by place, the entries so far are written.
use mathlib.Core.Path.{◌≡◌, ap, subst}
use mathlib.Core.List.{List}
use Prim.Native.Nat.{ℕ}
use native.Mathlib.Omega.{arith}
use borrow.Author.Rules.{rules}
use lib.ListN.{length}
use Rattle.demand.proofs.RunLaws.{length-mapped}
use Rattle.listing.specs.Text.{Wrote}
use Rattle.listing.specs.Listing.{listing_of, header, plan_with, entries_on, entry_lines, listed_on}
use Rattle.listing.proofs.TextLaws.{wrote-both}
use Rattle.listing.proofs.EntryLaws.{row-few, row-long, seat-more, row-over, listed-more, listed-few}
use Rattle.listing.proofs.put_plan.Goals as goal

pub put_piece-k-requires : goal.put_piece-k-requires
put_piece-k-requires c =
    let s = c.args in (
      omega (arith, listed-few s.layout.lens c.loop-core.core, row-few s.layout c.loop-core.core _ c.row_of-number-items.ensures),
      c.loop-core-test.true,
    )

pub loop-number-preserved : goal.loop-number-preserved
loop-number-preserved c =
    let s = c.args in
    let p = plan_with s.costs s.tasks s.layout in
    let l = c.loop-number in (
      omega (arith, c.put_piece-k.ensures.1),
      subst (λ (t : List ℕ). Wrote c.loop-core.buf c.loop-core.k t c.put_piece-k.result c.put_piece-k.new.buf)
          (seat-more p c.loop-core.core _ c.row_of-number-items.ensures l.number-index _ _ c.loop-number-test.true c.numbered-stored.ensures c.task_in.ensures.0)
          (wrote-both l.invariant.1 c.put_piece-k.ensures.0),
    )

pub loop-core-preserved : goal.loop-core-preserved
loop-core-preserved c =
    let rows-long : length c.args.layout.rows ≡ 1024 = search (rules, length-mapped) in
    let s = c.args in
    let p = plan_with s.costs s.tasks s.layout in
    let q = c.loop-core.core in
    let row = c.row_of-number-items.ensures in (
      omega (arith, listed-more s.layout.lens q, row-long s.layout q rows-long c.loop-core-test.true, ap length row),
      subst (λ (t : List ℕ). Wrote c.put_header-k.new.buf c.put_header-k.result t c.loop-number.k c.loop-number.buf)
          (row-over p q _ row c.loop-number.number-index c.loop-number-test.false) (wrote-both c.loop-core.invariant.1 c.loop-number.invariant.1),
    )

pub returns : goal.returns
unfolding listing_of header
returns c =
    let s = c.args in
    let p = plan_with s.costs s.tasks s.layout in
    let l = c.loop-core in
    let all : l.core ≡ 16 = omega arith in
    let rows : Wrote c.put_header-k.new.buf c.put_header-k.result (entry_lines (entries_on p 16)) l.k l.buf = rw all at l.invariant.1 in
    (wrote-both c.put_header-k.ensures.0 rows, omega (arith, ap (listed_on s.layout.lens) all))
