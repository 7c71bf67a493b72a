-- `whys::put_why` meets its contract: behind the first line, place by place, the lines of the pieces before are written; then the last two.
use mathlib.Core.Path.{◌≡◌, sym, ap, subst, ◌∙◌}
use mathlib.Core.List.{List, ◌++◌}
use Prim.Native.Nat.{ℕ, ◌≤◌}
use native.Mathlib.Omega.{arith}
use borrow.Author.Rules.{rules}
use lib.ListN.{length}
use Rattle.listing.specs.Text.{Wrote}
use Rattle.listing.specs.Why.{ask_lines}
use Rattle.listing.specs.Ways.SeatArrays.{titled_at, titled_in, front_of}
use Rattle.listing.proofs.TextLaws.{wrote-both}
use Rattle.listing.proofs.WhyTextLaws.{title-is, asks-more, more-titled, line-is, why-none, why-some}
use Rattle.listing.proofs.whys.put_why.Goals as goal

pub returns-then-is_empty : goal.returns-then-is_empty
returns-then-is_empty c =
    let s = c.args in
    let none : length s.records.now ≡ 0 = search rules in (
      subst (λ (t : List ℕ). Wrote s.buf.now 0 t c.put_head-head.result c.put_head-head.new.buf)
          (ap (λ (t : List ℕ). front_of s.stuck ++ t) (why-none s.costs s.by_name s.tasks.list s.places.now s.records.now s.shown c.requires.1 none))
          (wrote-both c.put_no_room-front.ensures.0 c.put_head-head.ensures.0),
      omega (arith, c.put_no_room-front.ensures.1, c.put_head-head.ensures.1),
    )

pub loop-i-preserved : goal.loop-i-preserved
loop-i-preserved c =
    let s = c.args in
    let now = c.loop-i in
    let title = title-is s.by_name s.tasks.list s.places.now now.i _ c.task_in.ensures.0 in
    let line = line-is s.costs s.records.now c.requires.0 s.shown c.requires.1 now.i c.loop-i-test.true c.piece_in-piece.result c.piece_in-piece.ensures.exact
    c.charged_piece.result c.charged_piece.ensures.exact c.ask_of-asked.result c.ask_of-asked.ensures.exact
    s.by_name s.tasks.list s.places.now _ title in (
      omega (arith, c.put_asking-k.ensures.1),
      subst (λ (t : List ℕ). Wrote c.put_head-head.new.buf c.put_head-head.result t c.put_asking-k.result c.put_asking-k.new.buf)
          (sym (asks-more s.costs s.shown (titled_in s.by_name s.tasks.list s.places.now s.records.now now.i)
          (titled_at s.by_name s.tasks.list s.places.now s.records.now now.i))
          ∙ more-titled s.costs s.shown s.by_name s.tasks.list s.places.now s.records.now now.i)
          (wrote-both now.invariant.1 (subst (λ (t : List ℕ). Wrote now.buf now.k t c.put_asking-k.result c.put_asking-k.new.buf) line c.put_asking-k.ensures.0)),
    )

pub returns : goal.returns
returns c =
    let s = c.args in
    let now = c.loop-i in
    let all : now.i ≡ length s.records.now = omega arith in
    let some : 1 ≤ length s.records.now = search rules in
    let titles = titled_in s.by_name s.tasks.list s.places.now s.records.now (length s.records.now) in
    let lines : Wrote c.put_head-head.new.buf c.put_head-head.result (ask_lines s.costs s.shown titles) now.k now.buf = rw all at now.invariant.1 in (
      subst (λ (t : List ℕ). Wrote s.buf.now 0 t c.put_foot.result c.put_foot.new.buf)
          (ap (λ (t : List ℕ). front_of s.stuck ++ t) (why-some s.costs s.by_name s.tasks.list s.places.now s.records.now s.shown c.requires.1 some))
          (wrote-both c.put_no_room-front.ensures.0 (wrote-both c.put_head-head.ensures.0 (wrote-both lines c.put_foot.ensures.0))),
      omega (arith, c.put_foot.ensures.1, c.requires.0.few),
    )
