-- `why_plan` meets its contract: no such core; else the core's row, or the last core's with the whole task behind it, is laid out and written.
use mathlib.Core.Path.{◌≡◌, refl, ap, ◌∙◌}
use mathlib.Core.List.{List, [], ◌∷◌, ◌++◌}
use Prim.Native.Nat.{ℕ, suc, ◌+◌, ◌-◌}
use native.Mathlib.Omega.{arith}
use lib.ListN.{length}
use Rattle.demand.specs.declared.Piece.{Piece}
use Rattle.task.specs.Tasks.{whole_piece}
use Rattle.walks.specs.Way.{Placed}
use Rattle.plan.specs.Walk.{whole_at}
use Rattle.listing.specs.Papers.{Paper, note_of, left}
use Rattle.listing.specs.Why.{no_room_line, row_seats}
use Rattle.listing.proofs.WhyPlacedLaws.{asked-outside}
use Rattle.listing.proofs.WhyPaperLaws.{row-asked, stuck-asked}
use Rattle.listing.proofs.why_plan.Goals as goal

pub returns-then-core-eq0 : goal.returns-then-core-eq0
returns-then-core-eq0 c = record {
  exact =
      let s = c.args in
      let e = asked-outside s.plan s.stuck s.core (λ some within. omega (arith, c.then-core-eq0.either)) in
      rw e (refl, refl, omega arith, omega arith);
}

pub returns-then-stuck-eq0 : goal.returns-then-stuck-eq0
returns-then-stuck-eq0 c = record {
  exact =
      let s = c.args in
      let old = s.buf.now in
      let laid = c.lay_seats-n.ensures in
      let same = row-asked s.plan s.stuck s.core (omega (arith, c.if-core-eq0.false)) (omega (arith, c.if-cores-core.false)) _ c.lay_seats-n.result
      c.lay_seats-n.new.places c.lay_seats-n.new.records c.if-stuck-eq0.true
      refl (omega (arith, laid.1)) laid.0 in (
        c.write_why.ensures.value.0 ∙ ap (λ (p : Paper). note_of p (length old)) same,
        c.write_why.ensures.value.1
            ∙ ap (λ (p : Paper). left p old) same,
        c.write_why.ensures.number_bound.0,
        c.write_why.ensures.number_bound.1,
      );
}

pub returns : goal.returns
returns c = record {
  exact =
      let s = c.args in
      let old = s.buf.now in
      let laid = c.lay_seats-n-2.ensures in
      let seat = c.lay_seat.ensures in
      let k = s.stuck - 1 in
      let ts = s.plan.tasks.list in
      let q = s.plan.machine.cores - 1 in
      let is : s.stuck ≡ suc k = omega (arith, c.if-stuck-eq0.false) in
      let whole : c.whole_piece.result ≡ whole_at ts k = c.whole_piece.ensures.exact ∙ ap whole_piece c.task_in-task.ensures.1 in
      let front = ap (λ (n : List ℕ). no_room_line s.stuck n s.plan.machine.cores) c.task_in-task.ensures.0 in
      let seats = seat.seats q
      ∙ (ap (λ (es : List (Placed ℕ)). es ++ (record { on = q; item = k; piece = c.whole_piece.result } ∷ [])) laid.0
      ∙ ap (λ (x : Piece). row_seats s.plan.layout q ++ (record { on = q; item = k; piece = x } ∷ [])) whole) in
      let same = stuck-asked s.plan s.stuck s.core (omega (arith, c.if-core-eq0.false)) (omega (arith, c.if-cores-core.false))
      _ (c.lay_seats-n-2.result + 1) c.lay_seat.new.places c.lay_seat.new.records k is front (omega (arith, laid.1)) seats in (
        c.write_why-2.ensures.value.0 ∙ ap (λ (p : Paper). note_of p (length old)) same,
        c.write_why-2.ensures.value.1
            ∙ ap (λ (p : Paper). left p old) same,
        c.write_why-2.ensures.number_bound.0,
        c.write_why-2.ensures.number_bound.1,
      );
}
