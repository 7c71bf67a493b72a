-- `put_piece` meets its contract: its fields, one behind another.
use mathlib.Core.Path.{subst, refl}
use mathlib.Core.List.{List}
use Prim.Native.Nat.{ℕ}
use native.Mathlib.Omega.{arith}
use Rattle.listing.specs.Text.{Wrote}
use Rattle.listing.specs.Listing.{spelling}
use Rattle.listing.proofs.TextLaws.{wrote-both}
use Rattle.listing.proofs.EntryLaws.{piece-line}
use Rattle.listing.proofs.put_piece.Goals as goal

pub returns : goal.returns
returns c =
    let s = c.args in
    let w = wrote-both c.put_bytes-a.ensures (wrote-both c.put_number-b.ensures.0 (wrote-both c.put_name-c.ensures.0 (wrote-both c.put_kind-d.ensures.0 c.put_figures.ensures.0))) in
    let e =
    piece-line s.costs s.core (spelling s.name) s.stored _ c.stored_piece-piece.result c.charged_time-charged.result
    refl c.stored_piece-piece.ensures.exact c.charged_time-charged.ensures.exact in (
      subst (λ (l : List ℕ). Wrote s.buf.now s.at l c.put_figures.result c.put_figures.new.buf) e w,
      omega (arith, c.put_bytes-a.ensures.place, c.put_number-b.ensures.1, c.put_name-c.ensures.1, c.put_kind-d.ensures.1, c.put_figures.ensures.1),
    )
