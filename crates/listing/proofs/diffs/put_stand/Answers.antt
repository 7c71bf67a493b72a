-- `diffs::put_stand` meets its contract: its fields, one behind another.
use mathlib.Core.Path.{subst, refl}
use mathlib.Core.List.{List}
use Prim.Native.Nat.{ℕ, ◌+◌, ◌≤◌}
use native.Mathlib.Omega.{arith}
use Rattle.listing.specs.Text.{Wrote}
use Rattle.listing.specs.Listing.{spelling}
use Rattle.listing.proofs.TextLaws.{wrote-both, ended-length}
use Rattle.listing.proofs.DiffTextLaws.{diff-line}
use Rattle.listing.proofs.diffs.put_stand.Goals as goal

pub returns : goal.returns
returns c =
    let s = c.args in
    let word : c.put_bytes-a.result ≤ s.at + 6 = omega (arith, c.put_bytes-a.ensures.place, ended-length 9 s.word.now, c.requires.1) in
    let w = wrote-both c.put_bytes-a.ensures (wrote-both c.put_name-b.ensures.0 (wrote-both c.put_number-c.ensures.0 (wrote-both c.put_kind-d.ensures.0 c.put_all_figures.ensures.0))) in
    let line = diff-line s.word.now (spelling s.name) s.e.core _ s.e.piece refl in (
      subst (λ (l : List ℕ). Wrote s.buf.now s.at l c.put_all_figures.result c.put_all_figures.new.buf) line w,
      omega (arith, word, c.put_name-b.ensures.1, c.put_number-c.ensures.1, c.put_kind-d.ensures.1, c.put_all_figures.ensures.1),
    )
