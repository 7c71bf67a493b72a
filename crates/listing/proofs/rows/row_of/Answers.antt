-- `rows::row_of` meets its contract: as many as are listed are as many as the row has.
use mathlib.Core.Path.{◌≡◌, sym, ap, ◌∙◌}
use Prim.Native.Nat.{◌+◌, ◌*◌, ◌-◌, min}
use native.Mathlib.Omega.{arith}
use borrow.Author.Rules.{rules}
use lib.ListN.{length, take, drop, get_or, length-take, length-drop}
use Rattle.std.proofs.lemmas.List.{take_min}
use Rattle.demand.proofs.RunLaws.{length-mapped}
use Rattle.listing.proofs.rows.row_of.Goals as goal

pub returns : goal.returns
returns c =
    let s = c.args in
    let n = get_or s.layout.now.lens s.core 0 in
    let row = take 64 (drop (s.core * 64) s.layout.now.rows) in
    let wide : s.core * 64 + 64 - s.core * 64 ≡ 64 = omega arith in
    let rows-long : length s.layout.now.rows ≡ 1024 = search (rules, length-mapped) in
    let long : length row ≡ 64 = simp (length-take, length-drop) (omega arith) in
    let few : c.min.result ≡ min n (length row) = c.min.ensures ∙ ap (min n) (sym long) in
    rw (wide, few) (take_min n row)
