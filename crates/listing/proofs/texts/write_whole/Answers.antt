-- `texts::write_whole` meets its contract: at once where the buffer has room for any text; else counted over none of the buffer, and written where the buffer is long enough.
use mathlib.Core.Path.{◌≡◌, sym, ap, ◌∙◌}
use mathlib.Core.List.{◌++◌}
use Prim.Native.Nat.{◌≤◌, ◌<◌}
use native.Mathlib.Nat.{zero-add}
use native.Mathlib.Omega.{arith}
use lib.ListN.{length}
use Rattle.listing.proofs.TextLaws.{first-pass, second-pass, over-short, over-whole}
use Rattle.listing.proofs.texts.write_whole.Goals as goal

pub returns-then-most-buf : goal.returns-then-most-buf
returns-then-most-buf g c text writes =
    let w = writes _ _ _ c.put.ensures in
    let all : c.put.result ≡ length text = w.0.place ∙ rw zero-add in
    let fits : length text ≤ length c.args.buf.now = omega (arith, all, w.1, c.if-most-buf.true) in
    (all, over-whole text c.args.buf.now c.put.new.arg2 c.put.result w.0 fits, w.1)

pub returns-then-buf-n : goal.returns-then-buf-n
returns-then-buf-n g c text writes =
    let old = c.args.buf.now in
    let w = writes _ _ _ c.put-n.ensures in
    let all : c.put-n.result ≡ length text = w.0.place ∙ rw zero-add in
    let same = first-pass text c.put-n.new.arg2 old c.put-n.result w.0 in
    let short : length old < length text = omega (arith, all, c.if-buf-n.true, ap length same) in
    (all, same ∙ sym (over-short text old short), w.1)

pub returns : goal.returns
returns g c text writes =
    let old = c.args.buf.now in
    let w = writes _ _ _ c.put-n.ensures in
    let v = writes _ _ _ c.put-2.ensures in
    let all : c.put-n.result ≡ length text = w.0.place ∙ rw zero-add in
    let fits : length text ≤ length (c.put-n.new.arg2 ++ old) = omega (arith, all, c.if-buf-n.false) in
    (v.0.place ∙ rw zero-add, second-pass text c.put-n.new.arg2 old c.put-2.new.arg2 c.put-n.result c.put-2.result w.0 v.0 fits, v.1)
