-- `texts::put_number` meets its contract: the digits stand in the array from its end on.
use mathlib.Core.Path.{subst}
use mathlib.Core.List.{List}
use Prim.Native.Nat.{ℕ}
use native.Mathlib.Omega.{arith}
use Rattle.listing.specs.Text.{Wrote, ended_by, decimal}
use Rattle.listing.proofs.TextLaws.{left_step, digits-whole, ended-length, decimal-few}
use Rattle.listing.proofs.texts.put_number.Goals as goal

pub loop-m-preserved : goal.loop-m-preserved
loop-m-preserved c =
    let l = c.loop-m in
    let start = c.args in
    rw c.digit.ensures (left_step start.n l.d l.i l.m l.invariant (omega arith))

pub returns : goal.returns
returns c =
    let l = c.loop-m in
    let a = c.args in
    let e = digits-whole a.n l.d l.i l.m l.invariant (omega arith) c.digit-2.result c.digit-2.ensures in
    let w : Wrote a.buf.now a.at (ended_by a.end (decimal a.n)) c.put_bytes.result c.put_bytes.new.buf =
    subst (λ (ds : List ℕ). Wrote a.buf.now a.at (ended_by a.end ds) c.put_bytes.result c.put_bytes.new.buf) e c.put_bytes.ensures in
    (w, omega (arith, w.place, decimal-few a.n, ended-length a.end (decimal a.n)))
