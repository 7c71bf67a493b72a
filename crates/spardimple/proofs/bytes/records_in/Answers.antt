-- `bytes::records_in` meets its contract: the first i records are those that the bytes spell.
use mathlib.Core.Path.{◌≡◌, refl, ap, ◌∙◌}
use mathlib.Core.List.{List}
use Prim.Native.Nat.{◌/◌}
use native.Mathlib.Omega.{arith}
use lib.ListN.{length}
use Rattle.demand.specs.declared.Record.{Record}
use Rattle.demand.specs.Records.{pieces_in}
use Rattle.spardimple.proofs.ByteLaws.{pieces-length, lent-pieces}
use Rattle.spardimple.proofs.bytes.records_in.Goals as goal

pub returns-then-count-gt-RUN_MOST : goal.returns-then-count-gt-RUN_MOST
returns-then-count-gt-RUN_MOST c = (refl, omega (arith, pieces-length c.args.s.now, c.if-count-gt-RUN_MOST.true))

pub returns : goal.returns
returns c =
    let s = c.args.s.now in
    let l = c.loop-i in
    let all : l.i ≡ length s / 28 = omega (arith, l.auto.i-end, c.loop-i-test.false) in
    ap (λ (rs : List Record). pieces_in rs) (rw all at l.invariant.1) ∙ lent-pieces s
