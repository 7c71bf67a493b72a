-- `bytes::record_in` meets its contract: seven numbers, each within its record's 28 bytes.
use mathlib.Core.Path.{sym, ◌∙◌}
use Prim.Native.Nat.{◌+◌, ◌*◌}
use native.Mathlib.Omega.{arith}
use Rattle.spardimple.proofs.ByteLaws.{numbers-at}
use Rattle.spardimple.proofs.bytes.record_in.Goals as goal

pub returns : goal.returns
returns c =
    let s = c.args.s.now in
    let at = 7 * c.args.i in
    λ j. record {
      kind = (c.number_at.ensures ∙ sym (numbers-at s at (omega (arith, c.requires)))) j;
      budget = (c.number_at-2.ensures ∙ sym (numbers-at s (at + 1) (omega (arith, c.requires)))) j;
      window = (c.number_at-3.ensures ∙ sym (numbers-at s (at + 2) (omega (arith, c.requires)))) j;
      period = (c.number_at-4.ensures ∙ sym (numbers-at s (at + 3) (omega (arith, c.requires)))) j;
      jitter = (c.number_at-5.ensures ∙ sym (numbers-at s (at + 4) (omega (arith, c.requires)))) j;
      preempt = (c.number_at-6.ensures ∙ sym (numbers-at s (at + 5) (omega (arith, c.requires)))) j;
      migrate = (c.number_at-7.ensures ∙ sym (numbers-at s (at + 6) (omega (arith, c.requires)))) j;
    }
