-- `fields::number_of` meets its contract. The digits that are left decide the form and the value as all of them do, and i digits make less
-- than 10 ^ i, so that seven of them do not wrap.
-- Assumes nothing.
use mathlib.Core.Path.{◌≡◌}
use Prim.Native.Nat.{◌^◌, ◌<◌}
use lib.ListN.{drop}
use Rattle.lines.specs.Lines.{is_digit, every, value_from, value_of}
use Rattle.lines.proofs.fields.number_of.Given as goal

abbrev pub invariant-loop-b : goal.invariant-loop-b
invariant-loop-b l =
    (l.value < 10 ^ l.b-index) × (every is_digit l.f ≡ every is_digit (drop l.b-index l.f)) × (value_of l.f ≡ value_from l.value (drop l.b-index l.f))
