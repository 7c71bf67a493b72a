-- `shows::show_core` meets its contract: no pieces, no busy length, or what the span shows.
use mathlib.Core.Path.{◌≡◌}
use Rattle.std.proofs.lemmas.List.{nil_from_length}
use Rattle.std.proofs.lemmas.Bool.Decides.{nat_tests}
use mathlib.Core.Path.{sym, ◌∙◌}
use Prim.Native.Nat.{◌≤◌}
use native.Mathlib.Omega.{arith}
use lib.ListN.{length}
use Rattle.demand.specs.Busy.{busy_sum}
use Rattle.demand.proofs.WhyLaws.{shown-empty, shown-beyond}
use Rattle.verdicts.proofs.shows.show_core.Goals as goal

pub returns-then-is_empty : goal.returns-then-is_empty
returns-then-is_empty c =
    let none : length c.args.core.now.pieces.now ≡ 0 = grind (arith, nat_tests) in
    rw (nil_from_length c.args.core.now.pieces.now none) (sym (shown-empty c.args.core.now.stall))

pub returns-in-None : goal.returns-in-None
unfolding busy_sum
returns-in-None c =
    let s = c.args in
    let qs = s.core.now.pieces.now in
    let some : 1 ≤ length qs = grind (arith, nat_tests) in
    rw c.sum_at.ensures.0 (sym (shown-beyond s.core.now.stall qs some (sym c.climb_busy.ensures ∙ c.in-None.is)))
