-- `spans::judge_core` meets its contract: no pieces, no busy length, or what the span says.
use mathlib.Core.Path.{◌≡◌}
use Rattle.std.proofs.lemmas.List.{nil_from_length}
use Rattle.std.proofs.lemmas.Bool.Decides.{nat_tests}
use Rattle.std.specs.Prelude.{Option}
use mathlib.Core.Path.{sym, ap, ◌∙◌}
use Prim.Native.Nat.{ℕ, ◌≤◌}
use native.Mathlib.Omega.{arith}
use lib.ListN.{length}
use Rattle.demand.specs.Demand.{least_live}
use Rattle.demand.specs.Verdict.{over_span, scan}
use Rattle.demand.proofs.BusyLaws.{busy-length-within}
use Rattle.demand.proofs.VerdictLaws.{verdict-span, verdict-empty}
use Rattle.verdicts.proofs.spans.judge_core.Goals as goal

pub returns-then-is_empty : goal.returns-then-is_empty
returns-then-is_empty c =
    let none : length c.args.core.now.pieces.now ≡ 0 = grind (arith, nat_tests) in
    rw (nil_from_length c.args.core.now.pieces.now none) (sym (verdict-empty c.args.core.now.stall))

pub descend-requires : goal.descend-requires
descend-requires c =
    let s = c.args in
    let qs = s.core.now.pieces.now in
    (omega (arith, c.least_live-a.ensures.1), busy-length-within qs c.in-Some.l (sym c.climb_busy.ensures ∙ c.in-Some.is))

pub returns-in-None : goal.returns-in-None
returns-in-None c =
    let s = c.args in
    let qs = s.core.now.pieces.now in
    let some : 1 ≤ length qs = grind (arith, nat_tests) in
    sym (verdict-span s.core.now.stall qs some
    ∙ ap (λ (r : Option ℕ). over_span s.core.now.stall qs (least_live qs) r) (sym c.climb_busy.ensures ∙ c.in-None.is))

pub returns-in-Some : goal.returns-in-Some
returns-in-Some c =
    let s = c.args in
    let qs = s.core.now.pieces.now in
    let some : 1 ≤ length qs = grind (arith, nat_tests) in
    c.descend.ensures
    ∙ (ap (λ (a : ℕ). scan s.core.now.stall qs a c.in-Some.l) c.least_live-a.ensures.0
    ∙ sym (verdict-span s.core.now.stall qs some ∙ ap (λ (r : Option ℕ). over_span s.core.now.stall qs (least_live qs) r) (sym c.climb_busy.ensures ∙ c.in-Some.is)))
