-- `lengths::tight_of` meets its contract: the climb is `tight_window`'s, and what it finds is at most the window.
use Rattle.std.proofs.Common.{rules, None}
use Rattle.std.specs.Prelude.{Option}
use mathlib.Core.Path.{◌≡◌, sym, ap, ◌∙◌}
use Prim.Native.Nat.{ℕ, ◌+◌, ◌-◌}
use native.Mathlib.Omega.{arith}
use lib.ListN.{length, get_or}
use Rattle.demand.specs.Ways.Ranges.{Ranged, no_charge}
use Rattle.demand.specs.Busy.{later}
use Rattle.demand.proofs.BusyLaws.{found_within}
use Rattle.verdicts.specs.declared.Sum.TheVariants.{Interrupts}
use Rattle.verdicts.proofs.CoreLaws.{each-piece, tight-found, asked, asked-mono}
use Rattle.verdicts.proofs.lengths.tight_of.Goals as goal

pub overflow_add-result : goal.overflow_add-result
overflow_add-result c =
    let qs = c.core.inside.pieces.now in
    let last : c.in_ok-q.q.now ≡ get_or qs (length qs - 1) no_charge = c.in_ok-q.ensures.item.3.1 no_charge in
    let ok : Ranged c.in_ok-q.q.now = rw last (each-piece qs (length qs - 1) no_charge (omega (arith, c.in_ok-q.ensures.item.3.0)) Ranged c.core.invariant.1) in
    let base = c.args.b + c.in_ok-q.q.now.charge in
    omega (
      arith,
      found_within (asked Interrupts base c.args.core.now) (asked-mono Interrupts base c.args.core.now) c.saturating_sub-room.result c.in_ok-wait.wait
          (sym c.climb.ensures ∙ c.in_ok-wait.was),
    )

pub returns-in_err-wait : goal.returns-in_err-wait
returns-in_err-wait c =
    let qs = c.core.inside.pieces.now in
    let q = c.in_ok-q.q.now in
    let last : q ≡ get_or qs (length qs - 1) no_charge = c.in_ok-q.ensures.item.3.1 no_charge in
    let found = rw (← c.core.view_is) at c.climb.ensures in
    let same : c.from_residual-in_err-wait.result ≡ None = search rules in
    same ∙ (ap (λ (r : Option ℕ). later q.jitter r) (sym c.in_err-wait.was)
    ∙ rw (← c.core.view_is) (tight-found c.args.b qs no_charge c.in_ok-q.ensures.item.3.0 q last c.saturating_sub-room.result c.saturating_sub-room.ensures c.climb.result found))

pub returns : goal.returns
returns c =
    let qs = c.core.inside.pieces.now in
    let q = c.in_ok-q.q.now in
    let last : q ≡ get_or qs (length qs - 1) no_charge = c.in_ok-q.ensures.item.3.1 no_charge in
    let found = rw (← c.core.view_is) at c.climb.ensures in
    ap (λ (r : Option ℕ). later q.jitter r) (sym c.in_ok-wait.was)
    ∙ rw (← c.core.view_is) (tight-found c.args.b qs no_charge c.in_ok-q.ensures.item.3.0 q last c.saturating_sub-room.result c.saturating_sub-room.ensures c.climb.result found)
