-- Laws of probing: the high end is the top, or refused, and what refuses a number refuses each greater one.
-- Assumes nothing.
--
--   shows-le, shows-lt   what a comparison shows
--   shows-none           what a search that finds nothing shows
--   lowered-start        the high end, at the start
--   lowered-next         the high end, where a number below it is refused
--   climbed-none         a climb that finds nothing refuses the budget
--   late-more            no more is held by the top than by less
use Rattle.std.specs.Prelude.{None, Option, Some, not}
use Rattle.std.specs.Option.{is_some}
use mathlib.Core.Path.{◌≡◌, refl, sym, subst}
use mathlib.Core.Bool.{Bool, true, false}
use mathlib.Core.List.{List}
use mathlib.Core.Logic.{◌⊎◌}
use Prim.Native.Nat.{ℕ, ◌+◌, ◌≤◌, ◌<◌}
use native.Mathlib.Omega.{arith}
use borrow.Author.Tests.{leb-true, ltb-true}
use lib.Dec.{leb, ltb}
use Rattle.demand.specs.declared.Charged.{Charged}
use Rattle.verdicts.specs.declared.Sum.TheVariants.{Interrupts}
use Rattle.demand.specs.Busy.{Finds, least_holding}
use Rattle.splits.specs.Ways.MonotoneSearch.{ShowsIf, NoneHolds, Lowered}
use Rattle.verdicts.proofs.CoreLaws.{asked, asked-mono}
use Rattle.demand.proofs.BusyLaws.{least-holding-finds}

pub shows-le : (P : Type 0) (a b : ℕ) → (a ≤ b → P) → ShowsIf P (leb a b)
shows-le P a b step = by (leb a b) refl
  where
    by : (r : Bool) → leb a b ≡ r → ShowsIf P r
    by true e = step (leb-true a b e)
    by false e = tt

pub shows-lt : (P : Type 0) (a b : ℕ) → (a < b → P) → ShowsIf P (ltb a b)
shows-lt P a b step = by (ltb a b) refl
  where
    by : (r : Bool) → ltb a b ≡ r → ShowsIf P r
    by true e = step (ltb-true a b e)
    by false e = tt

pub shows-none : {A : Type 0} (P : Type 0) (found : Option A) (none : Bool) → is_some found ≡ not none → (found ≡ None → P) → ShowsIf P none
shows-none P None true is step = step refl
shows-none P (Some x) true is step = cc
shows-none P found false is step = tt

pub lowered-start : (P : ℕ → Type 0) (top : ℕ) → Lowered P top top
lowered-start P top = record { most = omega arith; some = λ h. h; told = ◌⊎◌.inl refl }

pub lowered-next : (P : ℕ → Type 0) (top m high : ℕ) → 1 ≤ m → m < high → P m → Lowered P top high → Lowered P top m
lowered-next P top m high some below refused old = record { most = omega (arith, old.most); some = λ h. some; told = ◌⊎◌.inr refused }

module _ (qs : List Charged) (base top : ℕ) where
  pub climbed-none : (m : ℕ) → None ≡ least_holding (asked Interrupts (base + m) qs) top → NoneHolds qs base top m
  climbed-none m none =
      subst (λ (r : Option ℕ). Finds (asked Interrupts (base + m) qs) top r) (sym none)
      (least-holding-finds (asked Interrupts (base + m) qs) (asked-mono Interrupts (base + m) qs) top)

  pub late-more : (m z : ℕ) → m ≤ z → NoneHolds qs base top m → NoneHolds qs base top z
  late-more m z more late t within holds = late t within (record { some = holds.some; fits = omega (arith, holds.fits) })
