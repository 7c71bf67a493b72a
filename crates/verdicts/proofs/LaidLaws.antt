-- Laws of a core that is laid out, and of what is asked of it.
-- Assumes nothing.
--
--   laid-held, laid-none      what the pieces are: a core, or none
--   least-live-fits           the least live length of a core
--   sum-most                  no sum wraps
use Rattle.std.specs.Prelude.{None}
use mathlib.Core.Path.{◌≡◌, sym}
use mathlib.Core.Bool.{Bool, true, false, ◌&&◌}
use mathlib.Core.List.{List, [], ◌∷◌}
use Prim.Native.Nat.{ℕ, ◌+◌, ◌*◌, ◌-◌, ◌/◌, ◌≤◌, zero-le}
use native.Mathlib.Nat.{div-le_self}
use native.Mathlib.Decide.{dec_lt}
use native.Mathlib.Omega.{arith}
use lib.Dec.{leb}
use lib.ListN.{length}
use Rattle.demand.specs.declared.Charged.{Charged}
use Rattle.verdicts.specs.declared.Sum.{Sum}
use Rattle.verdicts.specs.declared.Sum.TheVariants.{Load, Interrupts, Jobs, Busy}
use Rattle.demand.specs.Sizes.{Each, Tells, run_most, time_most, length_most}
use Rattle.demand.specs.Ways.Ranges.{Ranged, ranged, stall_most, charge_most}
use Rattle.demand.specs.Demand.{ceil, jobs_due, interrupts, load, total, least_live}
use Rattle.demand.specs.Busy.{busy_load}
use Rattle.verdicts.specs.Cores.{IsCore}
use Rattle.verdicts.specs.MostFitting.{most_fitting}
use Rattle.verdicts.specs.Laid.{held, all_ranged, laid, term}
use Rattle.verdicts.specs.Laid.{laid_most_fitting}
use Rattle.demand.proofs.SizeLaws.{tells-unique, tells_both, tells-leb, tells-ranged}
use Rattle.demand.proofs.Division.{prod-le}
use Rattle.demand.proofs.DemandLaws.{jobs-due-none, jobs-due-some}

-- ---- a core

tells_all : (qs : List Charged) → Tells (Each Ranged qs) (all_ranged qs)
tells_all [] = tt
tells_all (q ∷ qs) = tells_both (Ranged q) (Each Ranged qs) (ranged q) (all_ranged qs) (tells-ranged q) (tells_all qs)

test-is : (qs : List Charged) (b : Bool) → Tells (IsCore qs) b → b ≡ (leb (length qs) run_most && all_ranged qs)
test-is qs b tells =
    tells-unique (IsCore qs) b (leb (length qs) run_most && all_ranged qs) tells (tells_both (length qs ≤ run_most) (Each Ranged qs)
    (leb (length qs) run_most) (all_ranged qs) (tells-leb (length qs) run_most) (tells_all qs))

pub laid-held : (qs : List Charged) → IsCore qs → laid qs ≡ held qs
unfolding laid
laid-held qs core = rw (sym (test-is qs true core))

pub laid-none : (qs : List Charged) → (IsCore qs → ⊥) → laid qs ≡ None
unfolding laid
laid-none qs never = rw (sym (test-is qs false never))

-- ---- a piece beside it

module _ (b : ℕ) (q : Charged) (a l f : ℕ) where
  Asked : Type 0
  Asked = ((b ≤ stall_most × Ranged q) × (f ≤ charge_most)) × (a + l ≤ length_most)

  asked-is : (t : Bool) → Tells Asked t → t ≡ (leb b stall_most && ranged q && leb f charge_most && leb (a + l) length_most)
  unfolding Asked
  asked-is t tells =
      tells-unique Asked t _ tells (tells_both ((b ≤ stall_most × Ranged q) × (f ≤ charge_most)) (a + l ≤ length_most) _ _
      (tells_both (b ≤ stall_most × Ranged q) (f ≤ charge_most) _ _
      (tells_both (b ≤ stall_most) (Ranged q) _ _ (tells-leb b stall_most) (tells-ranged q)) (tells-leb f charge_most)) (tells-leb (a + l) length_most))

  pub most-fitting-held : (qs : List Charged) → b ≤ stall_most → Ranged q → f ≤ charge_most → a + l ≤ length_most
      → most_fitting b qs q a l f ≡ laid_most_fitting b q a l f (held qs)
  unfolding laid_most_fitting Asked
  most-fitting-held qs h i j k = rw (sym (asked-is true (((h, i), j), k)))

  pub most-fitting-none : (qs : List Charged) → (b ≤ stall_most → Ranged q → f ≤ charge_most → a + l ≤ length_most → ⊥) → 0 ≡ laid_most_fitting b q a l f (held qs)
  unfolding laid_most_fitting Asked
  most-fitting-none qs never = rw (sym (asked-is false (λ all. never all.0.0.0 all.0.0.1 all.0.1 all.1)))

pub least-live-fits : (qs : List Charged) → Each Ranged qs → least_live qs ≤ time_most
unfolding least_live
least-live-fits [] ok = zero-le
least-live-fits (q ∷ qs) ok = omega (arith, ok.0.window-fits)

-- ---- no sum wraps

jobs-most : (q : Charged) → Ranged q → (t : ℕ) → t ≤ length_most → jobs_due q t ≤ 102000001
jobs-most q ok t h = elim (dec_lt (t + q.jitter) q.window) [
  | yes short ↦ omega (arith, jobs-due-none q t short)
  | no long ↦ omega (arith, jobs-due-some q t (omega arith), div-le_self (t + q.jitter - q.window) q.period, ok.jitter-fits)
]

calls-most : (q : Charged) → Ranged q → (m k e cost : ℕ) → m ≤ e → 1 ≤ k → k ≤ time_most → cost ≤ 2300000 → ceil m k * cost ≤ (e + time_most) * 2300000
unfolding ceil
calls-most q ok m k e cost h some few low = prod-le (e + time_most) 2300000 {a = (m + (k - 1)) / k} {b = cost} (omega (arith, div-le_self (m + (k - 1)) k)) low

interrupts-most : (q : Charged) → Ranged q → (t : ℕ) → t ≤ length_most → interrupts q t ≤ 500000000000000
unfolding interrupts
interrupts-most q ok t h =
    omega (
      arith,
      calls-most q ok (t + q.jitter) q.period 102000000 q.release (omega (arith, ok.jitter-fits)) ok.period-some
          ok.period-fits (omega (arith, ok.release-fits)),
      calls-most q ok (t + q.ipij) q.period 102000000 q.ipi
          (omega (arith, ok.ipij-fits)) ok.period-some ok.period-fits (omega (arith, ok.ipi-fits)),
    )

term-most : (s : Sum) (q : Charged) → Ranged q → (t : ℕ) → t ≤ length_most → term s t q ≤ 1000000000000000
unfolding load busy_load
term-most Load q ok t h =
    omega (arith, prod-le 102000001 2000000 {a = jobs_due q t} {b = q.charge} (jobs-most q ok t h) ok.charge-fits, interrupts-most q ok t h)
term-most Interrupts q ok t h = omega (arith, interrupts-most q ok t h)
term-most Jobs q ok t h = omega (arith, prod-le 102000001 2000000 {a = jobs_due q t} {b = q.charge} (jobs-most q ok t h) ok.charge-fits)
term-most Busy q ok t h =
    omega (
      arith,
      calls-most q ok t q.period 101000000 (q.charge + q.release + q.ipi) h ok.period-some ok.period-fits
          (omega (arith, ok.charge-fits, ok.release-fits, ok.ipi-fits)),
    )

total-most : (s : Sum) (t : ℕ) → t ≤ length_most → (qs : List Charged) → Each Ranged qs → total (term s t) qs ≤ length qs * 1000000000000000
total-most s t h [] ok = zero-le
total-most s t h (q ∷ qs) ok = omega (arith, term-most s q ok.0 t h, total-most s t h qs ok.1)

pub sum-most : (s : Sum) (t : ℕ) → t ≤ length_most → (qs : List Charged) → IsCore qs → total (term s t) qs ≤ 79000000000000000
sum-most s t h qs core = omega (arith, total-most s t h qs core.1, core.0)
