-- Laws of the demand: but for the blocking it does not fall as t grows, and a length l more adds at most the busy sum of l.
-- That it does not fall holds for every period. The bound asks only for a period that is not 0, so that a window may be longer than its period.
-- Assumes nothing.
--
--   jobs-due-none, -some, -mono, -add
--   interrupts-mono, load-mono, load-add, busy-load-mono
--   blocking-falls           b(t) does not grow
--   demand-add               g(s + l) ≤ g(s) + busy sum of l
--   demand-mono              g(t) ≤ g(u) for t ≤ u on one side of the largest window
--   live-mono                from a live length on all are live
--   least-live-least         `least_live` is the least live length
use mathlib.Core.Path.{◌≡◌}
use mathlib.Core.List.{List, [], ◌∷◌, ◌++◌}
use mathlib.Core.Logic.{◌⊎◌, ⊎_elim}
use Prim.Native.Nat.{ℕ, ◌+◌, ◌-◌, ◌/◌, ◌≤◌, ◌<◌, zero-le, min, max}
use native.Mathlib.Nat.{mul-le-mul_right, le_refl}
use native.Mathlib.Decide.{dec_lt}
use native.Mathlib.Omega.{arith}
use borrow.Author.Tests.{lt-ltb, le-ltb}
use Rattle.demand.specs.declared.Charged.{Charged}
use Rattle.demand.specs.Sizes.{Each, SomeOf}
use Rattle.demand.specs.Demand.{ceil, total, jobs_due, interrupts, largest_window, blocking, load, demand, Live, earliest, least_live}
use Rattle.demand.specs.Busy.{Least, busy_load, busy_sum}
use Rattle.demand.proofs.Division.{div_mono, div-add-ceil, ceil-mono, ceil-add, ceil-one-more}
use Rattle.demand.proofs.Sums.{total_mono, total-add}

-- all that the bound of a longer length asks of a piece
pub record Recurs (q : Charged) : Type 0 where
  pub again : 1 ≤ q.period

-- ---- jobs due

pub jobs-due-none : (q : Charged) (t : ℕ) → t + q.jitter < q.window → jobs_due q t ≡ 0
unfolding jobs_due
jobs-due-none q t early = simp (lt-ltb _ _ early)

pub jobs-due-some : (q : Charged) (t : ℕ) → q.window ≤ t + q.jitter → jobs_due q t ≡ 1 + (t + q.jitter - q.window) / q.period
unfolding jobs_due
jobs-due-some q t late = simp (le-ltb _ _ late)

pub jobs-due-mono : (q : Charged) {t u : ℕ} → t ≤ u → jobs_due q t ≤ jobs_due q u
jobs-due-mono q {t} {u} h = elim (dec_lt (t + q.jitter) q.window) [
  | yes early ↦ rw (jobs-due-none q t early) zero-le
  | no late ↦
      rw (jobs-due-some q t (omega arith), jobs-due-some q u (omega arith))
      (omega (arith, div_mono q.period {a = t + q.jitter - q.window} {b = u + q.jitter - q.window} (omega arith)))
]

-- within l more at most ⌈l / T⌉ more
pub jobs-due-add : {q : Charged} → Recurs q → (s l : ℕ) → jobs_due q (s + l) ≤ jobs_due q s + ceil l q.period
jobs-due-add {q} pos s l = elim (dec_lt (s + l + q.jitter) q.window) [
  | yes early ↦ rw (jobs-due-none q (s + l) early) zero-le
  | no late ↦ elim (dec_lt (s + q.jitter) q.window) [
    | yes before ↦
        rw (jobs-due-some q (s + l) (omega arith), jobs-due-none q s before)
        (omega (
          arith,
          ceil-one-more (s + l + q.jitter - q.window) {k = q.period} pos.again,
          ceil-mono q.period {a = s + l + q.jitter - q.window + 1} {b = l} (omega arith),
        ))
    | no after ↦
        let e : s + l + q.jitter - q.window ≡ s + q.jitter - q.window + l = omega arith in
        rw (jobs-due-some q (s + l) (omega arith), jobs-due-some q s (omega arith), e)
        (omega (arith, div-add-ceil (s + q.jitter - q.window) l {k = q.period} pos.again))
  ]
]

-- ---- one piece

pub interrupts-mono : (q : Charged) {t u : ℕ} → t ≤ u → interrupts q t ≤ interrupts q u
unfolding interrupts
interrupts-mono q {t} {u} h =
    omega (
      arith,
      mul-le-mul_right q.release (ceil-mono q.period {a = t + q.jitter} {b = u + q.jitter} (omega arith)),
      mul-le-mul_right q.ipi (ceil-mono q.period {a = t + q.ipij} {b = u + q.ipij} (omega arith)),
    )

pub load-mono : (q : Charged) {t u : ℕ} → t ≤ u → load t q ≤ load u q
unfolding load
load-mono q h = omega (arith, mul-le-mul_right q.charge (jobs-due-mono q h), interrupts-mono q h)

pub busy-load-mono : (q : Charged) {t u : ℕ} → t ≤ u → busy_load t q ≤ busy_load u q
unfolding busy_load
busy-load-mono q h = mul-le-mul_right (q.charge + q.release + q.ipi) (ceil-mono q.period h)

ceil-shifted : (s l j : ℕ) {k : ℕ} → 0 < k → ceil (s + l + j) k ≤ ceil (s + j) k + ceil l k
ceil-shifted s l j pos =
    let e : s + l + j ≡ s + j + l = omega arith in
    rw e (ceil-add (s + j) l pos)

pub load-add : {q : Charged} → Recurs q → (s l : ℕ) → load (s + l) q ≤ load s q + busy_load l q
unfolding load interrupts busy_load
load-add {q} pos s l =
    omega (
      arith,
      mul-le-mul_right q.charge (jobs-due-add pos s l),
      mul-le-mul_right q.release (ceil-shifted s l q.jitter {k = q.period} pos.again),
      mul-le-mul_right q.ipi (ceil-shifted s l q.ipij {k = q.period} pos.again),
    )

-- ---- the core

pub blocking-falls : (b : ℕ) (qs : List Charged) {t u : ℕ} → t ≤ u → blocking b qs u ≤ blocking b qs t
unfolding blocking
blocking-falls b qs {t} {u} h = elim (dec_lt u (largest_window qs)) [
  | yes k ↦ simp (lt-ltb u (largest_window qs) k, lt-ltb t (largest_window qs) (omega arith)) (le_refl _)
  | no k ↦ simp (le-ltb u (largest_window qs) (omega arith)) zero-le
]

-- where u is not past the largest window unless t is, the blocking is as large at u as at t
pub blocking-kept : (b : ℕ) (qs : List Charged) {t u : ℕ} → t ≤ u → (largest_window qs ≤ u → largest_window qs ≤ t) → blocking b qs t ≤ blocking b qs u
unfolding blocking
blocking-kept b qs {t} {u} h side = elim (dec_lt u (largest_window qs)) [
  | yes k ↦ simp (lt-ltb u (largest_window qs) k, lt-ltb t (largest_window qs) (omega arith)) (le_refl _)
  | no k ↦ simp (le-ltb t (largest_window qs) (side (omega arith))) zero-le
]

pub demand-below : (b : ℕ) (qs : List Charged) (t : ℕ) → t < largest_window qs → demand b qs t ≡ b + total (load t) qs
unfolding demand blocking
demand-below b qs t h = simp (lt-ltb t (largest_window qs) h)

pub demand-above : (b : ℕ) (qs : List Charged) (t : ℕ) → largest_window qs ≤ t → demand b qs t ≡ total (load t) qs
unfolding demand blocking
demand-above b qs t h = simp (le-ltb t (largest_window qs) h) (omega arith)

module _ (qs : List Charged) where
  pub loads-mono : {t u : ℕ} → t ≤ u → total (load t) qs ≤ total (load u) qs
  loads-mono {t} {u} h = total_mono (load t) (load u) (λ q. load-mono q h) qs

  pub interrupts-all-mono : {t u : ℕ} → t ≤ u → total (λ q. interrupts q t) qs ≤ total (λ q. interrupts q u) qs
  interrupts-all-mono {t} {u} h = total_mono (λ q. interrupts q t) (λ q. interrupts q u) (λ q. interrupts-mono q h) qs

  pub demand-mono : (b : ℕ) {t u : ℕ} → t ≤ u → (largest_window qs ≤ u → largest_window qs ≤ t) → demand b qs t ≤ demand b qs u
  unfolding demand
  demand-mono b {t} {u} h side = omega (arith, blocking-kept b qs h side, loads-mono h)

  pub demand-add : Each Recurs qs → (b s l : ℕ) → demand b qs (s + l) ≤ demand b qs s + busy_sum qs l
  unfolding demand busy_sum
  demand-add recurs b s l =
      omega (
        arith,
        blocking-falls b qs {t = s} {u = s + l} (omega arith),
        total-add Recurs (load (s + l)) (load s) (busy_load l) (λ q pos. load-add pos s l) qs recurs,
      )

-- ---- live lengths

live-before : (qs : List Charged) {t u : ℕ} → t ≤ u → SomeOf (λ q. 1 ≤ jobs_due q t) qs → SomeOf (λ q. 1 ≤ jobs_due q u) qs
live-before [] h live = live
live-before (q ∷ qs) {t} {u} h live =
    ⊎_elim (λ here. ◌⊎◌.inl (omega (arith, jobs-due-mono q h))) (λ there. ◌⊎◌.inr (live-before qs h there)) live

pub live-mono : (qs : List Charged) {t u : ℕ} → t ≤ u → Live qs t → Live qs u
unfolding Live
live-mono qs h live = live-before qs h live

due-from : (q : Charged) (t : ℕ) → q.window - q.jitter ≤ t → 1 ≤ jobs_due q t
due-from q t late = omega (arith, jobs-due-some q t (omega arith))

-- before the earliest no piece has a job due
none-live : (w : ℕ) (qs : List Charged) (t : ℕ) → t < earliest w qs → SomeOf (λ q. 1 ≤ jobs_due q t) qs → ⊥
none-live w [] t early live = live
none-live w (q ∷ qs) t early live =
    ⊎_elim (λ here. omega (arith, jobs-due-none q t (omega arith))) (λ there. none-live w qs t (omega arith) there) live

-- from it on one has, or it is w
some-live : (w : ℕ) (qs : List Charged) (t : ℕ) → earliest w qs ≤ t → w ≤ t ⊎ SomeOf (λ q. 1 ≤ jobs_due q t) qs
some-live w [] t late = ◌⊎◌.inl late
some-live w (q ∷ qs) t late = elim (dec_lt t (q.window - q.jitter)) [
  | yes early ↦ ⊎_elim (λ past. ◌⊎◌.inl past) (λ there. ◌⊎◌.inr (◌⊎◌.inr there)) (some-live w qs t (omega arith))
  | no here ↦ ◌⊎◌.inr (◌⊎◌.inl (due-from q t (omega arith)))
]

pub earliest-le : (w : ℕ) (qs : List Charged) → earliest w qs ≤ w
earliest-le w [] = omega arith
earliest-le w (q ∷ qs) = omega (arith, earliest-le w qs)

pub earliest-snoc : (w : ℕ) (qs : List Charged) (q : Charged) → earliest w (qs ++ (q ∷ [])) ≡ min (earliest w qs) (q.window - q.jitter)
earliest-snoc w [] q = min_comm (q.window - q.jitter) w
  where
    min_comm : (a b : ℕ) → min a b ≡ min b a
    min_comm a b = omega arith
earliest-snoc w (p ∷ qs) q = rw (earliest-snoc w qs q) (min_assoc (p.window - p.jitter) (earliest w qs) (q.window - q.jitter))
  where
    min_assoc : (a b e : ℕ) → min a (min b e) ≡ min (min a b) e
    min_assoc a b e = omega arith

pub largest-snoc : (qs : List Charged) (q : Charged) → largest_window (qs ++ (q ∷ [])) ≡ max (largest_window qs) q.window
largest-snoc [] q = omega arith
largest-snoc (p ∷ qs) q = omega (arith, largest-snoc qs q)

pub least-live-least : (q : Charged) (qs : List Charged) → Least (Live (q ∷ qs)) (least_live (q ∷ qs))
unfolding Live least_live
least-live-least q qs =
    let w = q.window - q.jitter in
    record {
      here = ⊎_elim (λ past. ◌⊎◌.inl (due-from q (earliest w (q ∷ qs)) past)) (λ live. live) (some-live w (q ∷ qs) (earliest w (q ∷ qs)) (omega arith));
      none_below = λ k early live. none-live w (q ∷ qs) k early live;
    }
