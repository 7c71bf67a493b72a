-- Laws of the bounds of a charge: what a piece q may be charged beside the core qs with the stall b.
-- Assumes nothing.
--
--   caps-both                           two walks one after the other
--   bounds-as, caps-as                  both from the code's own figures
--   beside_snoc, demand-same            the demand with q behind, and beside
--   unsettled-from, passes-settles      what no busy length and a pass tell of the charge
--   charge-ranged                       a piece with another charge is within its ranges
--   stalled-rest, -jobs, -over, -free, -fits      what fits at one length where the stall counts
--   bound-most, -squeezed, -unsettled, -own, -never, -stands      what the core with q behind tells
use Rattle.std.specs.Prelude.{None, Option, Some}
use mathlib.Core.Path.{◌≡◌, refl, sym, ap, ◌∙◌, subst}
use mathlib.Core.List.{List, [], ◌∷◌, ◌++◌}
use mathlib.Core.Logic.{◌⊎◌, ⊎_elim}
use Prim.Native.Nat.{ℕ, ◌+◌, ◌*◌, ◌-◌, ◌/◌, ◌≤◌, ◌<◌, zero-le, min, max}
use native.Mathlib.Nat.{mul-le-mul_left, not-suc-le-zero, le-div_iff_mul-le}
use native.Mathlib.Decide.{dec_lt}
use native.Mathlib.Omega.{arith}
use borrow.Author.Tests.{lt-ltb, le-ltb}
use lib.ListN.{length, length-append}
use Rattle.demand.specs.declared.Charged.{Charged}
use Rattle.demand.specs.declared.Verdict.{Verdict}
use Rattle.demand.specs.declared.Verdict.TheVariants.{Passes, Overloaded, Undecided}
use Rattle.splits.specs.declared.charge_bounds.Bound.{Bound}
use Rattle.splits.specs.declared.charge_bounds.Bound.TheVariants.{Stands, Falls, AtMost}
use Rattle.demand.specs.Sizes.{time_most, busy_most, Each}
use Rattle.demand.specs.Ways.Ranges.{charge_most, Ranged}
use Rattle.demand.specs.Demand.{ceil, total, jobs_due, interrupts, largest_window, blocking, load, demand, Live, least_live}
use Rattle.demand.specs.Busy.{Least, Finds, busy_load, busy_sum, busy_length}
use Rattle.demand.specs.Verdict.{Calm, Says, Means, scan, over_span, verdict}
use Rattle.splits.specs.Ways.ChargeBounds.{with_charge, Caps, Stalled, Settles, Unsettled, Bounds}
use Rattle.verdicts.specs.MostFitting.{beside, FitsIn, most_fitting}
use Rattle.demand.proofs.BusyLaws.{busy-length-finds}
use Rattle.verdicts.proofs.MostFittingLaws.{squeezed-is}
use Rattle.demand.proofs.Sums.{total-snoc}
use Rattle.demand.proofs.DemandLaws.{Recurs, largest-snoc, live-mono, least-live-least}
use Rattle.demand.proofs.VerdictLaws.{scan-says, scan-is, verdict-means, verdict-span, passes-forever}

-- ---- two walks

module _ (b : ℕ) (qs : List Charged) (q : Charged) where
  pub caps-both : (f a far k l d r : ℕ) → a ≤ far → d ≡ most_fitting b qs q far k f → r ≡ most_fitting b qs q a l d → Caps b qs q f a r
  caps-both f a far k l d r h first second =
      let one = squeezed-is b qs q far k f d first in
      let two = squeezed-is b qs q a l d r second in
      record {
        most = omega (arith, one.most, two.most);
        caps = λ y le holds. two.greatest y (one.greatest y le (λ u low high. holds u (omega arith))) (λ u low high. holds u low);
      }

-- ---- as the code has them

pub bounds-as : (b d : ℕ) (qs rs : List Charged) (q s : Charged) (r : Bound) → b ≡ d → qs ≡ rs → q ≡ s → Bounds b qs q r → Bounds d rs s r
bounds-as b d qs rs q s r stall row piece bound =
    subst (λ (e : ℕ). Bounds e rs s r) stall (subst (λ (ps : List Charged). Bounds b ps s r) row (subst (λ (p : Charged). Bounds b qs p r) piece bound))

pub caps-as : (b d : ℕ) (qs rs : List Charged) (q s : Charged) (f a e r : ℕ) → b ≡ d → qs ≡ rs → q ≡ s → a ≡ e → Caps b qs q f a r → Caps d rs s f e r
caps-as b d qs rs q s f a e r stall row piece start caps =
    subst (λ (m : ℕ). Caps d rs s f m r) start (subst (λ (m : ℕ). Caps m rs s f a r) stall
    (subst (λ (ps : List Charged). Caps b ps s f a r) row (subst (λ (p : Charged). Caps b qs p f a r) piece caps)))

-- ---- with the piece behind

pub blocking-below : (b : ℕ) (qs : List Charged) (u : ℕ) → u < largest_window qs → blocking b qs u ≡ b
unfolding blocking
blocking-below b qs u h = simp (lt-ltb u (largest_window qs) h)

pub blocking-above : (b : ℕ) (qs : List Charged) (u : ℕ) → largest_window qs ≤ u → blocking b qs u ≡ 0
unfolding blocking
blocking-above b qs u h = simp (le-ltb u (largest_window qs) h)

module _ (b : ℕ) (qs : List Charged) (q : Charged) where
  demand-snoc : (u : ℕ) → demand b (qs ++ (q ∷ [])) u + blocking b qs u ≡ beside b qs q q.charge u + blocking b (qs ++ (q ∷ [])) u
  unfolding demand beside load
  demand-snoc u = omega (arith, total-snoc (load u) qs q)

  blocking-snoc : (u : ℕ) → blocking b qs u ≤ blocking b (qs ++ (q ∷ [])) u
  blocking-snoc u = elim (dec_lt u (largest_window qs)) [
    | yes h ↦ omega (arith, blocking-below b qs u h, blocking-below b (qs ++ (q ∷ [])) u (omega (arith, largest-snoc qs q)))
    | no h ↦ omega (arith, blocking-above b qs u (omega arith))
  ]

  pub beside_snoc : (u : ℕ) → beside b qs q q.charge u ≤ demand b (qs ++ (q ∷ [])) u
  beside_snoc u = omega (arith, demand-snoc u, blocking-snoc u)

  -- off the lengths between the core's largest window and the piece's own, the two demands are one
  pub demand-same : (u : ℕ) → (u < largest_window qs) ⊎ (max (largest_window qs) q.window ≤ u) → demand b (qs ++ (q ∷ [])) u ≡ beside b qs q q.charge u
  demand-same u side =
      ⊎_elim (λ h. omega (arith, demand-snoc u, blocking-below b qs u h, blocking-below b (qs ++ (q ∷ [])) u (omega (arith, largest-snoc qs q))))
      (λ h. omega (arith, demand-snoc u, blocking-above b qs u (omega arith), blocking-above b (qs ++ (q ∷ [])) u (omega (arith, largest-snoc qs q)))) side

  -- what is calm beside the core, and with the piece's own blocking, is calm
  calm-whole : (a e : ℕ) → ((u : ℕ) → a ≤ u → u < e → beside b qs q q.charge u ≤ u)
      → Calm b (qs ++ (q ∷ [])) (max a (largest_window qs)) q.window → Calm b (qs ++ (q ∷ [])) a e
  calm-whole a e calm own u low high = elim (dec_lt u (largest_window qs)) [
    | yes h ↦ omega (arith, calm u low high, demand-same u (◌⊎◌.inl h))
    | no h ↦ elim (dec_lt u q.window) [
      | yes k ↦ own u (omega arith) k
      | no k ↦ omega (arith, calm u low high, demand-same u (◌⊎◌.inr (omega arith)))
    ]
  ]

pub largest-fits : (qs : List Charged) → Each Ranged qs → largest_window qs ≤ time_most
largest-fits [] ok = zero-le
largest-fits (q ∷ qs) ok = omega (arith, ok.0.window-fits, largest-fits qs ok.1)

-- ---- the busy length

-- r is q but for the charge and the window
module _ (qs : List Charged) (q r : Charged) (period : r.period ≡ q.period) (release : r.release ≡ q.release) (ipi : r.ipi ≡ q.ipi)
    (rs : List Charged) (laid : rs ≡ qs ++ (r ∷ [])) where
  busy-last : (l : ℕ) → busy_sum rs l ≡ busy_sum qs l + ceil l q.period * (r.charge + q.release + q.ipi)
  unfolding busy_sum busy_load
  busy-last l = rw (laid, sym period, sym release, sym ipi) (total-snoc (busy_load l) qs r)

  pub unsettled-from : busy_length rs ≡ None → Unsettled qs q r.charge
  unsettled-from none y more settles =
      let l = settles.at in
      subst (λ (f : Option ℕ). Finds (busy_sum rs) busy_most f) none (busy-length-finds rs) l settles.within
      (record { some = settles.some; fits = omega (arith, busy-last l, settles.fits, mul-le-mul_left (ceil l q.period) (charges more)) })
    where
      charges : r.charge ≤ y → r.charge + q.release + q.ipi ≤ y + q.release + q.ipi
      charges h = omega arith

  pub passes-settles : (b : ℕ) → verdict b rs ≡ Passes → Settles qs q r.charge
  passes-settles b pass =
      ⊎_elim (λ none. absurd (some_one none))
      (λ j. record { at = j.1; some = j.2.busy.here.some; within = j.2.within; fits = omega (arith, busy-last j.1, j.2.busy.here.fits) })
      (subst (λ (v : Verdict). Means b rs v) pass (verdict-means b rs))
    where
      some_one : rs ≡ [] → ⊥
      some_one none = let e : length rs ≡ length qs + 1 = rw (laid, length-append) refl in omega (arith, e, ap (λ (l : List Charged). length l) none)

-- ---- q with another charge

pub charge-ranged : (q : Charged) (f : ℕ) → Ranged q → f ≤ charge_most → Ranged (with_charge q f)
charge-ranged q f ok fits = record {
  period-some = ok.period-some;
  period-fits = ok.period-fits;
  window-fits = ok.window-fits;
  jitter-fits = ok.jitter-fits;
  charge-fits = fits;
  release-fits = ok.release-fits;
  ipi-fits = ok.ipi-fits;
  ipij-fits = ok.ipij-fits;
}

charge-load : (q : Charged) (f t : ℕ) → load t (with_charge q f) ≡ jobs_due q t * f + interrupts q t
unfolding load jobs_due interrupts
charge-load q f t = refl

-- ---- the stall

module _ (qs : List Charged) (q : Charged) (t : ℕ) where
  load-behind : (rs : List Charged) (f : ℕ) → rs ≡ qs ++ (with_charge q f ∷ []) → total (load t) rs ≡ total (load t) qs + interrupts q t + jobs_due q t * f
  load-behind rs f laid = rw laid (omega (arith, total-snoc (load t) qs (with_charge q f), charge-load q f t))

  -- what the two sums with q behind tell
  pub stalled-rest : (rs : List Charged) (rest : ℕ) → rs ≡ qs ++ (with_charge q 0 ∷ []) → rest ≡ total (load t) rs → rest ≡ total (load t) qs + interrupts q t
  stalled-rest rs rest laid is = omega (arith, load-behind rs 0 laid)

  pub stalled-jobs : (rs : List Charged) (sum rest jobs : ℕ) → rs ≡ qs ++ (with_charge q 1 ∷ []) → sum ≡ total (load t) rs
      → rest ≡ total (load t) qs + interrupts q t → jobs ≡ sum - rest → jobs ≡ jobs_due q t
  stalled-jobs rs sum rest jobs laid is asked less = omega (arith, load-behind rs 1 laid)

  module _ (b rest jobs : ℕ) (asked : rest ≡ total (load t) qs + interrupts q t) (due : jobs ≡ jobs_due q t) (some : 1 ≤ q.charge) where
    pub stalled-over : t < b + rest → Stalled b qs q t 0
    stalled-over over = record { less = omega arith; caps = λ y below fits. absurd (omega (arith, fits)) }

    pub stalled-free : jobs ≡ 0 → Stalled b qs q t (q.charge - 1)
    stalled-free none = record { less = omega arith; caps = λ y below fits. omega arith }

    pub stalled-fits : b + rest ≤ t → 0 < jobs → (r : ℕ) → r ≡ min (q.charge - 1) ((t - (b + rest)) / jobs) → Stalled b qs q t r
    stalled-fits room pos r least = record { less = omega arith; caps = λ y below fits. omega (arith, (le-div_iff_mul-le pos).1 (times y fits)) }
      where
        times : (y : ℕ) → b + total (load t) qs + interrupts q t + jobs_due q t * y ≤ t → y * jobs ≤ t - (b + rest)
        times y fits = rw due (omega (arith, fits))

-- ---- what it tells

pub least-live-some : (rs : List Charged) → 1 ≤ length rs → Least (Live rs) (least_live rs)
least-live-some [] some = absurd (not-suc-le-zero some)
least-live-some (q ∷ qs) some = least-live-least q qs

module _ (b : ℕ) (qs rs : List Charged) (q : Charged) (laid : rs ≡ qs ++ (q ∷ [])) where
  some-laid : 1 ≤ length rs
  some-laid = rw (laid, length-append) (omega arith)

  pub bound-most : (a r : ℕ) → a ≡ least_live rs → r < q.charge → Caps b qs q q.charge a r → Bounds b qs q (AtMost r)
  bound-most a r start less caps = (less, λ y le holds settles. caps.caps y le (rw (start, laid) holds))

  pub bound-squeezed : (a l r : ℕ) → a ≡ least_live rs → r < q.charge → r ≡ most_fitting b qs q a l q.charge → Bounds b qs q (AtMost r)
  bound-squeezed a l r start less is =
      (less, λ y le holds settles. (squeezed-is b qs q a l q.charge r is).greatest y le (λ u low high. holds u (rw (start, laid) at low)))

  pub bound-unsettled : (r : ℕ) → r < q.charge → Unsettled qs q (r + 1) → Bounds b qs q (AtMost r)
  bound-unsettled r less none = (
    less,
    λ y le holds settles. elim (dec_lt r y) [
      | yes above ↦ absurd (none y (omega arith) settles)
      | no below ↦ omega arith
    ],
  )

  spanned : (f : Option ℕ) → busy_length rs ≡ f → verdict b rs ≡ over_span b rs (least_live rs) f
  spanned f e = verdict-span b rs some-laid ∙ ap (λ (g : Option ℕ). over_span b rs (least_live rs) g) e

  module _ (recurs : Each Recurs rs) where
    refuted : (t : ℕ) → least_live rs ≤ t → t < demand b rs t → verdict b (qs ++ (q ∷ [])) ≡ Passes → ⊥
    refuted t from over pass =
        let whole : verdict b rs ≡ Passes = rw laid pass in
        let means = subst (λ (w : Verdict). Means b rs w) whole (verdict-means b rs) in
        omega (arith, passes-forever b rs recurs means t (live-mono rs {t = least_live rs} {u = t} from (least-live-some rs some-laid).here))

    -- an overloaded length past the least live one
    pub bound-own : (a k t : ℕ) → least_live rs ≤ a → a + k ≤ time_most → scan b rs a k ≡ Overloaded t → Bounds b qs q (Falls t)
    bound-own a k t from within over =
        let says = subst (λ (w : Verdict). Says b rs a k w) over (scan-says b rs a k) in
        let live : least_live rs ≤ t = omega (arith, says.from) in
        (refuted t live says.over, rw laid at live, omega (arith, says.below))

  -- a walk down is never undecided
  pub bound-never : (a k t : ℕ) → scan b rs a k ≡ Undecided → Bounds b qs q (Falls t)
  bound-never a k t never = absurd (subst (λ (w : Verdict). Says b rs a k w) never (scan-says b rs a k))

  pub bound-stands : (a l own r : ℕ) → a ≡ least_live rs → busy_length rs ≡ Some l → own ≡ max a (largest_window qs) → 1 ≤ q.charge
      → q.charge ≤ r → r ≡ most_fitting b qs q a l q.charge → scan b rs own (q.window - own) ≡ Passes → Bounds b qs q Stands
  bound-stands a l own r start busy is some kept left mine =
      let near = squeezed-is b qs q a l q.charge r left in
      let whole-charge : r ≡ q.charge = omega (arith, near.most) in
      let fits : FitsIn b qs q q.charge a (a + l) = subst (λ (y : ℕ). FitsIn b qs q y a (a + l)) whole-charge (near.fits (omega arith)) in
      let over : Calm b rs own (own + (q.window - own)) =
      subst (λ (w : Verdict). Says b rs own (q.window - own) w) mine (scan-says b rs own (q.window - own)) in
      let beyond : Calm b (qs ++ (q ∷ [])) (max a (largest_window qs)) q.window = λ u low high. rw laid at (over u (omega arith) (omega arith)) in
      let calm : Calm b (qs ++ (q ∷ [])) a (a + l) = calm-whole b qs q a (a + l) fits beyond in
      let whole : Calm b rs a (a + l) = rw laid calm in
      rw laid at (spanned (Some l) busy ∙ sym (rw start at (scan-is b rs a l Passes whole)))
