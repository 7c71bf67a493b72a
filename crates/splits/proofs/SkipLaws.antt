-- Laws of the split search: what one candidate tells of those below it, and where the search starts.
-- Assumes nothing.
--
--   tight-fits, tight-shorter, tight-full   a tight window holds its sum, is shorter for less, and holds no slack
--   holding-below             what an allowed split is charged fits beside the core at every live length, in each wider window
--   step-capped               so a cap of the charge is one of the budget
--   step-stands, falls-here, falls-there   both pieces pass, or the core's does not, or the last one
--   last-falls                an overloaded last piece: so is each longer one, as long as its window gains too little
--   step-last                 what no last piece passes with fits at no budget above
--   misses-lowered            how far down no tight window ends by a top
--   skips-late, -last, -own   so down to there none fits: the last piece falls, or the first one's own blocking
--   step-due                  and where a job of the core is due within the tight window
--   ends-room, ends-lowered   where the tight windows of allowed splits end
--   starts_none, starts-capped     where the search starts
use Rattle.std.specs.Prelude.{Some}
use mathlib.Core.Path.{◌≡◌, refl, sym, ◌∙◌, subst}
use mathlib.Core.List.{List, [], ◌∷◌, ◌++◌}
use mathlib.Core.Logic.{◌⊎◌, ⊎_elim}
use Prim.Native.Nat.{ℕ, ◌+◌, ◌*◌, ◌-◌, ◌≤◌, ◌<◌, zero-le, min, max}
use native.Mathlib.Nat.{mul-le-mul_right, zero-div}
use native.Mathlib.Decide.{dec_lt}
use native.Mathlib.Omega.{arith}
use lib.ListN.{length, length-append}
use Rattle.demand.specs.declared.Piece.{Piece}
use Rattle.demand.specs.declared.Costs.{Costs}
use Rattle.demand.specs.declared.Charged.{Charged}
use Rattle.verdicts.specs.declared.Sum.TheVariants.{Interrupts, Jobs}
use Rattle.demand.specs.declared.Verdict.{Verdict}
use Rattle.demand.specs.declared.Verdict.TheVariants.{Passes, Overloaded}
use Rattle.splits.specs.declared.charge_bounds.Bound.TheVariants.{Stands, Falls, AtMost}
use Rattle.splits.specs.declared.split_search.Step.TheVariants.{Done, Below}
use Rattle.demand.specs.Sizes.{length_most, Sized, Each, SomeOf}
use Rattle.demand.specs.Charge.{charged, ipi_cost, stall}
use Rattle.demand.specs.Demand.{total, jobs_due, interrupts, largest_window, blocking, load, demand, Live, least_live}
use Rattle.demand.specs.Verdict.{Means, verdict}
use Rattle.demand.specs.Split.{late_jitter, piece_of, first_piece, last_piece}
use Rattle.verdicts.specs.MostFitting.{beside}
use Rattle.splits.specs.Ways.ChargeBounds.{FitsFrom, Caps, Stalled, Settles, Bounds}
use Rattle.verdicts.specs.Laid.{term}
use Rattle.splits.specs.Ways.MonotoneSearch.{NoneHolds, Lowered}
use Rattle.splits.specs.Ways.Bench.{Weighs}
use Rattle.splits.specs.Ways.SplitSearch.{Steps, Misses, Skips, Hopeless, Ends, Starts}
use Rattle.demand.specs.Ways.ChargedSplit.{with_first, last_alone, tight_beside, Tight, Fits, TightIn}
use Rattle.demand.proofs.SizeLaws.{window-most}
use Rattle.demand.proofs.Division.{div_mono}
use Rattle.verdicts.proofs.CoreLaws.{sum_mono}
use Rattle.demand.proofs.Sums.{total-snoc}
use Rattle.demand.proofs.DemandLaws.{Recurs, jobs-due-none, jobs-due-some, interrupts-mono, demand-below, largest-snoc, live-mono}
use Rattle.demand.proofs.BusyLaws.{least-le}
use Rattle.splits.proofs.MonotoneSearchLaws.{late-more}
use Rattle.demand.proofs.VerdictLaws.{verdict-means, passes-forever}
use Rattle.verdicts.proofs.MostFittingLaws.{beside_at}
use Rattle.splits.proofs.ChargeBoundLaws.{beside_snoc, blocking-below, blocking-above, least-live-some, passes-settles}
use Rattle.demand.proofs.ChargedSplitLaws.{fails-here, fails-there, tight-same, extra, first-charge, last-charge, with_each, calls}
use Rattle.demand.proofs.ChargedSplitLaws.{calls_mono, tight-parts, first-interrupts, first-recurs, last-recurs}
use Rattle.splits.proofs.SplitSearchLaws.{step-skips, step-done, calls-with}

-- a verdict that passes covers every live length
forever : (b : ℕ) (rs : List Charged) → Each Recurs rs → verdict b rs ≡ Passes → (u : ℕ) → Live rs u → demand b rs u ≤ u
forever b rs recurs pass u live = passes-forever b rs recurs (subst (λ (v : Verdict). Means b rs v) pass (verdict-means b rs)) u live

-- ---- the tight window

module _ (c : Costs) (qs : List Charged) (p : Piece) where
  pub tight-fits : (x : ℕ) {t : ℕ} → Tight c qs p x t → stall c + (x + extra c p) + calls c qs p t ≤ t
  tight-fits x {t} tight = omega (arith, tight.here.fits, tight-parts c qs p x t)

  -- for less it is shorter by no less
  pub tight-shorter : (x y : ℕ) {t u : ℕ} → 1 ≤ y → y ≤ x → Tight c qs p x t → Tight c qs p y u → u + (x - y) ≤ t
  tight-shorter x y {t} {u} some less long short =
      let holds = least-le short (t - (x - y)) (record {
        some = omega (arith, tight-fits x long);
        fits =
            rw (tight-parts c qs p y (t - (x - y)))
            (omega (arith, tight-fits x long, calls_mono c qs p {t = t - (x - y)} {u = t} (omega arith)));
      }) in
      omega (arith, holds, tight-fits x long)

  pub tight-full : (x : ℕ) {t : ℕ} → 1 ≤ x → Tight c qs p x t → t ≡ stall c + (x + extra c p) + calls c qs p t
  tight-full x {t} some tight = elim (dec_lt (stall c + (x + extra c p) + calls c qs p t) t) [
    | yes slack ↦ absurd (tight.none_below (t - 1) (omega arith) (record {
      some = omega arith;
      fits = rw (tight-parts c qs p x (t - 1)) (omega (arith, calls_mono c qs p {t = t - 1} {u = t} (omega arith)));
    }))
    | no full ↦ omega (arith, tight-fits x tight)
  ]

  -- it is at least the budget and what a first piece without one waits for within length 1
  pub tight-least : (x : ℕ) {t : ℕ} → Tight c qs p x t → x + tight_beside c qs p 0 1 ≤ t
  tight-least x {t} tight = omega (arith, tight-fits x tight, tight-parts c qs p 0 1, calls_mono c qs p {t = 1} {u = t} tight.here.some)

-- ---- a cap of the charge is one of the budget

-- a shorter window has no fewer jobs due
due-shorter : (q r : Charged) → r.window ≤ q.window → r.period ≡ q.period → r.jitter ≡ q.jitter → (u : ℕ) → jobs_due q u ≤ jobs_due r u
due-shorter q r shorter period jitter u = elim (dec_lt (u + q.jitter) q.window) [
  | yes early ↦ rw (jobs-due-none q u early) zero-le
  | no late ↦
      rw (jobs-due-some q u (omega arith), jobs-due-some r u (omega arith), period)
      (omega (arith, div_mono q.period {a = u + q.jitter - q.window} {b = u + r.jitter - r.window} (omega arith)))
]

some-last : (P : Charged → Type 0) (qs : List Charged) (q r : Charged) → (P q → P r) → SomeOf P (qs ++ (q ∷ [])) → SomeOf P (qs ++ (r ∷ []))
some-last P [] q r step live = ⊎_elim (λ here. ◌⊎◌.inl (step here)) (λ there. ◌⊎◌.inr there) live
some-last P (p ∷ qs) q r step live = ⊎_elim (λ here. ◌⊎◌.inl here) (λ there. ◌⊎◌.inr (some-last P qs q r step there)) live

live-shorter : (qs : List Charged) (q r : Charged) (u : ℕ) → jobs_due q u ≤ jobs_due r u → Live (qs ++ (q ∷ [])) u → Live (qs ++ (r ∷ [])) u
unfolding Live
live-shorter qs q r u more live = some-last (λ p. 1 ≤ jobs_due p u) qs q r (λ one. omega arith) live

beside-le : (b : ℕ) (qs : List Charged) (q r : Charged) (f u : ℕ) → interrupts q u ≡ interrupts r u → jobs_due q u ≤ jobs_due r u
    → beside b qs q f u ≤ beside b qs r f u
beside-le b qs q r f u same more = omega (arith, beside_at b qs q f u, beside_at b qs r f u, mul-le-mul_right f more)

first-due : (c : Costs) (p : Piece) (x y v w u : ℕ) → v ≤ w → jobs_due (charged c (first_piece p x w)) u ≤ jobs_due (charged c (first_piece p y v)) u
unfolding charged first_piece piece_of
first-due c p x y v w u shorter = due-shorter (charged c (first_piece p x w)) (charged c (first_piece p y v)) shorter refl refl u

with-recurs : (c : Costs) (qs : List Charged) (p : Piece) (x w : ℕ) → Each Recurs qs → Sized p → Each Recurs (with_first c qs p x w)
with-recurs c qs p x w recurs ok = with_each Recurs c qs p x w recurs (first-recurs c p x w ok)

with-some : (c : Costs) (qs : List Charged) (p : Piece) (x w : ℕ) → 1 ≤ length (with_first c qs p x w)
unfolding with_first
with-some c qs p x w = rw length-append (omega arith)

with-shorter : (c : Costs) (qs : List Charged) (p : Piece) (x y v w u : ℕ) → v ≤ w → Live (with_first c qs p x w) u → Live (with_first c qs p y v) u
unfolding with_first
with-shorter c qs p x y v w u shorter live =
    live-shorter qs (charged c (first_piece p x w)) (charged c (first_piece p y v)) u (first-due c p x y v w u shorter) live

with-beside : (c : Costs) (qs : List Charged) (p : Piece) (x w u : ℕ)
    → beside (stall c) qs (charged c (first_piece p x w)) (x + extra c p) u ≤ demand (stall c) (with_first c qs p x w) u
unfolding with_first
with-beside c qs p x w u =
    let q = charged c (first_piece p x w) in
    subst (λ (f : ℕ). beside (stall c) qs q f u ≤ demand (stall c) (qs ++ (q ∷ [])) u) (first-charge c p x w) (beside_snoc (stall c) qs q u)

module _ (c : Costs) (qs : List Charged) (p : Piece) (recurs : Each Recurs qs) (ok : Sized p) where
  pub holding-below : (x y s v : ℕ) → Fits c qs p y s → p.jitter + s ≤ v
      → FitsFrom (stall c) qs (charged c (first_piece p x v)) (y + extra c p) (least_live (with_first c qs p x v))
  holding-below x y s v fits wider u from =
      let q = charged c (first_piece p x v) in
      let w = p.jitter + s in
      let r = charged c (first_piece p y (p.jitter + s)) in
      let long =
      live-mono (with_first c qs p x v) {t = least_live (with_first c qs p x v)} {u = u} from
      (least-live-some (with_first c qs p x v) (with-some c qs p x v)).here in
      let live : Live (with_first c qs p y w) u = with-shorter c qs p x y w v u wider long in
      let same : interrupts q u ≡ interrupts r u = first-interrupts c p x v u ∙ sym (first-interrupts c p y w u) in
      omega (
        arith,
        forever (stall c) (with_first c qs p y w) (with-recurs c qs p y w recurs ok) fits.here u live,
        with-beside c qs p y w u,
        beside-le (stall c) qs q r (y + extra c p) u same (first-due c p x y w v u wider),
      )

  pub with-least : (x w : ℕ) → least_live (qs ++ (charged c (first_piece p x w) ∷ [])) ≡ least_live (with_first c qs p x w)
  unfolding with_first
  with-least x w = refl

  alike : (x w z v : ℕ) → ((charged c (first_piece p z v)).period ≡ (charged c (first_piece p x w)).period)
      × ((charged c (first_piece p z v)).release ≡ (charged c (first_piece p x w)).release)
      × ((charged c (first_piece p z v)).ipi ≡ (charged c (first_piece p x w)).ipi)
  unfolding charged ipi_cost first_piece piece_of
  alike x w z v = (refl, refl, refl)

  with-laid : (z v : ℕ) → with_first c qs p z v ≡ qs ++ (charged c (first_piece p z v) ∷ [])
  unfolding with_first
  with-laid z v = refl

  settles-below : (x w z u : ℕ) → Fits c qs p z u → Settles qs (charged c (first_piece p x w)) (z + extra c p)
  settles-below x w z u fits =
      let v = p.jitter + u in
      let same = alike x w z v in
      let settles =
      passes-settles qs (charged c (first_piece p x w)) (charged c (first_piece p z v)) same.0 same.1 same.2 (with_first c qs p z v)
      (with-laid z v) (stall c) fits.here in
      subst (λ (f : ℕ). Settles qs (charged c (first_piece p x w)) f) (first-charge c p z v) settles

  pub step-capped : (x t w f k : ℕ) → 1 ≤ x → Tight c qs p x t → w ≡ p.jitter + t → k ≡ (charged c (first_piece p x w)).charge
      → Bounds (stall c) qs (charged c (first_piece p x w)) (AtMost f) → Steps c qs p x (Below (f - (k - x)))
  step-capped x t w f k some tight at charge bound =
      let e : k ≡ x + extra c p = charge ∙ first-charge c p x w in (
        omega (arith, bound.0),
        λ z u low high fits.
            let shorter = tight-shorter c qs p x z (omega arith) high tight fits.tight in
            let holds = holding-below x z u w fits (omega arith) in
            omega (arith, bound.1 (z + extra c p) (omega arith) (rw (with-least x w) holds) (settles-below x w z u fits)),
      )

-- ---- what the core with the first piece tells

module _ (c : Costs) (qs : List Charged) (p : Piece) (x w : ℕ) (found : TightIn c qs p x (Some w)) where
  pub step-stands : 1 ≤ x → Bounds (stall c) qs (charged c (first_piece p x w)) Stands → verdict (stall c) (last_alone c p x w) ≡ Passes → Steps c qs p x (Done w)
  unfolding with_first
  step-stands some here there = step-done c qs p x some found.0 w found.1 found.2 found.3 here there

  -- x itself does not fit, where its core or its last piece does not pass
  pub falls-here : (f : ℕ) → Bounds (stall c) qs (charged c (first_piece p x w)) (Falls f) → (u : ℕ) → Fits c qs p x u → ⊥
  unfolding with_first
  falls-here f bound = fails-here c qs p x found.0 w found.1 found.3 (verdict (stall c) (qs ++ (charged c (first_piece p x w) ∷ []))) refl bound.0

  pub falls-there : (s : ℕ) → Hopeless c p x w s → (u : ℕ) → Fits c qs p x u → ⊥
  falls-there s hopeless =
      fails-there c qs p x found.0 w found.1 found.3 (verdict (stall c) (last_alone c p x w)) refl
      (hopeless x w (omega arith) (omega arith) (omega arith))

-- ---- the last piece alone

alone-demand : (b : ℕ) (q : Charged) (u : ℕ) → demand b (q ∷ []) u ≡ blocking b (q ∷ []) u + (jobs_due q u * q.charge + interrupts q u)
unfolding demand load
alone-demand b q u = omega arith

alone-due : (q : Charged) (u : ℕ) → Live (q ∷ []) u → 1 ≤ jobs_due q u
unfolding Live
alone-due q u live = ⊎_elim (λ here. here) (λ there. absurd there) live

alone-live : (q : Charged) (u : ℕ) → 1 ≤ jobs_due q u → Live (q ∷ []) u
unfolding Live
alone-live q u due = ◌⊎◌.inl due

-- the jobs due and the blocking move with the window
module _ (q r : Charged) (k : ℕ) (window : r.window ≡ q.window + k) where
  due-moved : r.period ≡ q.period → r.jitter ≡ q.jitter → (u : ℕ) → jobs_due r (u + k) ≡ jobs_due q u
  due-moved period jitter u = elim (dec_lt (u + q.jitter) q.window) [
    | yes early ↦ rw (jobs-due-none q u early, jobs-due-none r (u + k) (omega arith)) refl
    | no late ↦
        let e : u + k + r.jitter - r.window ≡ u + q.jitter - q.window = omega arith in
        rw (jobs-due-some q u (omega arith), jobs-due-some r (u + k) (omega arith), e, period) refl
  ]

  blocking-moved : (b u : ℕ) → blocking b (q ∷ []) u ≤ blocking b (r ∷ []) (u + k)
  blocking-moved b u = elim (dec_lt u (largest_window (q ∷ []))) [
    | yes h ↦ omega (arith, blocking-below b (q ∷ []) u h, blocking-below b (r ∷ []) (u + k) (omega arith))
    | no h ↦ omega (arith, blocking-above b (q ∷ []) u (omega arith))
  ]

  -- a piece that is overloaded by more than the slack, and a longer one whose window gains no more than its charge and the slack
  moved-over : r.period ≡ q.period → r.jitter ≡ q.jitter → (b u d s : ℕ) → interrupts q u ≡ interrupts r u
      → r.charge ≡ q.charge + d → k ≤ d + s → Live (q ∷ []) u → u + s < demand b (q ∷ []) u → demand b (r ∷ []) (u + k) ≤ u + k → ⊥
  moved-over period jitter b u d s same more gain live over pass =
      let due : 1 ≤ jobs_due q u = alone-due q u live in
      let jobs : jobs_due r (u + k) * r.charge ≡ jobs_due q u * q.charge + jobs_due q u * d = rw (due-moved period jitter u, more) (omega arith) in
      omega (
        arith,
        alone-demand b q u,
        alone-demand b r (u + k),
        blocking-moved b u,
        jobs,
        mul-le-mul_right d due,
        interrupts-mono r {t = u} {u = u + k} (omega arith),
      )

last-interrupts : (c : Costs) (p : Piece) (x y v w u : ℕ) → interrupts (charged c (last_piece c p x v)) u ≡ interrupts (charged c (last_piece c p y w)) u
unfolding interrupts charged ipi_cost last_piece late_jitter piece_of
last-interrupts c p x y v w u = refl

-- a longer last piece whose window gains too little is overloaded as far past a live length
last-hopeless : (c : Costs) (p : Piece) → Sized p → (x w u : ℕ) → Live (last_alone c p x w) u → x ≤ p.budget → w ≤ p.window → (s : ℕ)
    → u + s < demand (stall c) (last_alone c p x w) u → Hopeless c p x w s
unfolding last_alone charged last_piece piece_of
last-hopeless c p ok x w u live fits inside s more y v less shorter gain pass =
    let q = charged c (last_piece c p x w) in
    let r = charged c (last_piece c p y v) in
    let recurs = last-recurs c p y v ok in
    let window : r.window ≡ q.window + (w - v) = omega arith in
    let charge : r.charge ≡ q.charge + (x - y) = omega (arith, last-charge c p x w, last-charge c p y v) in
    let due : 1 ≤ jobs_due r (u + (w - v)) = rw (due-moved q r (w - v) window refl refl u) (alone-due q u live) in
    moved-over q r (w - v) window refl refl (stall c) u (x - y) s (last-interrupts c p x y w v u) charge (omega arith) live more
    (forever (stall c) (r ∷ []) recurs pass (u + (w - v)) (alone-live r (u + (w - v)) due))

last_one : (c : Costs) (p : Piece) (x w : ℕ) → 1 ≤ length (last_alone c p x w)
unfolding last_alone
last_one c p x w = omega arith

module _ (c : Costs) (p : Piece) (ok : Sized p) (x w u : ℕ) (over : verdict (stall c) (last_alone c p x w) ≡ Overloaded u) where
  over-means : Means (stall c) (last_alone c p x w) (Overloaded u)
  over-means = subst (λ (v : Verdict). Means (stall c) (last_alone c p x w) v) over (verdict-means (stall c) (last_alone c p x w))

  -- an overloaded length is within what a judged length can be
  pub over-within : u ≤ length_most
  unfolding last_alone charged last_piece piece_of
  over-within =
      let q = charged c (last_piece c p x w) in
      let due = alone-live q q.window (omega (arith, jobs-due-some q q.window (omega arith))) in
      omega (arith, over-means.3.below, over-means.2.within, least-le over-means.2.start q.window due, window-most p ok)

  -- by one less than it is overloaded, there or at the least live length
  pub last-falls : x ≤ p.budget → w ≤ p.window → (a m n s : ℕ) → a ≡ least_live (last_alone c p x w)
      → m ≡ demand (stall c) (last_alone c p x w) u - (u + 1) → n ≡ demand (stall c) (last_alone c p x w) a - (a + 1) → s ≡ max m n
      → Hopeless c p x w s
  last-falls fits inside a m n s least late soon is = elim (dec_lt m n) [
    | yes more ↦
        last-hopeless c p ok x w a (subst (λ (t : ℕ). Live (last_alone c p x w) t) (sym least)
        (least-live-some (last_alone c p x w) (last_one c p x w)).here) fits inside s (omega arith)
    | no less ↦
        last-hopeless c p ok x w u (live-mono (last_alone c p x w) over-means.3.from over-means.2.start.here)
        fits inside s (omega (arith, over-means.3.over))
  ]

-- ---- how far down the next may stand

module _ (c : Costs) (qs : List Charged) (p : Piece) where
  pub step-last : (x f w : ℕ) → (f < x) × ((y v : ℕ) → y ≤ x → verdict (stall c) (last_alone c p y v) ≡ Passes → ⊥) → Steps c qs p x (Below f)
  step-last x f w none = (none.0, λ z u low high fits. none.1 z (p.jitter + u) high fits.there)

  -- the high end of the budgets, one less
  pub misses-lowered : (base b k : ℕ) → base ≡ b + k → b ≡ stall c → k ≡ (charged c (first_piece p 0 0)).charge → (rs : List Charged)
      → rs ≡ with_first c qs p 0 0 → (top x h : ℕ) → 1 ≤ x → Lowered (NoneHolds rs base top) x h → Misses c qs p top (h - 1) x
  misses-lowered base b k parts stalled charge rs laid top x h some low = (
    omega (arith, low.most, low.some some),
    λ z u above below tight. elim (dec_lt top u) [
      | yes late ↦ late
      | no early ↦
          absurd
          (⊎_elim (λ same. omega (arith, low.some some))
          (λ none. late-more rs base top h z (omega (arith, low.some some)) none u (omega arith) (record {
            some = tight.here.some;
            fits = omega (arith, tight-fits c qs p z tight, calls-with c qs p 0 0 rs laid u, first-charge c p 0 0);
          })) low.told)
    ],
  )

  -- none has a tight window that leaves the last piece one
  pub skips-late : (top r x : ℕ) → top ≡ p.window - 1 - p.jitter → Misses c qs p top r x → Skips c qs p r x
  skips-late top r x is misses = (misses.0, λ z u low high fits. omega (arith, misses.1 z u low high fits.tight, fits.room))

  -- the last pieces of all are overloaded whose tight window is past the end
  pub skips-last : (x t w s : ℕ) → Tight c qs p x t → w ≡ p.jitter + t → Hopeless c p x w s → (rs : List Charged)
      → rs ≡ with_first c qs p 0 0 → (i k end r : ℕ) → i ≡ total (term Interrupts t) rs → k ≡ i - s → Lowered (λ m. k ≤ total (term Interrupts m) rs) t end
      → Misses c qs p (end - 1) r x → Skips c qs p r x
  skips-last x t w s tight at hopeless rs laid i k end r calls_are few low misses = (
    misses.0,
    λ z u above below fits.
        let late : end - 1 < u = misses.1 z u above below fits.tight in
        let shorter = tight-shorter c qs p x z (omega arith) (omega arith) tight fits.tight in
        let more : calls c qs p t ≤ calls c qs p u + s =
        ⊎_elim (λ same. omega (arith, calls_mono c qs p {t = t} {u = u} (omega (arith, low.some tight.here.some))))
        (λ come. omega (
          arith,
          come,
          calls-with c qs p 0 0 rs laid t,
          calls-with c qs p 0 0 rs laid end,
          calls_mono c qs p {t = end} {u = u} (omega arith),
        )) low.told in
        hopeless z (p.jitter + u) (omega arith) (omega arith)
        (omega (
          arith,
          shorter,
          more,
          tight-full c qs p x (omega arith) tight,
          tight-full c qs p z (omega arith) fits.tight,
        )) fits.there,
  )

-- ---- where tight windows end

-- the jobs alone
jobs-parts : (u : ℕ) (qs : List Charged) → total (load u) qs ≡ total (term Jobs u) qs + total (λ q. interrupts q u) qs
unfolding load
jobs-parts u [] = refl
jobs-parts u (q ∷ qs) = omega (arith, jobs-parts u qs)

jobs-none : (u : ℕ) (qs : List Charged) → Each Weighs qs → total (term Jobs u) qs ≡ 0 → SomeOf (λ q. 1 ≤ jobs_due q u) qs → ⊥
jobs-none u [] weighs none live = live
jobs-none u (q ∷ qs) weighs none live =
    ⊎_elim (λ here. omega (arith, mul-le-mul_right q.charge here, weighs.0.some)) (λ there. jobs-none u qs weighs.1 (omega arith) there) live

jobs-idle : (u : ℕ) (qs : List Charged) → Each Weighs qs → total (term Jobs u) qs ≡ 0 → Live qs u → ⊥
unfolding Live
jobs-idle u qs weighs none live = jobs-none u qs weighs none live

first_one : (c : Costs) (p : Piece) (x t : ℕ) → jobs_due (charged c (first_piece p x (p.jitter + t))) t ≡ 1
unfolding charged first_piece piece_of
first_one c p x t =
    let e : t + p.jitter - (p.jitter + t) ≡ 0 = omega arith in
    rw (jobs-due-some (charged c (first_piece p x (p.jitter + t))) t (omega arith), e) (omega (arith, zero-div p.period))

first_live : (c : Costs) (qs : List Charged) (p : Piece) (x t : ℕ) → Live (with_first c qs p x (p.jitter + t)) t
unfolding with_first Live
first_live c qs p x t = last_some (λ q. 1 ≤ jobs_due q t) qs (charged c (first_piece p x (p.jitter + t))) (omega (arith, first_one c p x t))
  where
    last_some : (P : Charged → Type 0) (rs : List Charged) (q : Charged) → P q → SomeOf P (rs ++ (q ∷ []))
    last_some P [] q h = ◌⊎◌.inl h
    last_some P (r ∷ rs) q h = ◌⊎◌.inr (last_some P rs q h)

first-demand : (c : Costs) (qs : List Charged) (p : Piece) (x t : ℕ) → demand (stall c) (with_first c qs p x (p.jitter + t)) t
    ≡ blocking (stall c) (with_first c qs p x (p.jitter + t)) t + total (term Jobs t) qs + (x + extra c p) + calls c qs p t
unfolding demand with_first load calls
first-demand c qs p x t =
    let q = charged c (first_piece p x (p.jitter + t)) in
    let one : jobs_due q t * q.charge ≡ x + extra c p = rw (first_one c p x t, first-charge c p x (p.jitter + t)) (omega arith) in
    omega (arith, total-snoc (load t) qs q, jobs-parts t qs, one, first-interrupts c p x (p.jitter + t) t)

first-largest : (c : Costs) (qs : List Charged) (p : Piece) (x w : ℕ) → largest_window (with_first c qs p x w) ≡ max (largest_window qs) w
unfolding with_first charged first_piece piece_of
first-largest c qs p x w = largest-snoc qs (charged c (first_piece p x w))

-- before the end of the first piece's window the stall counts
first-stalled : (c : Costs) (qs : List Charged) (p : Piece) (z v t : ℕ) → t < v → demand (stall c) (with_first c qs p z v) t
    ≡ stall c + total (load t) qs + interrupts (charged c (first_piece p z v)) t + jobs_due (charged c (first_piece p z v)) t * (z + extra c p)
unfolding with_first load
first-stalled c qs p z v t before =
    let q = charged c (first_piece p z v) in
    let own : jobs_due q t * q.charge ≡ jobs_due q t * (z + extra c p) = rw (first-charge c p z v) refl in
    omega (arith, demand-below (stall c) (qs ++ (q ∷ [])) t (omega (arith, first-largest c qs p z v)), total-snoc (load t) qs q, own)

module _ (c : Costs) (qs : List Charged) (p : Piece) where
  pub ends-room : Ends c qs p (p.window - p.jitter)
  ends-room x t some fits = omega (arith, fits.room)

  module _ (recurs : Each Recurs qs) (ok : Sized p) where
    left_over : (x t : ℕ) → 1 ≤ x → Fits c qs p x t → blocking (stall c) (with_first c qs p x (p.jitter + t)) t + total (term Jobs t) qs ≤ stall c
    left_over x t some fits =
        let rs = with_first c qs p x (p.jitter + t) in
        omega (
          arith,
          forever (stall c) rs (with-recurs c qs p x (p.jitter + t) recurs ok) fits.here t (first_live c qs p x t),
          first-demand c qs p x t,
          tight-full c qs p x some fits.tight,
        )

    -- while the stall counts at the end of a tight window, no job of the core may be due by then
    module _ (weighs : Each Weighs qs) (many : 1 ≤ length qs) (x t w : ℕ) (tight : Tight c qs p x t) (at : w ≡ p.jitter + t)
        (early : t < max (largest_window qs) w) where
      due-fails : (z u : ℕ) → 1 ≤ z → z ≤ x → least_live qs ≤ u → Fits c qs p z u → ⊥
      due-fails z u some less due fits =
          let rs = with_first c qs p z (p.jitter + u) in
          let shorter = tight-shorter c qs p x z some less tight fits.tight in
          let counts = blocking-below (stall c) rs u (omega (arith, first-largest c qs p z (p.jitter + u))) in
          jobs-idle u qs weighs (omega (arith, left_over z u some fits, counts))
          (live-mono qs {t = least_live qs} {u = u} due (least-live-some qs many).here)

      pub step-due : (m r : ℕ) → 1 ≤ x → least_live qs ≤ t → m ≡ least_live qs - 1 → Misses c qs p m r x → Steps c qs p x (Below r)
      step-due m r some due is misses =
          step-skips c qs p x some r (λ u fits. due-fails x u some (omega arith) (omega (arith, tight-same c qs p x tight fits.tight)) fits)
          (misses.0, λ z u low high fits. due-fails z u (omega arith) (omega arith) (omega (arith, misses.1 z u low high fits.tight)) fits)

    -- what is due within a tight window is charged no more than the stall, or than nothing where the task has jitter
    pub ends-lowered : (most end r : ℕ) → (most ≡ stall c) ⊎ ((1 ≤ p.jitter) × (most ≡ 0)) → end ≡ p.window - p.jitter
        → Lowered (λ m. most < total (term Jobs m) qs) end r → Ends c qs p r
    ends-lowered most end r side is low x t some fits = elim (dec_lt t r) [
      | yes before ↦ before
      | no after ↦
          let rs = with_first c qs p x (p.jitter + t) in
          let left = left_over x t some fits in
          ⊎_elim (λ same. omega (arith, ends-room x t some fits))
          (λ over.
          let heavy : most < total (term Jobs t) qs = omega (arith, over, sum_mono qs Jobs {t = r} {u = t} (omega arith)) in
          ⊎_elim (λ stalled. absurd (omega (arith, left))) (λ jitter. absurd (omega (
            arith,
            left,
            blocking-below (stall c) rs t (omega (arith, first-largest c qs p x (p.jitter + t))),
          ))) side) low.told
    ]

    -- a smaller budget that fits has its tight window by t, or fits at t with the stall
    pub skips-own : (x t w u k most m r : ℕ) → Tight c qs p x t → w ≡ p.jitter + t → least_live (with_first c qs p x w) ≤ u
        → k ≡ (charged c (first_piece p x w)).charge → Stalled (stall c) qs (charged c (first_piece p x w)) u most
        → Misses c qs p (u - p.jitter) m x → r ≡ max m (most - (k - x)) → Skips c qs p r x
    skips-own x t w u k most m r tight at live charge stalled misses is =
        let e : k ≡ x + extra c p = charge ∙ first-charge c p x w in (
          omega (arith, misses.0, stalled.less),
          λ z s above below fits.
              let v = p.jitter + s in
              let late : u < v = omega (arith, misses.1 z s (omega arith) below fits.tight) in
              let shorter = tight-shorter c qs p x z (omega arith) (omega arith) tight fits.tight in
              let there =
              with-shorter c qs p x z v w u (omega arith)
              (live-mono (with_first c qs p x w) {t = least_live (with_first c qs p x w)} {u = u} live
              (least-live-some (with_first c qs p x w) (with-some c qs p x w)).here) in
              let fits-there = forever (stall c) (with_first c qs p z v) (with-recurs c qs p z v recurs ok) fits.here u there in
              let jobs = mul-le-mul_right (z + extra c p) (first-due c p x z v w u (omega arith)) in
              omega (
                arith,
                stalled.caps (z + extra c p) (omega arith)
                    (omega (arith, fits-there, first-stalled c qs p z v u late, jobs, first-interrupts c p x w u, first-interrupts c p z v u)),
              ),
        )

    -- ---- where the search starts

    pub starts_none : (e x : ℕ) → Ends c qs p e → x ≡ min (p.budget - 1) (e - (tight_beside c qs p 0 1 + 1)) → Starts c qs p x
    starts_none e x ends is = (
      omega (arith, ok.budget-some),
      λ z u low high fits. omega (arith, ends z u (omega arith) fits, tight-least c qs p z fits.tight),
    )

    pub starts-capped : (e x w k r : ℕ) → Ends c qs p e → Starts c qs p x → w ≡ p.jitter + (e - 1) → k ≡ (charged c (first_piece p x w)).charge
        → Caps (stall c) qs (charged c (first_piece p x w)) k (least_live (with_first c qs p x w)) r → Starts c qs p (r - (k - x))
    starts-capped e x w k r ends starts at charge caps =
        let is : k ≡ x + extra c p = charge ∙ first-charge c p x w in (
          omega (arith, caps.most, starts.0),
          λ z u low high fits. elim (dec_lt x z) [
            | yes above ↦ starts.1 z u above high fits
            | no below ↦ omega (
              arith,
              caps.caps (z + extra c p) (omega arith) (holding-below c qs p recurs ok x z u w fits (omega (arith, ends z u (omega arith) fits))),
            )
          ],
        )
