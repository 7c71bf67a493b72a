-- Laws of what is shown of a verdict: the terms add up to the total, and each verdict shows what document 02, E1, asks for.
-- Assumes nothing.
--
--   least-slack-one, least-slack-means, least-slack-is      the shortest length with the least slack is one, and `least_slack` gives it
--   ask-adds, shown-adds                        the blocking and what the pieces ask for add up to the total
--   shown-beyond, shown-over, shown-calm        what is shown, as the engine comes to it
--   shown-verdict                               the verdict that is named is the verdict
--   shown-overloaded                            overloaded: at its own length, which asks for more than itself
--   shown-passes                                passes: at a live length of the judged span, with the least slack, the shortest if several
--   shown-undecided                             undecided: the busy sum at the limit, which is above it
--   shown-empty                                 no piece: nothing but the verdict
use Rattle.std.specs.Prelude.{None, Option, Some}
use mathlib.Core.Path.{◌≡◌, refl, sym, ap, subst, ◌∙◌}
use mathlib.Core.List.{List, [], ◌∷◌}
use mathlib.Core.Logic.{⊎_elim}
use Prim.Native.Nat.{ℕ, zero, suc, ◌+◌, ◌-◌, ◌≤◌, ◌<◌}
use native.Mathlib.Decide.{dec_lt}
use native.Mathlib.Omega.{arith}
use borrow.Author.Tests.{lt-ltb, le-ltb}
use lib.ListN.{length}
use Rattle.demand.specs.declared.Charged.{Charged}
use Rattle.demand.specs.declared.Verdict.{Verdict}
use Rattle.demand.specs.declared.Verdict.TheVariants.{Passes, Overloaded, Undecided}
use Rattle.demand.specs.Sizes.{busy_most}
use Rattle.demand.specs.Demand.{total, blocking, load, demand, Live, least_live}
use Rattle.demand.specs.Busy.{Least, Finds, least_holding, busy_load, busy_sum, busy_length}
use Rattle.demand.specs.Verdict.{Judged, Calm, Means, scan, over_span, verdict}
use Rattle.demand.specs.Why.{slack, LeastSlack, tighter, least_slack, due_ask, busy_ask, ask_sum, tightest_over, length_shown, shown_at, core_shown}
use Rattle.demand.proofs.Sums.{total-same}
use Rattle.demand.proofs.BusyLaws.{least-unique, busy-length-finds}
use Rattle.demand.proofs.DemandLaws.{live-mono, least-live-least}
use Rattle.demand.proofs.VerdictLaws.{verdict-means, verdict-span, verdict-empty}

-- ---- the least slack

pub least-slack-one : (g : ℕ → ℕ) (a l t u : ℕ) → LeastSlack g a l t → LeastSlack g a l u → t ≡ u
least-slack-one g a l t u p q = elim (dec_lt t u) [
  | yes h ↦ absurd (omega (arith, q.shortest t p.from h, p.least u q.from q.below))
  | no h ↦ elim (dec_lt u t) [
    | yes k ↦ absurd (omega (arith, p.shortest u q.from k, q.least t p.from p.below))
    | no k ↦ omega arith
  ]
]

module _ (g : ℕ → ℕ) (a : ℕ) where
  tighter-new : (t u : ℕ) → slack g u < slack g t → tighter g t u ≡ u
  tighter-new t u h = simp (lt-ltb (slack g u) (slack g t) h)

  tighter-old : (t u : ℕ) → slack g t ≤ slack g u → tighter g t u ≡ t
  tighter-old t u h = simp (le-ltb (slack g u) (slack g t) h)

  same-slack : (v u : ℕ) → v ≤ u → u ≤ v → slack g v ≤ slack g u
  same-slack v u h k = let e : v ≡ u = omega arith in omega (arith, ap (slack g) e)

  -- one length more
  grown : (k t : ℕ) → LeastSlack g a (suc k) t → LeastSlack g a (suc (suc k)) (tighter g t (a + suc k))
  grown k t old = elim (dec_lt (slack g (a + suc k)) (slack g t)) [
    | yes new ↦
        rw (tighter-new t (a + suc k) new)
        (record {
          from = omega arith;
          below = omega arith;
          least = λ u from below. elim (dec_lt u (a + suc k)) [
            | yes h ↦ omega (arith, old.least u from (omega arith))
            | no h ↦ same-slack (a + suc k) u (omega arith) (omega arith)
          ];
          shortest = λ u from below. omega (arith, old.least u from (omega arith));
        })
    | no kept ↦
        rw (tighter-old t (a + suc k) (omega arith))
        (record {
          from = old.from;
          below = omega arith;
          least = λ u from below. elim (dec_lt u (a + suc k)) [
            | yes h ↦ old.least u from (omega arith)
            | no h ↦ omega (arith, same-slack (a + suc k) u (omega arith) (omega arith))
          ];
          shortest = old.shortest;
        })
  ]

  pub least-slack-means : (k : ℕ) → LeastSlack g a (suc k) (least_slack g a k)
  unfolding least_slack
  least-slack-means zero = record {
    from = omega arith;
    below = omega arith;
    least = λ u from below. same-slack a u (omega arith) (omega arith);
    shortest = λ u from below. absurd (omega arith);
  }
  least-slack-means (suc k) = grown k (least_slack g a k) (least-slack-means k)

  pub least-slack-of : (l : ℕ) → 1 ≤ l → LeastSlack g a l (least_slack g a (l - 1))
  least-slack-of l some = let e : suc (l - 1) ≡ l = omega arith in rw e at (least-slack-means (l - 1))

  pub least-slack-is : (l t : ℕ) → 1 ≤ l → LeastSlack g a l t → t ≡ least_slack g a (l - 1)
  least-slack-is l t some tight = least-slack-one g a l t (least_slack g a (l - 1)) tight (least-slack-of l some)

-- ---- the terms add up

due-adds : (t : ℕ) (q : Charged) → (due_ask t q).demand + (due_ask t q).interrupts ≡ load t q
unfolding due_ask load
due-adds t q = refl

busy-adds : (l : ℕ) (q : Charged) → (busy_ask l q).demand + (busy_ask l q).interrupts ≡ busy_load l q
unfolding busy_ask busy_load
busy-adds l q = omega arith

pub ask-adds : (b : ℕ) (qs : List Charged) (v : Verdict) (t : ℕ) → (shown_at b qs v t).blocking + total (ask_sum v t) qs ≡ (shown_at b qs v t).total
unfolding demand busy_sum
ask-adds b qs Passes t = ap (λ (n : ℕ). blocking b qs t + n) (total-same (ask_sum Passes t) (load t) (due-adds t) qs)
ask-adds b qs (Overloaded u) t = ap (λ (n : ℕ). blocking b qs t + n) (total-same (ask_sum (Overloaded u) t) (load t) (due-adds t) qs)
ask-adds b qs Undecided t = omega (arith, total-same (ask_sum Undecided t) (busy_load t) (busy-adds t) qs)

-- ---- what each verdict shows

pub least-live-is : (qs : List Charged) (t : ℕ) → Least (Live qs) t → least_live qs ≡ t
unfolding Live
least-live-is [] t least = absurd least.here
least-live-is (q ∷ qs) t least = least-unique (least-live-least q qs) least

module _ (b : ℕ) (qs : List Charged) where
  pub shown-verdict : (core_shown b qs).verdict ≡ verdict b qs
  unfolding core_shown
  shown-verdict = refl

  pub shown-adds : (core_shown b qs).blocking + total (ask_sum (verdict b qs) (core_shown b qs).length) qs ≡ (core_shown b qs).total
  unfolding core_shown
  shown-adds = ask-adds b qs (verdict b qs) (length_shown b qs (verdict b qs))

  pub shown-is : (v : Verdict) → verdict b qs ≡ v → core_shown b qs ≡ shown_at b qs v (length_shown b qs v)
  unfolding core_shown
  shown-is v e = ap (λ (w : Verdict). shown_at b qs w (length_shown b qs w)) e

  means : (v : Verdict) → verdict b qs ≡ v → Means b qs v
  means v e = subst (λ (w : Verdict). Means b qs w) e (verdict-means b qs)

  -- as the engine goes: by the busy length, then by the span
  pub shown-beyond : 1 ≤ length qs → busy_length qs ≡ None → core_shown b qs ≡ shown_at b qs Undecided busy_most
  shown-beyond some none = shown-is Undecided (verdict-span b qs some ∙ ap (over_span b qs (least_live qs)) none)

  module _ (some : 1 ≤ length qs) (l : ℕ) (busy : busy_length qs ≡ Some l) where
    verdict-is : verdict b qs ≡ scan b qs (least_live qs) l
    verdict-is = verdict-span b qs some ∙ ap (over_span b qs (least_live qs)) busy

    pub shown-over : (t : ℕ) → Overloaded t ≡ scan b qs (least_live qs) l → core_shown b qs ≡ shown_at b qs (Overloaded t) t
    shown-over t over = shown-is (Overloaded t) (verdict-is ∙ sym over)

    pub shown-calm : Passes ≡ scan b qs (least_live qs) l → core_shown b qs ≡ shown_at b qs Passes (least_slack (demand b qs) (least_live qs) (l - 1))
    shown-calm calm = shown-is Passes (verdict-is ∙ sym calm) ∙ ap (λ (r : Option ℕ). shown_at b qs Passes (tightest_over b qs r)) busy

  pub shown-overloaded : (t : ℕ) → verdict b qs ≡ Overloaded t → (core_shown b qs ≡ shown_at b qs (Overloaded t) t) × (t < demand b qs t)
  shown-overloaded t e = (shown-is (Overloaded t) e, (means (Overloaded t) e).3.over)

  pub shown-undecided : verdict b qs ≡ Undecided → (core_shown b qs ≡ shown_at b qs Undecided busy_most) × (busy_most < busy_sum qs busy_most)
  shown-undecided e = (shown-is Undecided e, beyond (means Undecided e))
    where
      beyond : Means b qs Undecided → busy_most < busy_sum qs busy_most
      beyond none = elim (dec_lt busy_most (busy_sum qs busy_most)) [
        | yes more ↦ more
        | no fits ↦ absurd (none busy_most (omega arith) (record { some = omega arith; fits = omega arith }))
      ]

  -- a pass: the least slack of the judged span
  tightest : (t₀ l : ℕ) → Judged qs t₀ l → LeastSlack (demand b qs) t₀ l (length_shown b qs Passes)
  tightest t₀ l span = by (busy_length qs) (busy-length-finds qs)
    where
      start : least_live qs ≡ t₀
      start = least-live-is qs t₀ span.start

      by : (r : Option ℕ) → Finds (busy_sum qs) busy_most r → LeastSlack (demand b qs) t₀ l (tightest_over b qs r)
      by (Some m) found =
          let same : m ≡ l = least-unique found.0 span.busy in
          rw (same, start) (least-slack-of (demand b qs) t₀ l span.busy.here.some)
      by None none = absurd (none l span.within span.busy.here)

  pub shown-passes : verdict b qs ≡ Passes → (qs ≡ [] → ⊥) → (t : ℕ) × (t₀ : ℕ) × (l : ℕ) × Judged qs t₀ l × LeastSlack (demand b qs) t₀ l t
      × Live qs t × (demand b qs t ≤ t) × (core_shown b qs ≡ shown_at b qs Passes t)
  shown-passes e some = ⊎_elim (λ none. absurd (some none)) found (means Passes e)
    where
      found : (t₀ : ℕ) × (l : ℕ) × Judged qs t₀ l × Calm b qs t₀ (t₀ + l) → (t : ℕ) × (t₀ : ℕ) × (l : ℕ) × Judged qs t₀ l × LeastSlack (demand b qs) t₀ l t
          × Live qs t × (demand b qs t ≤ t) × (core_shown b qs ≡ shown_at b qs Passes t)
      found (t₀, l, span, calm) =
          let tight = tightest t₀ l span in (
            length_shown b qs Passes,
            t₀,
            l,
            span,
            tight,
            live-mono qs tight.from span.start.here,
            calm (length_shown b qs Passes) tight.from tight.below,
            shown-is Passes e,
          )

pub shown-empty : (b : ℕ) → core_shown b [] ≡ record { verdict = Passes; length = 0; blocking = 0; total = 0 }
unfolding core_shown
shown-empty b = ap (λ (w : Verdict). shown_at b [] w (length_shown b [] w)) (verdict-empty b) ∙ nothing
  where
    nothing : shown_at b [] Passes (length_shown b [] Passes) ≡ record { verdict = Passes; length = 0; blocking = 0; total = 0 }
    nothing = unfold busy_length least_holding blocking demand least_live least_slack busy_sum in refl
