-- Laws of the verdict, over charged pieces. `Judgement.antt` says them of the pieces of a core.
-- Assumes nothing.
--
--   says-unique           what a span says is one, so that the descent and `scan` agree
--   verdict-means         the executable definition satisfies the meaning
--   verdict-unique        two verdicts that satisfy the meaning coincide
--   passes-forever        "passes" covers every live length without end
use Rattle.std.specs.Prelude.{None, Option, Some}
use mathlib.Core.Path.{◌≡◌, refl, sym, ap, subst}
use mathlib.Core.Bool.{Bool, true, false}
use mathlib.Core.List.{List, [], ◌∷◌}
use mathlib.Core.Logic.{◌⊎◌, ⊎_elim}
use Prim.Native.Nat.{ℕ, zero, suc, ◌+◌, ◌-◌, ◌≤◌}
use native.Mathlib.Nat.{not-suc-le-zero}
use native.Mathlib.Decide.{dec_lt}
use native.Mathlib.Omega.{arith}
use borrow.Author.Tests.{ltb-true, ltb-false}
use lib.Dec.{ltb}
use lib.ListN.{length}
use Rattle.demand.specs.declared.Charged.{Charged}
use Rattle.demand.specs.declared.Verdict.{Verdict}
use Rattle.demand.specs.declared.Verdict.TheVariants.{Passes, Overloaded, Undecided}
use Rattle.demand.specs.Sizes.{Each, busy_most}
use Rattle.demand.specs.Demand.{demand, Live, least_live}
use Rattle.demand.specs.Busy.{Least, Holds, Finds, busy_sum, busy_length}
use Rattle.demand.specs.Verdict.{Judged, Calm, Says, Means, scan, over_span, verdict}
use Rattle.demand.proofs.DemandLaws.{Recurs, demand-add, least-live-least}
use Rattle.demand.proofs.BusyLaws.{least-le, least-unique, busy-length-finds}

-- ---- what a span says

pub says-unique : (b : ℕ) (qs : List Charged) (a l : ℕ) (v w : Verdict) → Says b qs a l v → Says b qs a l w → v ≡ w
says-unique b qs a l Passes Passes p q = refl
says-unique b qs a l Passes (Overloaded u) p q = absurd (omega (arith, p u q.from q.below))
says-unique b qs a l Passes Undecided p q = absurd q
says-unique b qs a l (Overloaded t) Passes p q = absurd (omega (arith, q t p.from p.below))
says-unique b qs a l (Overloaded t) (Overloaded u) p q = elim (dec_lt t u) [
  | yes h ↦ absurd (omega (arith, p.calm u (omega arith) q.below))
  | no h ↦ elim (dec_lt u t) [
    | yes g ↦ absurd (omega (arith, q.calm t (omega arith) p.below))
    | no g ↦ ap Overloaded (omega arith)
  ]
]
says-unique b qs a l (Overloaded t) Undecided p q = absurd q
says-unique b qs a l Undecided w p q = absurd p

module _ (b : ℕ) (qs : List Charged) (a l : ℕ) where
  scan-down : (k : ℕ) → k ≤ l → Calm b qs (a + k) (a + l) → Says b qs a l (scan b qs a k)
  scan-down zero h calm = λ u from below. calm u (omega arith) below
  scan-down (suc k) h calm = look (ltb (a + k) (demand b qs (a + k))) refl (λ fine. scan-down k (omega arith) (wider fine))
    where
      wider : demand b qs (a + k) ≤ a + k → Calm b qs (a + k) (a + l)
      wider fine u from below = elim (dec_lt (a + k) u) [
        | yes above ↦ calm u (omega arith) below
        | no under ↦ (let e : u ≡ a + k = omega arith in rw e fine)
      ]

      look : (o : Bool) → ltb (a + k) (demand b qs (a + k)) ≡ o → (demand b qs (a + k) ≤ a + k → Says b qs a l (scan b qs a k))
          → Says b qs a l (elim o [ true ↦ Overloaded (a + k) | false ↦ scan b qs a k ])
      look true e more = record {
        from = omega arith;
        below = omega arith;
        over = ltb-true (a + k) (demand b qs (a + k)) e;
        calm = λ u from below. calm u (omega arith) below;
      }
      look false e more = more (ltb-false (a + k) (demand b qs (a + k)) e)

  pub scan-says : Says b qs a l (scan b qs a l)
  scan-says = scan-down l (omega arith) (λ u from below. absurd (omega arith))

  pub scan-is : (v : Verdict) → Says b qs a l v → v ≡ scan b qs a l
  scan-is v says = says-unique b qs a l v (scan b qs a l) says scan-says

-- ---- the executable definition satisfies the meaning

says-means : (b : ℕ) (qs : List Charged) (a l : ℕ) → Judged qs a l → (v : Verdict) → Says b qs a l v → Means b qs v
says-means b qs a l span Passes says = ◌⊎◌.inr (a, l, span, says)
says-means b qs a l span (Overloaded t) says = (a, l, span, says)
says-means b qs a l span Undecided says = absurd says

span-means : (b : ℕ) (qs : List Charged) (a : ℕ) → Least (Live qs) a → (r : Option ℕ) → Finds (busy_sum qs) busy_most r → Means b qs (over_span b qs a r)
span-means b qs a start (Some l) found = says-means b qs a l (record { start = start; busy = found.0; within = found.1 }) (scan b qs a l) (scan-says b qs a l)
span-means b qs a start None none = none

pub verdict-means : (b : ℕ) (qs : List Charged) → Means b qs (verdict b qs)
unfolding verdict
verdict-means b [] = ◌⊎◌.inl refl
verdict-means b (q ∷ qs) = span-means b (q ∷ qs) (least_live (q ∷ qs)) (least-live-least q qs) (busy_length (q ∷ qs)) (busy-length-finds (q ∷ qs))

-- where there is a piece the span decides
pub verdict-span : (b : ℕ) (qs : List Charged) → 1 ≤ length qs → verdict b qs ≡ over_span b qs (least_live qs) (busy_length qs)
unfolding verdict
verdict-span b [] some = absurd (not-suc-le-zero some)
verdict-span b (q ∷ qs) some = refl

pub verdict-empty : (b : ℕ) → verdict b [] ≡ Passes
unfolding verdict
verdict-empty b = refl

-- ---- the meaning has one answer

empty-dead : (t : ℕ) → Live [] t → ⊥
unfolding Live
empty-dead t live = live

empty-idle : Holds (busy_sum []) 1
unfolding busy_sum
empty-idle = record { some = omega arith; fits = omega arith }

none-live : (qs : List Charged) (t : ℕ) → qs ≡ [] → Live qs t → ⊥
none-live qs t e live = empty-dead t (subst (λ (xs : List Charged). Live xs t) e live)

none-busy : (qs : List Charged) → qs ≡ [] → Holds (busy_sum qs) 1
none-busy qs e = subst (λ (xs : List Charged). Holds (busy_sum xs) 1) (sym e) empty-idle

judged-undecided : (b : ℕ) (qs : List Charged) {a l : ℕ} → Judged qs a l → Means b qs Undecided → ⊥
judged-undecided b qs {a} {l} span none = none l span.within span.busy.here

-- two spans of one core are the same, so what they say is
spans-agree : (b : ℕ) (qs : List Charged) {a l c m : ℕ} → Judged qs a l → Judged qs c m → (v w : Verdict) → Says b qs a l v → Says b qs c m w → v ≡ w
spans-agree b qs {a} {l} {c} {m} p q v w says other =
    says-unique b qs a l v w says (subst (λ (x : ℕ). Says b qs x l w) (least-unique q.start p.start)
    (subst (λ (y : ℕ). Says b qs c y w) (least-unique q.busy p.busy) other))

pub verdict-unique : (b : ℕ) (qs : List Charged) (v w : Verdict) → Means b qs v → Means b qs w → v ≡ w
verdict-unique b qs Passes Passes p q = refl
verdict-unique b qs Passes (Overloaded u) p q =
    ⊎_elim (λ e. absurd (none-live qs q.0 e q.2.start.here)) (λ h. spans-agree b qs h.2 q.2 Passes (Overloaded u) h.3 q.3) p
verdict-unique b qs Passes Undecided p q = absurd (⊎_elim (λ e. q 1 (omega arith) (none-busy qs e)) (λ h. judged-undecided b qs h.2 q) p)
verdict-unique b qs (Overloaded t) Passes p q =
    ⊎_elim (λ e. absurd (none-live qs p.0 e p.2.start.here)) (λ h. spans-agree b qs p.2 h.2 (Overloaded t) Passes p.3 h.3) q
verdict-unique b qs (Overloaded t) (Overloaded u) p q = spans-agree b qs p.2 q.2 (Overloaded t) (Overloaded u) p.3 q.3
verdict-unique b qs (Overloaded t) Undecided p q = absurd (judged-undecided b qs p.2 q)
verdict-unique b qs Undecided Passes p q = absurd (⊎_elim (λ e. p 1 (omega arith) (none-busy qs e)) (λ h. judged-undecided b qs h.2 p) q)
verdict-unique b qs Undecided (Overloaded u) p q = absurd (judged-undecided b qs q.2 p)
verdict-unique b qs Undecided Undecided p q = refl

-- ---- "passes" covers every live length without end

module _ (b : ℕ) (qs : List Charged) (recurs : Each Recurs qs) (a l : ℕ) (busy : Holds (busy_sum qs) l) (calm : Calm b qs a (a + l)) where
  -- by steps of l, n of them at the most
  calm-after : (n t : ℕ) → a ≤ t → t ≤ a + n → demand b qs t ≤ t
  calm-after zero t from near = calm t from (omega arith)
  calm-after (suc n) t from near = elim (dec_lt t (a + l)) [
    | yes inside ↦ calm t from inside
    | no past ↦
        let e : t - l + l ≡ t = omega arith in
        omega (arith, rw e at (demand-add qs recurs b (t - l) l), calm-after n (t - l) (omega arith) (omega arith))
  ]

  pub calm-forever : (t : ℕ) → a ≤ t → demand b qs t ≤ t
  calm-forever t from = calm-after t t from (omega arith)

pub passes-forever : (b : ℕ) (qs : List Charged) → Each Recurs qs → Means b qs Passes → (t : ℕ) → Live qs t → demand b qs t ≤ t
passes-forever b qs recurs means t live =
    ⊎_elim (λ e. absurd (none-live qs t e live))
    (λ h. calm-forever b qs recurs h.0 h.1 h.2.busy.here h.3 t (least-le h.2.start t live)) means
