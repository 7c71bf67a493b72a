-- The size rules as tests say what they say as records.
-- Assumes nothing.
--
--   tells-exact                 a test that tells a rule holds exactly where the rule does
--   tells-bounds                several bounds at once
--   sized-exact, costs-exact    the two size rules hold exactly where their tests do
--   sized-is, sized-costs-is, countable-is, ranged-is     a test that tells the rule is the definition's
--   window-most, budget-recurs  what else the size rule says: a window is at most 1,000,000, a budget at most its period
--   first-bad-none              no bad place: all records are within the sizes
--   first-bad-good, -here       one record more
--   first-bad-there             the first bad record is told by its place
--   first-bad-behind, first-bad-front   one record behind all: it is looked at last
use mathlib.Core.Path.{◌≡◌, refl, sym, ◌∙◌}
use mathlib.Core.Bool.{Bool, true, false, cond, ◌&&◌, true≢false}
use mathlib.Core.Logic.{◌↔◌}
use mathlib.Core.List.{List, [], ◌∷◌, ◌++◌}
use Prim.Native.Nat.{ℕ, zero, suc, ◌+◌, ◌≤◌, ◌<◌}
use native.Mathlib.Nat.{add-zero, not-suc-le-zero, le_of_suc-le-suc}
use native.Mathlib.Numerals.{add-one}
use native.Mathlib.Omega.{arith}
use borrow.Author.Rules.{rules}
use borrow.Author.Tests.{leb-true, leb-false}
use lib.Dec.{leb}
use lib.ListN.{length, take, drop, get_or}
use lib.Seq.{drop-cons}
use Rattle.demand.specs.declared.Piece.{Piece}
use Rattle.demand.specs.declared.Costs.{Costs}
use Rattle.demand.specs.Sizes.{time_most, cost_most, SizedCosts, Sized, sized_costs, sized, Tells, Each}
use Rattle.demand.specs.declared.Charged.{Charged}
use Rattle.demand.specs.Ways.Ranges.{Countable, countable, Ranged, ranged, charge_most, release_most}
use Rattle.demand.specs.Answer.{first_bad}

-- ---- tests

module _ (P : Type 0) where
  pub tells-unique : (a b : Bool) → Tells P a → Tells P b → a ≡ b
  tells-unique true true p q = refl
  tells-unique true false p q = absurd (q p)
  tells-unique false true p q = absurd (p q)
  tells-unique false false p q = refl

  pub tells-exact : (a : Bool) → Tells P a → (a ≡ true) ↔ P
  tells-exact true p = ((λ e. p), λ h. refl)
  tells-exact false p = ((λ e. absurd (true≢false (sym e))), λ h. absurd (p h))

  pub tells_as : (Q : Type 0) → (P → Q) → (Q → P) → (a : Bool) → Tells P a → Tells Q a
  tells_as Q to from true p = to p
  tells_as Q to from false p = λ q. p (from q)

  pub tells_both : (Q : Type 0) (a b : Bool) → Tells P a → Tells Q b → Tells (P × Q) (a && b)
  tells_both Q true true p q = (p, q)
  tells_both Q true false p q = λ h. q h.1
  tells_both Q false true p q = λ h. p h.0
  tells_both Q false false p q = λ h. p h.0

pub tells-leb : (m n : ℕ) → Tells (m ≤ n) (leb m n)
tells-leb m n = look (leb m n) refl
  where
    look : (b : Bool) → leb m n ≡ b → Tells (m ≤ n) b
    look true e = leb-true m n e
    look false e = λ h. omega (arith, leb-false m n e)

-- several bounds, each a pair of numbers
abbrev pub Bounds : List (ℕ × ℕ) → Type 0
Bounds [] = Unit {0}
Bounds (b ∷ bs) = Bounds bs × (b.0 ≤ b.1)

abbrev pub bounds : List (ℕ × ℕ) → Bool
bounds [] = true
bounds (b ∷ bs) = bounds bs && leb b.0 b.1

pub tells-bounds : (bs : List (ℕ × ℕ)) → Tells (Bounds bs) (bounds bs)
tells-bounds [] = tt
tells-bounds (b ∷ bs) = tells_both (Bounds bs) (b.0 ≤ b.1) (bounds bs) (leb b.0 b.1) (tells-bounds bs) (tells-leb b.0 b.1)

sized-bounds : Piece → List (ℕ × ℕ)
sized-bounds p = (p.migrate, cost_most) ∷ (p.preempt, cost_most) ∷ (p.jitter, time_most) ∷ (p.period, time_most) ∷ (p.window, p.period)
    ∷ (p.budget, p.window) ∷ (1, p.budget) ∷ []

pub tells-sized : (p : Piece) → Tells (Sized p) (sized p)
unfolding sized sized-bounds
tells-sized p =
    tells_as (Bounds (sized-bounds p)) (Sized p) (λ b. record {
      budget-some = omega arith;
      budget-fits = omega arith;
      window-fits = omega arith;
      period-fits = omega arith;
      jitter-fits = omega arith;
      preempt-fits = omega arith;
      migrate-fits = omega arith;
    })
    (λ s. search rules) (sized p) (tells-bounds (sized-bounds p))

sized-costs-bounds : Costs → List (ℕ × ℕ)
sized-costs-bounds c = (c.precision, cost_most) ∷ (c.ipij, cost_most) ∷ (c.ipio, cost_most) ∷ (c.migro, cost_most) ∷ (c.beto, cost_most)
    ∷ (c.ipb, cost_most) ∷ (c.tseto, cost_most) ∷ (c.schedo, cost_most) ∷ (c.relo, cost_most) ∷ []

pub tells-costs : (c : Costs) → Tells (SizedCosts c) (sized_costs c)
unfolding sized_costs sized-costs-bounds
tells-costs c =
    tells_as (Bounds (sized-costs-bounds c)) (SizedCosts c)
    (λ b. record {
      relo-fits = omega arith;
      schedo-fits = omega arith;
      tseto-fits = omega arith;
      ipb-fits = omega arith;
      beto-fits = omega arith;
      migro-fits = omega arith;
      ipio-fits = omega arith;
      ipij-fits = omega arith;
      precision-fits = omega arith;
    })
    (λ s. search rules) (sized_costs c) (tells-bounds (sized-costs-bounds c))

countable-bounds : Piece → List (ℕ × ℕ)
countable-bounds p = (p.migrate, cost_most) ∷ (p.preempt, cost_most) ∷ (p.jitter, time_most) ∷ (p.period, time_most) ∷ (1, p.period)
    ∷ (p.window, time_most) ∷ (p.budget, time_most) ∷ []

pub tells-countable : (p : Piece) → Tells (Countable p) (countable p)
unfolding countable countable-bounds
tells-countable p =
    tells_as (Bounds (countable-bounds p)) (Countable p) (λ b. record {
      budget-fits = omega arith;
      window-fits = omega arith;
      period-some = omega arith;
      period-fits = omega arith;
      jitter-fits = omega arith;
      preempt-fits = omega arith;
      migrate-fits = omega arith;
    })
    (λ s. search rules) (countable p) (tells-bounds (countable-bounds p))

pub countable-is : (p : Piece) (b : Bool) → Tells (Countable p) b → b ≡ countable p
countable-is p b tells = tells-unique (Countable p) b (countable p) tells (tells-countable p)

ranged-bounds : Charged → List (ℕ × ℕ)
ranged-bounds q = (q.ipij, cost_most) ∷ (q.ipi, cost_most) ∷ (q.release, release_most) ∷ (q.charge, charge_most) ∷ (q.jitter, time_most)
    ∷ (q.window, time_most) ∷ (q.period, time_most) ∷ (1, q.period) ∷ []

pub tells-ranged : (q : Charged) → Tells (Ranged q) (ranged q)
unfolding ranged ranged-bounds
tells-ranged q =
    tells_as (Bounds (ranged-bounds q)) (Ranged q) (λ b. record {
      period-some = omega arith;
      period-fits = omega arith;
      window-fits = omega arith;
      jitter-fits = omega arith;
      charge-fits = omega arith;
      release-fits = omega arith;
      ipi-fits = omega arith;
      ipij-fits = omega arith;
    })
    (λ s. search rules) (ranged q) (tells-bounds (ranged-bounds q))

pub ranged-is : (q : Charged) (b : Bool) → Tells (Ranged q) b → b ≡ ranged q
ranged-is q b tells = tells-unique (Ranged q) b (ranged q) tells (tells-ranged q)

pub sized-is : (p : Piece) (b : Bool) → Tells (Sized p) b → b ≡ sized p
sized-is p b tells = tells-unique (Sized p) b (sized p) tells (tells-sized p)

pub sized-costs-is : (c : Costs) (b : Bool) → Tells (SizedCosts c) b → b ≡ sized_costs c
sized-costs-is c b tells = tells-unique (SizedCosts c) b (sized_costs c) tells (tells-costs c)

pub sized-exact : (p : Piece) → (sized p ≡ true) ↔ Sized p
sized-exact p = tells-exact (Sized p) (sized p) (tells-sized p)

pub costs-exact : (c : Costs) → (sized_costs c ≡ true) ↔ SizedCosts c
costs-exact c = tells-exact (SizedCosts c) (sized_costs c) (tells-costs c)

pub window-most : (p : Piece) → Sized p → p.window ≤ time_most
window-most p ok = omega arith

pub budget-recurs : (p : Piece) → Sized p → p.budget ≤ p.period
budget-recurs p ok = omega arith

-- ---- the first bad record

first-bad-step : (k : ℕ) (p : Piece) (ps : List Piece) (b : Bool) → sized p ≡ b → first_bad k (p ∷ ps) ≡ cond b (first_bad (k + 1) ps) k
first-bad-step k p ps b e = rw e

module _ (ps : List Piece) (i : ℕ) (d : Piece) (inside : i < length ps) where
  pub first-bad-good : sized (get_or ps i d) ≡ true → first_bad (i + 1) (drop i ps) ≡ first_bad (i + 1 + 1) (drop (i + 1) ps)
  first-bad-good e = rw (add-one, drop-cons ps i d) (first-bad-step (suc i) (get_or ps i d) (drop (suc i) ps) true e)

  pub first-bad-here : sized (get_or ps i d) ≡ false → first_bad (i + 1) (drop i ps) ≡ i + 1
  first-bad-here e = rw (drop-cons ps i d) (first-bad-step (i + 1) (get_or ps i d) (drop (suc i) ps) false e)

pub first-bad-none : (k : ℕ) (ps : List Piece) → first_bad (suc k) ps ≡ 0 → Each Sized ps
first-bad-none k [] e = tt
first-bad-none k (p ∷ ps) e =
    look (sized p) refl (λ rest. first-bad-none (suc k) ps rest) (λ good. rw add-one at (sym (first-bad-step (suc k) p ps true good) ∙ e))
    (λ bad. sym (first-bad-step (suc k) p ps false bad) ∙ e)
  where
    look : (b : Bool) → sized p ≡ b → (first_bad (suc (suc k)) ps ≡ 0 → Each Sized ps) → (sized p ≡ true → first_bad (suc (suc k)) ps ≡ 0)
        → (sized p ≡ false → suc k ≡ 0) → Each Sized (p ∷ ps)
    look true good rest more never = ((sized-exact p).0 good, rest (more good))
    look false bad rest more never = absurd (omega (arith, never bad))

pub first-bad-there : (k i : ℕ) (ps : List Piece) (d : Piece) → i < length ps → Each Sized (take i ps) → sized (get_or ps i d) ≡ false → first_bad k ps ≡ k + i
first-bad-there k i [] d inside ok bad = absurd (not-suc-le-zero inside)
first-bad-there k zero (p ∷ ps) d inside ok bad = first-bad-step k p ps false bad ∙ sym (add-zero k)
first-bad-there k (suc i) (p ∷ ps) d inside ok bad =
    let e : k + 1 + i ≡ k + suc i = omega arith in
    first-bad-step k p ps true ((sized-exact p).1 ok.0) ∙ (first-bad-there (k + 1) i ps d (le_of_suc-le-suc inside) ok.1 bad ∙ e)

pub first-bad-behind : (k : ℕ) (ps : List Piece) (p : Piece) → Each Sized ps → first_bad k (ps ++ (p ∷ [])) ≡ cond (sized p) 0 (k + length ps)
first-bad-behind k [] p ok = rw add-zero
first-bad-behind k (q ∷ ps) p ok =
    let e : k + 1 + length ps ≡ k + suc (length ps) = omega arith in
    first-bad-step k q (ps ++ (p ∷ [])) true ((sized-exact q).1 ok.0) ∙ (first-bad-behind (k + 1) ps p ok.1 ∙ rw e)

pub first-bad-front : (k j : ℕ) (ps qs : List Piece) → first_bad (suc k) ps ≡ suc j → first_bad (suc k) (ps ++ qs) ≡ suc j
first-bad-front k j [] qs e = absurd (omega arith)
first-bad-front k j (p ∷ ps) qs e = look (sized p) refl (λ rest. first-bad-front (suc k) j ps qs rest)
  where
    look : (b : Bool) → sized p ≡ b → (first_bad (suc (suc k)) ps ≡ suc j → first_bad (suc (suc k)) (ps ++ qs) ≡ suc j)
        → first_bad (suc k) (p ∷ (ps ++ qs)) ≡ suc j
    look true good more =
        let rest : first_bad (suc (suc k)) ps ≡ suc j = rw add-one at (sym (first-bad-step (suc k) p ps true good) ∙ e) in
        first-bad-step (suc k) p (ps ++ qs) true good ∙ rw add-one (more rest)
    look false bad more = first-bad-step (suc k) p (ps ++ qs) false bad ∙ (sym (first-bad-step (suc k) p ps false bad) ∙ e)
