-- Laws of tables of refusals.
-- Assumes nothing.
--
--   gives_one, gives-not-kept     at most one answer: not two refusals, and none where the table is kept
--   FirstBroken, gives-first, first_gives     a refusal is given exactly where a rule with its number and carry is broken, and each before it is kept
--   Comes rules n c               looking at the rules from the top comes to n with c, or to 0 where none is broken
--   comes-some                    then there is an answer
--   comes-gives, comes-refused, comes-kept      what comes is exactly what the table says
--   comes-front, comes-before, comes-behind     one table behind another: the first refuses, or it is kept
--   comes-none                    and where all are kept
--   Breaks P t, breaks-…          the test t of a rule fails exactly where P holds
use mathlib.Core.Path.{◌≡◌, refl, sym, ap, subst, ◌∙◌}
use mathlib.Core.Bool.{Bool, true, false, not, true≢false}
use mathlib.Core.Logic.{◌⊎◌, inl, inr, ◌↔◌}
use mathlib.Core.List.{List, [], ◌∷◌, ◌++◌}
use Prim.Native.Nat.{ℕ, zero, suc, ◌≤◌, ◌<◌}
use native.Mathlib.Omega.{arith}
use borrow.Author.Tests.{leb-false, lt-leb, ltb-false, le-ltb, eqb-false, ne_eqb}
use lib.Dec.{leb, ltb, eqb}
use Rattle.demand.specs.Tables.{Rule, Not, Gives, Kept}

-- ---- at most one answer

pub gives_one : (rules : List Rule) (n c m d : ℕ) → Gives rules n c → Gives rules m d → (n ≡ m) × (c ≡ d)
gives_one [] n c m d g h = absurd g
gives_one (r ∷ rules) n c m d (inl g) (inl h) = (sym g.1 ∙ h.1, sym g.2 ∙ h.2)
gives_one (r ∷ rules) n c m d (inl g) (inr h) = absurd (h.0 g.0)
gives_one (r ∷ rules) n c m d (inr g) (inl h) = absurd (g.0 h.0)
gives_one (r ∷ rules) n c m d (inr g) (inr h) = gives_one rules n c m d g.1 h.1

pub gives-not-kept : (rules : List Rule) (n c : ℕ) → Gives rules n c → Kept rules → ⊥
gives-not-kept [] n c g h = g
gives-not-kept (r ∷ rules) n c (inl g) h = h.0 g.0
gives-not-kept (r ∷ rules) n c (inr g) h = gives-not-kept rules n c g.1 h.1

-- ---- the first broken rule

pub record FirstBroken (rules : List Rule) (n c : ℕ) : Type 1 where
  pub front : List Rule
  pub rule : Rule
  pub back : List Rule
  pub order : rules ≡ front ++ (rule ∷ back)
  pub kept-before : Kept front
  pub broken : rule.Broken
  pub number_is : rule.number ≡ n
  pub carries-is : rule.carries ≡ c

pub gives-first : (rules : List Rule) (n c : ℕ) → Gives rules n c → FirstBroken rules n c
gives-first [] n c g = absurd g
gives-first (r ∷ rules) n c (inl g) =
    record { front = []; rule = r; back = rules; order = refl; kept-before = tt; broken = g.0; number_is = g.1; carries-is = g.2 }
gives-first (r ∷ rules) n c (inr g) =
    let h = gives-first rules n c g.1 in
    record {
      front = r ∷ h.front;
      rule = h.rule;
      back = h.back;
      order = ap (λ (z : List Rule). r ∷ z) h.order;
      kept-before = (g.0, h.kept-before);
      broken = h.broken;
      number_is = h.number_is;
      carries-is = h.carries-is;
    }

gives_at : (front : List Rule) (r : Rule) (back : List Rule) → Kept front → r.Broken → Gives (front ++ (r ∷ back)) r.number r.carries
gives_at [] r back kept bad = inl (bad, refl, refl)
gives_at (q ∷ front) r back kept bad = inr (kept.0, gives_at front r back kept.1 bad)

pub first_gives : (rules : List Rule) (n c : ℕ) → FirstBroken rules n c → Gives rules n c
first_gives rules n c h =
    let here = gives_at h.front h.rule h.back h.kept-before h.broken in
    let so = subst (λ (m : ℕ). Gives (h.front ++ (h.rule ∷ h.back)) m h.rule.carries) h.number_is here in
    subst (λ (z : List Rule). Gives z n c) (sym h.order) (subst (Gives (h.front ++ (h.rule ∷ h.back)) n) h.carries-is so)

-- ---- what comes of looking from the top

pub data Comes : List Rule → ℕ → ℕ → Type 1 where
  none : {c : ℕ} → Comes [] 0 c
  here : {r : Rule} {rules : List Rule} {n c : ℕ} → r.Broken → r.number ≡ suc n → r.carries ≡ c → Comes (r ∷ rules) (suc n) c
  next : {r : Rule} {rules : List Rule} {n c : ℕ} → Not r.Broken → Comes rules n c → Comes (r ∷ rules) n c

come-gives : {rules : List Rule} {n c : ℕ} → Comes rules n c → (n ≡ 0 → ⊥) → Gives rules n c
come-gives none some = absurd (some refl)
come-gives (here bad number carries) some = inl (bad, number, carries)
come-gives (next good rest) some = inr (good, come-gives rest some)

come-kept : {rules : List Rule} {n c : ℕ} → Comes rules n c → n ≡ 0 → Kept rules
come-kept none e = tt
come-kept (here bad number carries) e = absurd (omega arith)
come-kept (next good rest) e = (good, come-kept rest e)

-- what comes is exactly what the table says
pub comes-kept : {rules : List Rule} {n c : ℕ} → Comes rules n c → (n ≡ 0) ↔ Kept rules
comes-kept {rules} {n} {c} comes = (come-kept comes, by n comes)
  where
    by : (m : ℕ) → Comes rules m c → Kept rules → m ≡ 0
    by zero so kept = refl
    by (suc m) so kept = absurd (gives-not-kept rules (suc m) c (come-gives so (λ e. omega arith)) kept)

told : {rules : List Rule} {n c : ℕ} → Comes rules n c → (m d : ℕ) → Gives rules m d → (n ≡ m) × (c ≡ d) × (n ≡ 0 → ⊥)
told {rules} {n} {c} comes m d gives = by n comes
  where
    by : (j : ℕ) → Comes rules j c → (j ≡ m) × (c ≡ d) × (j ≡ 0 → ⊥)
    by zero so = absurd (gives-not-kept rules m d gives (come-kept so refl))
    by (suc j) so = let one = gives_one rules (suc j) c m d (come-gives so (λ e. omega arith)) gives in (one.0, one.1, (λ e. omega arith))

pub comes-gives : {rules : List Rule} {n c : ℕ} → Comes rules n c → (m d : ℕ) → ((n ≡ m) × (c ≡ d) × (n ≡ 0 → ⊥)) ↔ Gives rules m d
comes-gives {rules} {n} {c} comes m d = (
  (λ is. subst (λ (k : ℕ). Gives rules k d) is.0 (subst (Gives rules n) is.1 (come-gives comes is.2))),
  told comes m d,
)

-- the same where a number is known not to be 0
pub comes-refused : {rules : List Rule} {n c : ℕ} → Comes rules n c → (m d : ℕ) → ((n ≡ suc m) × (c ≡ d)) ↔ Gives rules (suc m) d
comes-refused comes m d = (
  (λ is. (comes-gives comes (suc m) d).0 (is.0, is.1, (λ e. omega (arith, is.0)))),
  (λ gives. (let is = told comes (suc m) d gives in (is.0, is.1))),
)

-- so there is an answer
pub comes-some : {rules : List Rule} {n c : ℕ} → Comes rules n c → Kept rules ⊎ ((m : ℕ) × (d : ℕ) × Gives rules m d)
comes-some {rules} {n} {c} comes = by n comes
  where
    by : (j : ℕ) → Comes rules j c → Kept rules ⊎ ((m : ℕ) × (d : ℕ) × Gives rules m d)
    by zero so = inl (come-kept so refl)
    by (suc j) so = inr (suc j, c, come-gives so (λ e. omega arith))

-- ---- one table behind another

pub comes-front : {rules : List Rule} {n c : ℕ} → Comes rules (suc n) c → (more : List Rule) → Comes (rules ++ more) (suc n) c
comes-front {rules} {n} {c} comes more = by (suc n) comes (λ e. omega arith)
  where
    by : {rs : List Rule} (m : ℕ) → Comes rs m c → (m ≡ 0 → ⊥) → Comes (rs ++ more) m c
    by m none some = absurd (some refl)
    by m (here bad number carries) some = here bad number carries
    by m (next good rest) some = next good (by m rest some)

-- the same where the number is known only not to be 0
pub comes-before : {rules : List Rule} {n c : ℕ} → (n ≡ 0 → ⊥) → Comes rules n c → (more : List Rule) → Comes (rules ++ more) n c
comes-before {rules} {n} {c} some comes more = by n some comes
  where
    by : (m : ℕ) → (m ≡ 0 → ⊥) → Comes rules m c → Comes (rules ++ more) m c
    by zero never so = absurd (never refl)
    by (suc m) never so = comes-front so more

pub comes-behind : (rules : List Rule) → Kept rules → {more : List Rule} {n c : ℕ} → Comes more n c → Comes (rules ++ more) n c
comes-behind [] kept comes = comes
comes-behind (r ∷ rules) kept comes = next kept.0 (comes-behind rules kept.1 comes)

-- all rules are kept
pub comes-none : (rules : List Rule) (c : ℕ) → Kept rules → Comes rules 0 c
comes-none [] c kept = none
comes-none (r ∷ rules) c kept = next kept.0 (comes-none rules c kept.1)

-- ---- a rule by its test

-- the test fails exactly where the rule is broken
pub record Breaks (P : Type 0) (test : Bool) : Type 0 where
  pub breaks : test ≡ false → P
  pub fails : P → test ≡ false

pub breaks-kept : {P : Type 0} {test : Bool} → Breaks P test → test ≡ true → Not P
breaks-kept b good bad = true≢false (sym good ∙ b.fails bad)

-- a test that holds exactly where P does
pub breaks-exact : {P : Type 0} (t : Bool) → (t ≡ true) ↔ P → Breaks (Not P) t
breaks-exact true exact = record { breaks = λ e. absurd (true≢false e); fails = λ never. absurd (never (exact.0 refl)) }
breaks-exact false exact = record { breaks = λ e so. true≢false (sym (exact.1 so)); fails = λ never. refl }

pub breaks-negated : {P : Type 0} (t : Bool) → Breaks P t → Breaks (Not P) (not t)
breaks-negated true b = record { breaks = λ e. breaks-kept b refl; fails = λ never. refl }
breaks-negated false b = record { breaks = λ e. absurd (true≢false e); fails = λ never. absurd (never (b.breaks refl)) }

pub breaks-twice : {P : Type 0} (t : Bool) → Breaks P t → Breaks P (not (not t))
breaks-twice true b = b
breaks-twice false b = b

-- three tests of numbers
module _ (a b : ℕ) where
  pub breaks-leb : Breaks (b < a) (leb a b)
  breaks-leb = record { breaks = leb-false a b; fails = lt-leb a b }

  pub breaks-ltb : Breaks (b ≤ a) (ltb a b)
  breaks-ltb = record { breaks = ltb-false a b; fails = le-ltb a b }

  pub breaks-eqb : Breaks (Not (a ≡ b)) (eqb a b)
  breaks-eqb = record { breaks = eqb-false a b; fails = ne_eqb a b }
