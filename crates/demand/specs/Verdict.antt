-- The verdict on a core: document 01, "Verdict on a core". First what it means, by records, then the same as a function that computes.
-- `proofs/VerdictLaws.antt` has that the meaning has one answer, that the function gives it, and that "passes" covers every live length.
--
--   Judged qs t₀ l        the span judged: l lengths from t₀, the least live one, with l the busy length
--   Calm b qs a e         no length from a, below e, is overloaded
--   Worst b qs t₀ l t     t is the greatest overloaded length of the span
--   Means b qs v          the verdict v is right for the core
--   Bounded qs            there is no piece, or a busy length within the limit
--   KeepsUp b qs          no length at which a job is due, however long, asks for more than itself
--   verdict b qs          the right verdict
--   verdict_of c ps        the verdict on the pieces ps at the costs c
use Rattle.std.specs.Prelude.{true, false, ◌≡◌, List, [], ◌∷◌, ◌⊎◌, ℕ, zero, suc, ◌+◌, ◌≤◌, ◌<◌, ltb, None, Option, Some}
use Rattle.demand.specs.declared.Piece.{Piece}
use Rattle.demand.specs.declared.Costs.{Costs}
use Rattle.demand.specs.declared.Charged.{Charged}
use Rattle.demand.specs.declared.Verdict.{Verdict}
use Rattle.demand.specs.declared.Verdict.TheVariants.{Passes, Overloaded, Undecided}
use Rattle.demand.specs.Sizes.{busy_most}
use Rattle.demand.specs.Charge.{core_of, stall}
use Rattle.demand.specs.Demand.{demand, Live, least_live}
use Rattle.demand.specs.Busy.{Least, Holds, busy_sum, busy_length}

pub record Judged (qs : List Charged) (t₀ l : ℕ) : Type 0 where
  pub start : Least (Live qs) t₀
  pub busy : Least (Holds (busy_sum qs)) l
  pub within : l ≤ busy_most

abbrev pub Calm : ℕ → List Charged → ℕ → ℕ → Type 0
Calm b qs a e = (u : ℕ) → a ≤ u → u < e → demand b qs u ≤ u

pub record Worst (b : ℕ) (qs : List Charged) (t₀ l t : ℕ) : Type 0 where
  pub from : t₀ ≤ t
  pub below : t < t₀ + l
  pub over : t < demand b qs t
  pub calm : Calm b qs (t + 1) (t₀ + l)

-- what the l lengths from t₀ say
abbrev pub Says : ℕ → List Charged → ℕ → ℕ → Verdict → Type 0
Says b qs t₀ l Passes = Calm b qs t₀ (t₀ + l)
Says b qs t₀ l (Overloaded t) = Worst b qs t₀ l t
Says b qs t₀ l Undecided = ⊥

abbrev pub Means : ℕ → List Charged → Verdict → Type 0
Means b qs Passes = (qs ≡ []) ⊎ ((t₀ : ℕ) × (l : ℕ) × Judged qs t₀ l × Calm b qs t₀ (t₀ + l))
Means b qs (Overloaded t) = (t₀ : ℕ) × (l : ℕ) × Judged qs t₀ l × Worst b qs t₀ l t
Means b qs Undecided = (l : ℕ) → l ≤ busy_most → Holds (busy_sum qs) l → ⊥

-- "passes" in full: `proofs/Judgement.antt` has that these two say the same as its meaning over the judged span
abbrev pub Bounded : List Charged → Type 0
Bounded qs = (qs ≡ []) ⊎ ((l : ℕ) × Least (Holds (busy_sum qs)) l × (l ≤ busy_most))

abbrev pub KeepsUp : ℕ → List Charged → Type 0
KeepsUp b qs = (t : ℕ) → Live qs t → demand b qs t ≤ t

-- from the greatest of the k lengths from a down
abbrev pub scan : ℕ → List Charged → ℕ → ℕ → Verdict
scan b qs a zero = Passes
scan b qs a (suc k) = elim (ltb (a + k) (demand b qs (a + k))) [ true ↦ Overloaded (a + k) | false ↦ scan b qs a k ]

abbrev pub over_span : ℕ → List Charged → ℕ → Option ℕ → Verdict
over_span b qs t₀ None = Undecided
over_span b qs t₀ (Some l) = scan b qs t₀ l

unfoldable pub verdict : ℕ → List Charged → Verdict
verdict b [] = Passes
verdict b (q ∷ qs) = over_span b (q ∷ qs) (least_live (q ∷ qs)) (busy_length (q ∷ qs))

unfoldable pub verdict_of : Costs → List Piece → Verdict
verdict_of c ps = verdict (stall c) (core_of c ps)
