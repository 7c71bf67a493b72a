-- Tables of refusals: document 01, "Refusal numbers". A table is a list of rules in the order in which they are looked at. Each rule has its number,
-- says when it is broken, and what its refusal carries. Records, lent bytes, states made by hand, edits and sheets have each a table of their own.
-- Definitions only: `proofs/TableLaws.antt` has that a table gives one answer.
--
--   n if P carrying c              the rule with the number n, broken where P holds, whose refusal carries c
--   Not P                          P does not hold
--   Gives rules n c                the refusal n with c is given: a rule with n and c is broken, and none before it
--   Kept rules                     no rule is broken
--   down_each rules after s k xs    the rules of each element in turn, by what stands above it and by its place, counted from k
--   below after s xs               what then stands below all of them
--   at_each rules k xs              the rules of each element in turn, where what stands above does not count
use Rattle.std.specs.Prelude.{◌≡◌, ◌⊎◌, List, [], ◌∷◌, ◌++◌, ℕ, ◌+◌}

infix 68 ◌if◌carrying◌
pub record Rule : Type 1 where
  pub number : ℕ
  pub Broken : Type 0
  pub carries : ℕ

abbrev pub ◌if◌carrying◌ : ℕ → Type 0 → ℕ → Rule
n if P carrying c = record { number = n; Broken = P; carries = c }

abbrev pub Not : Type 0 → Type 0
Not P = P → ⊥

-- the first rule that is broken decides
abbrev pub Gives : List Rule → ℕ → ℕ → Type 0
Gives [] n c = ⊥
Gives (r ∷ rules) n c = (r.Broken × (r.number ≡ n) × (r.carries ≡ c)) ⊎ (Not r.Broken × Gives rules n c)

abbrev pub Kept : List Rule → Type 0
Kept [] = Unit {0}
Kept (r ∷ rules) = Not r.Broken × Kept rules

-- a task's name may not stand above it, and a line's form depends on the lines above
abbrev pub down_each : {S A : Type 0} → (S → ℕ → A → List Rule) → (S → A → S) → S → ℕ → List A → List Rule
down_each rules after s k [] = []
down_each rules after s k (x ∷ xs) = rules s k x ++ down_each rules after (after s x) (k + 1) xs

abbrev pub below : {S A : Type 0} → (S → A → S) → S → List A → S
below after s [] = s
below after s (x ∷ xs) = below after (after s x) xs

abbrev pub at_each : {A : Type 0} → (ℕ → A → List Rule) → ℕ → List A → List Rule
at_each rules k [] = []
at_each rules k (x ∷ xs) = rules k x ++ at_each rules (k + 1) xs
