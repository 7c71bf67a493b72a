-- How the least slack of a span is found: by hunts. A hunt finds the greatest length at which the demand, with a bar added, is above the length; with no bar that is the
-- verdict's own walk. It is a way and no meaning; the laws are in `proofs/HuntLaws.antt`, for any demand g that does not fall on either side of w.
--
--   Rises g w            g does not fall from t to u, unless w lies between them
--   raised g bar         the demand with the bar added: "slack below the bar" is "overloaded" there
--   Hit g a l t          t is the greatest length of the l from a that is overloaded
--   Hunts g bar a l r    r is that length with the bar added, and the demand there; or says that there is none
--   Level g w a t r      r is t, or a shorter length from a, on t's side of w, with the same demand
--   Seeks g a l r        r is the greatest overloaded length of the l from a, or, where there is none, the length with the least slack; and the demand there
--   Leads g a l best end     no length of the l from a which is not below `end` has less slack than `best`, and `best` is not above it
use Rattle.std.specs.Prelude.{◌≡◌, None, Some, Option, ℕ, ◌+◌, ◌-◌, ◌≤◌, ◌<◌}
use Rattle.demand.specs.Why.{slack, least_slack}
use Rattle.verdicts.specs.declared.slacks.Sought.{Sought}
use Rattle.verdicts.specs.declared.slacks.Sought.TheVariants.{Over, Least}
use Rattle.verdicts.specs.declared.spans.Spot.{Spot}

abbrev pub Rises : (ℕ → ℕ) → ℕ → Type 0
Rises g w = (t u : ℕ) → t ≤ u → (w ≤ u → w ≤ t) → g t ≤ g u

abbrev pub raised : (ℕ → ℕ) → ℕ → ℕ → ℕ
raised g bar t = g t + bar

abbrev pub Quiet : (ℕ → ℕ) → ℕ → ℕ → Type 0
Quiet g a e = (u : ℕ) → a ≤ u → u < e → g u ≤ u

pub record Hit (g : ℕ → ℕ) (a l t : ℕ) : Type 0 where
  pub from : a ≤ t
  pub below : t < a + l
  pub over : t < g t
  pub quiet : Quiet g (t + 1) (a + l)

abbrev pub Hunts : (ℕ → ℕ) → ℕ → ℕ → ℕ → Option Spot → Type 0
Hunts g bar a l (Some r) = Hit (raised g bar) a l r.length × (r.demand ≡ g r.length)
Hunts g bar a l None = Quiet (raised g bar) a (a + l)

pub record Level (g : ℕ → ℕ) (w a t r : ℕ) : Type 0 where
  pub from : a ≤ r
  pub upto : r ≤ t
  pub same : g r ≡ g t
  pub side : w ≤ t → w ≤ r

pub record Leads (g : ℕ → ℕ) (a l best end : ℕ) : Type 0 where
  pub from : a ≤ best
  pub upto : best ≤ end
  pub below : best < a + l
  pub inside : end ≤ a + l
  pub least : (u : ℕ) → end ≤ u → u < a + l → slack g best ≤ slack g u

-- where there is no overloaded length in the span, the length with the least slack
abbrev pub Seeks : (ℕ → ℕ) → ℕ → ℕ → Sought → Type 0
Seeks g a l (Over r) = Hit g a l r.length × (r.demand ≡ g r.length)
Seeks g a l (Least r) = Quiet g a (a + l) × (r.length ≡ least_slack g a (l - 1)) × (r.demand ≡ g r.length)
