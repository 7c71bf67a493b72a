-- The split of a task over the charged pieces qs of a core. It is a way and no meaning: what a split means stands in `specs/Split.antt`, and
-- `proofs/ChargedSplitLaws.antt` leads from here to there.
--
--   with_first c qs p x w   the core qs with the first piece of x behind, in the window w
--   last_alone c p x w      the core that the last piece has to itself
--   tight_beside c qs p x t what the first piece of x waits for within t
--   Tight c qs p x t       J + t is the tight window of the first piece of x
--   Fits c qs p x t        `Allowed`, over charged pieces
--   NoneAbove c g qs p x   no candidate above x fits
--   NoneBetween c qs p y x no budget above y, up to x, fits
--   Chosen c g qs p s      `Splits`, over charged pieces
--   TightIn c qs p x f     f is the tight window, where it leaves the last piece one
use Rattle.std.specs.Prelude.{◌≡◌, List, [], ◌∷◌, ◌++◌, ℕ, ◌+◌, ◌≤◌, ◌<◌, None, Option, Some}
use Rattle.demand.specs.declared.Piece.{Piece}
use Rattle.demand.specs.declared.Costs.{Costs}
use Rattle.demand.specs.declared.Charged.{Charged}
use Rattle.demand.specs.declared.Verdict.TheVariants.{Passes}
use Rattle.demand.specs.Charge.{charged, stall}
use Rattle.demand.specs.Busy.{Least, Holds, tight_sum}
use Rattle.demand.specs.Verdict.{verdict}
use Rattle.demand.specs.Split.{first_piece, last_piece, Candidate}
use Rattle.demand.specs.declared.Cut.{Cut}

unfoldable pub with_first : Costs → List Charged → Piece → ℕ → ℕ → List Charged
with_first c qs p x w = qs ++ (charged c (first_piece p x w) ∷ [])

unfoldable pub last_alone : Costs → Piece → ℕ → ℕ → List Charged
last_alone c p x w = charged c (last_piece c p x w) ∷ []

unfoldable pub tight_beside : Costs → List Charged → Piece → ℕ → ℕ → ℕ
tight_beside c qs p x t = tight_sum (stall c) (with_first c qs p x 0) (charged c (first_piece p x 0)) t

abbrev pub Tight : Costs → List Charged → Piece → ℕ → ℕ → Type 0
Tight c qs p x t = Least (Holds (tight_beside c qs p x)) t

pub record Fits (c : Costs) (qs : List Charged) (p : Piece) (x t : ℕ) : Type 0 where
  pub tight : Tight c qs p x t
  pub room : p.jitter + t + 1 ≤ p.window
  pub here : verdict (stall c) (with_first c qs p x (p.jitter + t)) ≡ Passes
  pub there : verdict (stall c) (last_alone c p x (p.jitter + t)) ≡ Passes

abbrev pub NoneAbove : Costs → ℕ → List Charged → Piece → ℕ → Type 0
NoneAbove c g qs p x = (y u : ℕ) → x < y → Candidate g p y → Fits c qs p y u → ⊥

abbrev pub NoneBetween : Costs → List Charged → Piece → ℕ → ℕ → Type 0
NoneBetween c qs p y x = (y < x) × ((z u : ℕ) → y < z → z ≤ x → Fits c qs p z u → ⊥)

abbrev pub Chosen : Costs → ℕ → List Charged → Piece → Option Cut → Type 0
Chosen c g qs p (Some s) = (t : ℕ) × Candidate g p s.budget × Fits c qs p s.budget t × NoneAbove c g qs p s.budget × (s.window ≡ p.jitter + t)
Chosen c g qs p None = NoneAbove c g qs p 0

abbrev pub TightIn : Costs → List Charged → Piece → ℕ → Option ℕ → Type 0
TightIn c qs p x (Some w) = (t : ℕ) × Tight c qs p x t × (p.jitter + t + 1 ≤ p.window) × (w ≡ p.jitter + t)
TightIn c qs p x None = (t : ℕ) → Tight c qs p x t → p.jitter + t + 1 ≤ p.window → ⊥
