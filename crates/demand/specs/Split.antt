-- The split of a task on a core: document 01, "The C=D walk". A task to be split is given as its whole piece: C, D, T, J, P and M.
-- First what an allowed split means, by records, then the greatest one as a function that computes. `proofs/SplitLaws.antt` ties the two.
--
--   late_jitter c           the jitter of a piece that came from elsewhere: π + IpB + RelO + TsetO; costs outside their sizes have none
--   piece_of j p k x w      the piece of p of the kind k with budget x and window w; j is the jitter that it has if it came from elsewhere
--   first_piece p x w       the first piece of p with budget x and window w
--   last_piece c p x w      the last piece that this leaves
--   tight_on c ps p x       what the first piece waits for within a length, on a core with the pieces ps, itself included
--   Allowed c ps p x t     the split x is allowed beside ps, and t is the t of its tight window
--   Candidate g p x        x is a multiple of the grain g with 1 ≤ x < C
--   Greatest c g ps p x t  x is the greatest allowed candidate
--   greatest_split c g ps p   that x with its tight window, or none
use Rattle.std.specs.Prelude.{◌≡◌, Bool, true, false, cond, ◌&&◌, List, [], ◌∷◌, ◌++◌, ℕ, zero, suc, ◌+◌, ◌*◌, ◌-◌, ◌/◌, ◌≤◌, ◌<◌, None, Option, Some}
use Rattle.demand.specs.declared.Kind.{Kind}
use Rattle.demand.specs.declared.Kind.TheVariants.{First, Last}
use Rattle.demand.specs.declared.Piece.{Piece}
use Rattle.demand.specs.declared.Costs.{Costs}
use Rattle.demand.specs.declared.Verdict.{Verdict}
use Rattle.demand.specs.declared.Verdict.TheVariants.{Passes, Overloaded, Undecided}
use Rattle.demand.specs.Sizes.{sized_costs}
use Rattle.demand.specs.Kinds.{arrives}
use Rattle.demand.specs.Charge.{charged, core_of, stall}
use Rattle.demand.specs.Busy.{Least, Holds, tight_sum, tight_window}
use Rattle.demand.specs.Verdict.{verdict_of}
use Rattle.demand.specs.declared.Cut.{Cut}

unfoldable pub late_jitter : Costs → ℕ
late_jitter c = cond (sized_costs c) (c.precision + c.ipb + c.relo + c.tseto) 0

-- Every piece of a plan is one of these.
unfoldable pub piece_of : ℕ → Piece → Kind → ℕ → ℕ → Piece
piece_of j p k x w =
    record { kind = k; budget = x; window = w; period = p.period; jitter = cond (arrives k) j p.jitter; preempt = p.preempt; migrate = p.migrate }

-- A first piece has its task's jitter, whatever a late one would have.
unfoldable pub first_piece : Piece → ℕ → ℕ → Piece
first_piece p x w = piece_of 0 p First x w

unfoldable pub last_piece : Costs → Piece → ℕ → ℕ → Piece
last_piece c p x w = piece_of (late_jitter c) p Last (p.budget - x) (p.window - w)

-- The window of the first piece is what is looked for; neither its charge nor its interrupts depend on it, and 0 stands in its place.
unfoldable pub tight_on : Costs → List Piece → Piece → ℕ → ℕ → ℕ
tight_on c ps p x t = tight_sum (stall c) (core_of c (ps ++ (first_piece p x 0 ∷ []))) (charged c (first_piece p x 0)) t

pub record Allowed (c : Costs) (ps : List Piece) (p : Piece) (x t : ℕ) : Type 0 where
  pub tight : Least (Holds (tight_on c ps p x)) t
  pub last-window : p.jitter + t + 1 ≤ p.window
  pub first_passes : verdict_of c (ps ++ (first_piece p x (p.jitter + t) ∷ [])) ≡ Passes
  pub last-passes : verdict_of c (last_piece c p x (p.jitter + t) ∷ []) ≡ Passes

pub record Candidate (g : ℕ) (p : Piece) (x : ℕ) : Type 0 where
  pub some : 1 ≤ x
  pub less : x < p.budget
  pub times : ℕ
  pub multiple : x ≡ times * g

pub record Greatest (c : Costs) (g : ℕ) (ps : List Piece) (p : Piece) (x t : ℕ) : Type 0 where
  pub candidate : Candidate g p x
  pub allowed : Allowed c ps p x t
  pub none_above : (y u : ℕ) → x < y → Candidate g p y → Allowed c ps p y u → ⊥

-- a split by its two numbers
abbrev pub cut_at : ℕ → ℕ → Option Cut
cut_at x w = Some (record { budget = x; window = w })

-- what a split says
abbrev pub Splits : Costs → ℕ → List Piece → Piece → Option Cut → Type 0
Splits c g ps p (Some s) = (t : ℕ) × Greatest c g ps p s.budget t × (s.window ≡ p.jitter + t)
Splits c g ps p None = (x t : ℕ) → Candidate g p x → Allowed c ps p x t → ⊥

-- ---- the same as a function

abbrev pub passes : Verdict → Bool
passes Passes = true
passes (Overloaded t) = false
passes Undecided = false

-- the tight window of the first piece of x, where it leaves the last piece a window
unfoldable pub tight_first : Costs → List Piece → Piece → ℕ → Option ℕ
tight_first c ps p x = tight_window (stall c) (core_of c (ps ++ (first_piece p x 0 ∷ []))) (charged c (first_piece p x 0)) (p.window - 1)

-- both pieces pass
unfoldable pub both_pass : Costs → List Piece → Piece → ℕ → ℕ → Bool
both_pass c ps p x w = passes (verdict_of c (ps ++ (first_piece p x w ∷ []))) && passes (verdict_of c (last_piece c p x w ∷ []))

-- from the k-th multiple of the grain down
abbrev pub splitting : Costs → ℕ → List Piece → Piece → ℕ → Option Cut
splitting c g ps p zero = None
splitting c g ps p (suc k) = elim (tight_first c ps p (suc k * g)) [
  | Some w ↦ elim (both_pass c ps p (suc k * g) w) [ true ↦ cut_at (suc k * g) w | false ↦ splitting c g ps p k ]
  | None ↦ splitting c g ps p k
]

-- the multiples of the grain below C are the first (C - 1) / g
unfoldable pub greatest_split : Costs → ℕ → List Piece → Piece → Option Cut
greatest_split c g ps p = splitting c g ps p ((p.budget - 1) / g)
