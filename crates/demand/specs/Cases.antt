-- The numbered examples K1 to K11 of document 01 as one table. `proofs/Cases.antt` has the one statement over it: every row holds. `Worked.antt` has
-- a second table of the same form.
-- Costs are 0 and J, P, M are 0 unless given; pieces are (x, D, T).
use Rattle.std.specs.Prelude.{Bool, true, false, cond, ◌&&◌, List, [], ◌∷◌, ◌++◌, ℕ, eqb, length, None, Ok, Option, Result, Some}
use Rattle.demand.specs.declared.Kind.{Kind}
use Rattle.demand.specs.declared.Kind.TheVariants.{Whole, First}
use Rattle.demand.specs.declared.Piece.{Piece}
use Rattle.demand.specs.declared.Costs.{Costs}
use Rattle.demand.specs.declared.Verdict.{Verdict}
use Rattle.demand.specs.declared.Verdict.TheVariants.{Passes, Overloaded, Undecided}
use Rattle.demand.specs.Charge.{no_costs, charge, charged, core_of, stall}
use Rattle.demand.specs.Demand.{demand}
use Rattle.demand.specs.Busy.{busy_length, tight_window}
use Rattle.demand.specs.Verdict.{verdict_of}
use Rattle.demand.specs.Split.{greatest_split}
use Rattle.demand.specs.Answer.{told, check_run, answered}
use Rattle.demand.specs.declared.Refusal.{Refusal}
use Rattle.demand.specs.declared.Cut.{Cut}

unfoldable pub piece : Kind → ℕ → ℕ → ℕ → ℕ → Piece
piece k x d t j = record { kind = k; budget = x; window = d; period = t; jitter = j; preempt = 0; migrate = 0 }

unfoldable pub whole : ℕ → ℕ → ℕ → Piece
whole x d t = piece Whole x d t 0

-- RelO, SchedO, TsetO, IpB, BetO, MigrO; the rest are 0
unfoldable pub costs : ℕ → ℕ → ℕ → ℕ → ℕ → ℕ → Costs
costs relo schedo tseto ipb beto migro =
    record { relo = relo; schedo = schedo; tseto = tseto; ipb = ipb; beto = beto; migro = migro; ipio = 0; ipij = 0; precision = 0 }

-- a question of the table with its answer; the number is the example's
pub data Row : Type 0 where
  says : (k : ℕ) → Costs → List Piece → Verdict → Row
  busy : (k : ℕ) → Costs → List Piece → ℕ → Row
  asks : (k : ℕ) → Costs → List Piece → (t g : ℕ) → Row
  tight : (k : ℕ) → Costs → List Piece → Piece → ℕ → Row
  charges : (k : ℕ) → Costs → Piece → ℕ → Row
  splits : (k : ℕ) → Costs → (grain : ℕ) → List Piece → Piece → Option Cut → Row
  takes : (k : ℕ) → Costs → List Piece → (which carries : ℕ) → Row

abbrev pub answers : Result Verdict Refusal → ℕ → ℕ → Bool
answers a which carries = eqb (told a).which which && eqb (told a).carries carries

abbrev pub same : Verdict → Verdict → Bool
same v w = answers (Ok v) (told (Ok w)).which (told (Ok w)).carries

abbrev pub found : Option ℕ → ℕ → Bool
found (Some n) m = eqb n m
found None m = false

abbrev pub same_split : Option Cut → Option Cut → Bool
same_split (Some s) (Some r) = eqb s.budget r.budget && eqb s.window r.window
same_split (Some s) None = false
same_split None (Some s) = false
same_split None None = true

-- of a run that is taken the verdict is not asked
unfoldable pub right : Row → Bool
right (says k c ps v) = same (verdict_of c ps) v
right (busy k c ps l) = found (busy_length (core_of c ps)) l
right (asks k c ps t g) = eqb (demand (stall c) (core_of c ps) t) g
right (tight k c ps p w) = found (tight_window (stall c) (core_of c (ps ++ (p ∷ []))) (charged c p) p.window) w
right (charges k c p n) = eqb (charge c p) n
right (splits k c grain ps p s) = same_split (greatest_split c grain ps p) s
right (takes k c ps which carries) = answers (answered (check_run c (length ps) ps) Passes) which carries

abbrev pub row_number : Row → ℕ
row_number (says k c ps v) = k
row_number (busy k c ps l) = k
row_number (asks k c ps t g) = k
row_number (tight k c ps p w) = k
row_number (charges k c p n) = k
row_number (splits k c grain ps p s) = k
row_number (takes k c ps which carries) = k

-- the numbers of the rows that do not hold
unfoldable pub wrong : List Row → List ℕ
wrong [] = []
wrong (r ∷ rs) = cond (right r) (wrong rs) (row_number r ∷ wrong rs)

unfoldable pub rows : List Row
rows =
    says 1 no_costs [] Passes
    ∷ says 2 no_costs (whole 1 1 1 ∷ []) Passes
    ∷ says 3 no_costs (whole 5 5 10 ∷ whole 5 5 10 ∷ []) (Overloaded 9)
    ∷ says 4 no_costs (whole 6 10 10 ∷ whole 6 10 10 ∷ []) Undecided
    ∷ says 5 no_costs (whole 2 10 10 ∷ whole 2 10 10 ∷ whole 2 10 10 ∷ whole 2 10 10 ∷ whole 2 2 10 ∷ []) Passes
    ∷ says 6 no_costs (whole 2 10 10 ∷ whole 2 10 10 ∷ whole 2 10 10 ∷ whole 2 10 10 ∷ whole 3 3 10 ∷ []) Undecided
    ∷ says 7 (costs 0 0 0 4 0 0) (whole 8 10 50 ∷ whole 1 12 50 ∷ []) (Overloaded 11)
    ∷ busy 8 (costs 2 3 1 4 0 0) (whole 5 100 100 ∷ []) 15
    ∷ asks 8 (costs 2 3 1 4 0 0) (whole 5 100 100 ∷ []) 100 15
    ∷ says 8 (costs 2 3 1 4 0 0) (whole 5 100 100 ∷ []) Passes
    ∷ tight 9 (costs 2 3 1 4 2 1) [] (piece First 5 100 100 0) 26
    ∷ tight 10 (costs 2 3 1 4 2 1) [] (piece First 5 100 100 5) 31
    ∷ says 11 no_costs (piece Whole 1 5 10 5 ∷ []) (Overloaded 0)
    ∷ []
