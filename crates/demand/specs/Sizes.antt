-- The sizes of costs and pieces: document 01, "Sizes". Each bound has its name here and nowhere else.
--
--   time_most          T, D, J up to 1,000,000
--   cost_most          P, M and each cost constant up to 100,000
--   run_most           a lent run of records has at most 79
--   busy_most          the busy length limit, 100,000,000
--   length_most        what no judged length reaches: the limit and a window
--   SizedCosts c      the nine constants are within their sizes
--   Sized p           the record p is within the sizes, with 1 ≤ x ≤ D ≤ T
--   Each P ps         P of every element
--   SomeOf P ps         P of one of them
use Rattle.std.specs.Prelude.{Bool, true, false, ◌&&◌, List, [], ◌∷◌, ◌⊎◌, ℕ, ◌≤◌, leb}
use Rattle.demand.specs.declared.Piece.{Piece}
use Rattle.demand.specs.declared.Costs.{Costs}

abbrev pub time_most : ℕ
time_most = 1000000

abbrev pub cost_most : ℕ
cost_most = 100000

abbrev pub run_most : ℕ
run_most = 79

abbrev pub busy_most : ℕ
busy_most = 100000000

abbrev pub length_most : ℕ
length_most = 101000000

pub record SizedCosts (c : Costs) : Type 0 where
  pub relo-fits : c.relo ≤ cost_most
  pub schedo-fits : c.schedo ≤ cost_most
  pub tseto-fits : c.tseto ≤ cost_most
  pub ipb-fits : c.ipb ≤ cost_most
  pub beto-fits : c.beto ≤ cost_most
  pub migro-fits : c.migro ≤ cost_most
  pub ipio-fits : c.ipio ≤ cost_most
  pub ipij-fits : c.ipij ≤ cost_most
  pub precision-fits : c.precision ≤ cost_most

pub record Sized (p : Piece) : Type 0 where
  pub budget-some : 1 ≤ p.budget
  pub budget-fits : p.budget ≤ p.window
  pub window-fits : p.window ≤ p.period
  pub period-fits : p.period ≤ time_most
  pub jitter-fits : p.jitter ≤ time_most
  pub preempt-fits : p.preempt ≤ cost_most
  pub migrate-fits : p.migrate ≤ cost_most

-- the same two rules as tests
unfoldable pub sized_costs : Costs → Bool
sized_costs c =
    leb c.relo cost_most
    && leb c.schedo cost_most
    && leb c.tseto cost_most
    && leb c.ipb cost_most
    && leb c.beto cost_most
    && leb c.migro cost_most
    && leb c.ipio cost_most
    && leb c.ipij cost_most
    && leb c.precision cost_most

unfoldable pub sized : Piece → Bool
sized p =
    leb 1 p.budget
    && leb p.budget p.window
    && leb p.window p.period
    && leb p.period time_most
    && leb p.jitter time_most
    && leb p.preempt cost_most
    && leb p.migrate cost_most

-- An answer of true shows P, and one of false that P does not hold.
abbrev pub Tells : Type 0 → Bool → Type 0
Tells P true = P
Tells P false = P → ⊥

abbrev pub Each : {A : Type 0} → (A → Type 0) → List A → Type 0
Each P [] = Unit {0}
Each P (p ∷ ps) = P p × Each P ps

abbrev pub SomeOf : {A : Type 0} → (A → Type 0) → List A → Type 0
SomeOf P [] = ⊥
SomeOf P (p ∷ ps) = P p ⊎ SomeOf P ps
