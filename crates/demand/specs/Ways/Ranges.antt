-- What a piece and a charged piece need so that no sum wraps in 64 bits. It is a way and no meaning: the sizes stand in `specs/Sizes.antt`.
--
--   charge_most, release_most, stall_most     what no charge, no release and no stall is above
--   Countable p          the piece p can be charged: wider than `Sized`, since a last piece that is longer than its window is judged too
--   Ranged q             the charged piece q can be counted with
--   charged_within c p    the charged piece, or nothing but zeros where it cannot be charged
--   stall_within c        the stall, or 0 where the costs are outside their sizes
use Rattle.std.specs.Prelude.{Bool, cond, ◌&&◌, ℕ, ◌≤◌, leb}
use Rattle.demand.specs.declared.Piece.{Piece}
use Rattle.demand.specs.declared.Costs.{Costs}
use Rattle.demand.specs.declared.Charged.{Charged}
use Rattle.demand.specs.Sizes.{time_most, cost_most, sized_costs}
use Rattle.demand.specs.Charge.{charged, stall}

abbrev pub charge_most : ℕ
charge_most = 2000000

abbrev pub release_most : ℕ
release_most = 200000

abbrev pub stall_most : ℕ
stall_most = 200000

pub record Countable (p : Piece) : Type 0 where
  pub budget-fits : p.budget ≤ time_most
  pub window-fits : p.window ≤ time_most
  pub period-some : 1 ≤ p.period
  pub period-fits : p.period ≤ time_most
  pub jitter-fits : p.jitter ≤ time_most
  pub preempt-fits : p.preempt ≤ cost_most
  pub migrate-fits : p.migrate ≤ cost_most

pub record Ranged (q : Charged) : Type 0 where
  pub period-some : 1 ≤ q.period
  pub period-fits : q.period ≤ time_most
  pub window-fits : q.window ≤ time_most
  pub jitter-fits : q.jitter ≤ time_most
  pub charge-fits : q.charge ≤ charge_most
  pub release-fits : q.release ≤ release_most
  pub ipi-fits : q.ipi ≤ cost_most
  pub ipij-fits : q.ipij ≤ cost_most

-- the same rules as tests
unfoldable pub countable : Piece → Bool
countable p =
    leb p.budget time_most
    && leb p.window time_most
    && leb 1 p.period
    && leb p.period time_most
    && leb p.jitter time_most
    && leb p.preempt cost_most
    && leb p.migrate cost_most

unfoldable pub ranged : Charged → Bool
ranged q =
    leb 1 q.period
    && leb q.period time_most
    && leb q.window time_most
    && leb q.jitter time_most
    && leb q.charge charge_most
    && leb q.release release_most
    && leb q.ipi cost_most
    && leb q.ipij cost_most

abbrev pub no_charge : Charged
no_charge = record { charge = 0; window = 0; period = 0; jitter = 0; release = 0; ipi = 0; ipij = 0 }

unfoldable pub charged_within : Costs → Piece → Charged
charged_within c p = cond (sized_costs c && countable p) (charged c p) no_charge

unfoldable pub stall_within : Costs → ℕ
stall_within c = cond (sized_costs c) (stall c) 0
