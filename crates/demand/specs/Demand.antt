-- The demand g(t) of a core: document 01, "Demand at an interval length t". Definitions only: what the contracts cite, and what a
-- reader has to believe. The laws are in `proofs/DemandLaws.antt`. A core is its stall b and its charged pieces qs.
--
--   ceil a b             ⌈a / b⌉
--   total f qs           f summed over the pieces
--   jobs_due q t          n(t), the jobs of q due within t
--   interrupts q t       the interrupts that q brings within t            000, equation 8, and the IPIs of a last piece
--   largest_window qs     the largest window on the core
--   blocking b qs t      b(t)                                             000, equation 6
--   load t q             what q alone asks for within t
--   demand b qs t        g(t)
--   Live qs t            some piece has a job due
--   least_live qs         t0, where there is a piece
use Rattle.std.specs.Prelude.{cond, List, [], ◌∷◌, ℕ, ◌+◌, ◌*◌, ◌-◌, ◌/◌, ◌≤◌, min, max, ltb}
use Rattle.demand.specs.declared.Charged.{Charged}
use Rattle.demand.specs.Sizes.{SomeOf}

unfoldable pub ceil : ℕ → ℕ → ℕ
ceil a b = (a + (b - 1)) / b

-- Each sum of document 01 is one of these, so that a law of sums is stated once.
abbrev pub total : (Charged → ℕ) → List Charged → ℕ
total f [] = 0
total f (q ∷ qs) = f q + total f qs

-- None while t + J is short of the window, then floor plus one: the first job is due where the window ends.
unfoldable pub jobs_due : Charged → ℕ → ℕ
jobs_due q t = cond (ltb (t + q.jitter) q.window) 0 (1 + (t + q.jitter - q.window) / q.period)

unfoldable pub interrupts : Charged → ℕ → ℕ
interrupts q t = ceil (t + q.jitter) q.period * q.release + ceil (t + q.ipij) q.period * q.ipi

abbrev pub largest_window : List Charged → ℕ
largest_window [] = 0
largest_window (q ∷ qs) = max q.window (largest_window qs)

-- It ends at the largest window, so the demand can fall there (K7).
unfoldable pub blocking : ℕ → List Charged → ℕ → ℕ
blocking b qs t = cond (ltb t (largest_window qs)) b 0

unfoldable pub load : ℕ → Charged → ℕ
load t q = jobs_due q t * q.charge + interrupts q t

unfoldable pub demand : ℕ → List Charged → ℕ → ℕ
demand b qs t = blocking b qs t + total (load t) qs

unfoldable pub Live : List Charged → ℕ → Type 0
Live qs t = SomeOf (λ q. 1 ≤ jobs_due q t) qs

-- the least of w and the lengths at which the pieces have their first job due
abbrev pub earliest : ℕ → List Charged → ℕ
earliest w [] = w
earliest w (q ∷ qs) = min (q.window - q.jitter) (earliest w qs)

unfoldable pub least_live : List Charged → ℕ
least_live [] = 0
least_live (q ∷ qs) = earliest (q.window - q.jitter) (q ∷ qs)
