-- What is shown of a verdict: document 02, E1. At one length, the blocking, what each piece asks for, and the total; so that the slack, which is the length minus
-- the total, is seen to come about. `proofs/WhyLaws.antt` has that the terms add up, and what each verdict shows.
--
--   slack g t            t - g(t), where t is not overloaded
--   LeastSlack g a l t   of the l lengths from a, t is the one with the least slack, the shortest if several
--   least_slack g a k     that length, among those from a to a + k
--   due_ask t q           what the piece q asks for within t: jobs due, their demand, its interrupts
--   busy_ask l q          what it asks of a busy length l
--   ask v t q            which of the two is shown beside the verdict v
--   ask_sum v t q         the sum of it
--   length_shown b qs v   the length that is shown: the verdict's own; of a pass the one with the least slack in the judged span; of an undecided core the limit
--   core_shown b qs       what is shown of a core, its pieces' asks beside it
--   shown_of c ps         the same of the pieces ps at the costs c
use Rattle.std.specs.Prelude.{cond, List, ℕ, zero, suc, ◌+◌, ◌*◌, ◌-◌, ◌≤◌, ◌<◌, ltb, None, Option, Some}
use Rattle.demand.specs.declared.Piece.{Piece}
use Rattle.demand.specs.declared.Costs.{Costs}
use Rattle.demand.specs.declared.Charged.{Charged}
use Rattle.demand.specs.declared.Verdict.{Verdict}
use Rattle.demand.specs.declared.Verdict.TheVariants.{Passes, Overloaded, Undecided}
use Rattle.demand.specs.declared.Ask.{Ask}
use Rattle.demand.specs.declared.Shown.{Shown}
use Rattle.demand.specs.Sizes.{busy_most}
use Rattle.demand.specs.Charge.{core_of, stall}
use Rattle.demand.specs.Demand.{ceil, jobs_due, interrupts, blocking, demand, least_live}
use Rattle.demand.specs.Busy.{busy_sum, busy_length}
use Rattle.demand.specs.Verdict.{verdict}

-- ---- the least slack

unfoldable pub slack : (ℕ → ℕ) → ℕ → ℕ
slack g t = t - g t

pub record LeastSlack (g : ℕ → ℕ) (a l t : ℕ) : Type 0 where
  pub from : a ≤ t
  pub below : t < a + l
  pub least : (u : ℕ) → a ≤ u → u < a + l → slack g t ≤ slack g u
  pub shortest : (u : ℕ) → a ≤ u → u < t → slack g t < slack g u

-- u, where it has less slack than t
abbrev pub tighter : (ℕ → ℕ) → ℕ → ℕ → ℕ
tighter g t u = cond (ltb (slack g u) (slack g t)) u t

unfoldable pub least_slack : (ℕ → ℕ) → ℕ → ℕ → ℕ
least_slack g a zero = a
least_slack g a (suc k) = tighter g (least_slack g a k) (a + suc k)

-- ---- what a piece asks for

unfoldable pub due_ask : ℕ → Charged → Ask
due_ask t q = record { jobs = jobs_due q t; demand = jobs_due q t * q.charge; interrupts = interrupts q t }

unfoldable pub busy_ask : ℕ → Charged → Ask
busy_ask l q = record { jobs = ceil l q.period; demand = ceil l q.period * q.charge; interrupts = ceil l q.period * (q.release + q.ipi) }

abbrev pub ask : Verdict → ℕ → Charged → Ask
ask Passes t q = due_ask t q
ask (Overloaded u) t q = due_ask t q
ask Undecided t q = busy_ask t q

-- and in all
abbrev pub ask_sum : Verdict → ℕ → Charged → ℕ
ask_sum v t q = (ask v t q).demand + (ask v t q).interrupts

-- ---- what is shown of a core

-- in the judged span: the l lengths from the least live one
abbrev pub tightest_over : ℕ → List Charged → Option ℕ → ℕ
tightest_over b qs (Some l) = least_slack (demand b qs) (least_live qs) (l - 1)
tightest_over b qs None = 0

abbrev pub length_shown : ℕ → List Charged → Verdict → ℕ
length_shown b qs Passes = tightest_over b qs (busy_length qs)
length_shown b qs (Overloaded t) = t
length_shown b qs Undecided = busy_most

abbrev pub blocking_shown : ℕ → List Charged → Verdict → ℕ → ℕ
blocking_shown b qs Passes t = blocking b qs t
blocking_shown b qs (Overloaded u) t = blocking b qs t
blocking_shown b qs Undecided t = 0

abbrev pub total_shown : ℕ → List Charged → Verdict → ℕ → ℕ
total_shown b qs Passes t = demand b qs t
total_shown b qs (Overloaded u) t = demand b qs t
total_shown b qs Undecided t = busy_sum qs t

-- beside the verdict v, at the length t
abbrev pub shown_at : ℕ → List Charged → Verdict → ℕ → Shown
shown_at b qs v t = record { verdict = v; length = t; blocking = blocking_shown b qs v t; total = total_shown b qs v t }

unfoldable pub core_shown : ℕ → List Charged → Shown
core_shown b qs = shown_at b qs (verdict b qs) (length_shown b qs (verdict b qs))

unfoldable pub shown_of : Costs → List Piece → Shown
shown_of c ps = core_shown (stall c) (core_of c ps)
