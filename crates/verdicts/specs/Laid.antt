-- A core, and what is asked of it. Charged pieces are a core where there are at most 79 and each is within its range; then no sum wraps. Where they are none, or a
-- number of the question is past its bound, the answer is the refusing one: 0, nothing, undecided.
--
--   laid qs              the core that the pieces are, if they are one
--   held qs              the core of these pieces
--   term s t q           the figure s of q at t
--   laid_sum s t c        a figure of its pieces, summed at the length t
--   laid_busy_length c     its busy length
--   laid_tight_window b c  the tight window of its last piece, where that is at most its own window
--   laid_wait k e c       the least length up to e that holds k and all interrupts that come within it
--   laid_span b a l c     the greatest overloaded length among the l from a
--   laid_verdict b c      the verdict on it
--   laid_most_fitting b q a l f c      the greatest charge up to f with which q fits beside it at the l lengths from a, or 0
use Rattle.std.specs.Prelude.{Bool, true, cond, ◌&&◌, List, [], ◌∷◌, ℕ, ◌+◌, ◌*◌, leb, length, None, Some, Option}
use Rattle.demand.specs.declared.Charged.{Charged}
use Rattle.demand.specs.declared.Verdict.{Verdict}
use Rattle.demand.specs.declared.Verdict.TheVariants.{Undecided}
use Rattle.verdicts.specs.declared.Sum.{Sum}
use Rattle.verdicts.specs.declared.Sum.TheVariants.{Load, Interrupts, Jobs, Busy}
use Rattle.demand.specs.Sizes.{run_most, time_most, busy_most, length_most}
use Rattle.demand.specs.Ways.Ranges.{ranged, stall_most, charge_most}
use Rattle.demand.specs.Demand.{jobs_due, load, interrupts, total}
use Rattle.demand.specs.Busy.{busy_load, busy_length, least_holding}
use Rattle.demand.specs.Verdict.{scan, verdict}
use Rattle.demand.specs.Answer.{tight_of_last}
use Rattle.verdicts.specs.MostFitting.{most_fitting}

abbrev pub LaidCore : Type 0
LaidCore = Option (List Charged)

abbrev pub held : List Charged → LaidCore
held qs = Some qs

abbrev pub all_ranged : List Charged → Bool
all_ranged [] = true
all_ranged (q ∷ qs) = ranged q && all_ranged qs

unfoldable pub laid : List Charged → LaidCore
laid qs = cond (leb (length qs) run_most && all_ranged qs) (held qs) None

-- what f tells of the core, or `none` where there is none
abbrev pub answer : {A : Type 0} → A → (List Charged → A) → LaidCore → A
answer none f (Some qs) = f qs
answer none f None = none

-- ---- sums

abbrev pub term : Sum → ℕ → Charged → ℕ
term Load t q = load t q
term Interrupts t q = interrupts q t
term Jobs t q = jobs_due q t * q.charge
term Busy t q = busy_load t q

unfoldable pub laid_sum : Sum → ℕ → LaidCore → ℕ
laid_sum s t c = cond (leb t length_most) (answer 0 (total (term s t)) c) 0

-- ---- lengths

unfoldable pub laid_busy_length : LaidCore → Option ℕ
laid_busy_length c = answer None busy_length c

unfoldable pub laid_tight_window : ℕ → LaidCore → Option ℕ
laid_tight_window b c = cond (leb b stall_most) (answer None (λ qs. tight_of_last b qs qs) c) None

-- what no such base is above
abbrev pub wait_most : ℕ
wait_most = 10000000

unfoldable pub laid_wait : ℕ → ℕ → LaidCore → Option ℕ
laid_wait k e c = cond (leb k wait_most && leb e busy_most) (answer None (λ qs. least_holding (λ t. k + total (term Interrupts t) qs) e) c) None

-- ---- verdicts

unfoldable pub laid_span : ℕ → ℕ → ℕ → LaidCore → Verdict
laid_span b a l c = cond (leb b stall_most && leb a time_most && leb l busy_most) (answer Undecided (λ qs. scan b qs a l) c) Undecided

unfoldable pub laid_verdict : ℕ → LaidCore → Verdict
laid_verdict b c = cond (leb b stall_most) (answer Undecided (verdict b) c) Undecided

-- ---- a piece beside it

unfoldable pub laid_most_fitting : ℕ → Charged → ℕ → ℕ → ℕ → LaidCore → ℕ
laid_most_fitting b q a l f c =
    cond (leb b stall_most && ranged q && leb f charge_most && leb (a + l) length_most) (answer 0 (λ qs. most_fitting b qs q a l f) c) 0
