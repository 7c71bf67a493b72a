-- The busy length L, and what it shares with the tight window: both are the least n ≥ 1 with f n ≤ n.
--
--   Least P n            n has P, and nothing below n has
--   Holds f n            n ≥ 1 and f n ≤ n
--   Clear f n            nothing below n holds f
--   Finds f top r        r is the least n with `Holds f n`, or says that there is none up to top
--   least_holding f top   that r, by climbing from 1 to f 1 and so on
--   busy_load l q         what q asks of a busy length l
--   busy_sum qs l         what the core asks of it
--   busy_length qs        L, or nothing up to the limit
--   tight_sum b qs q t    what the first piece q has to wait for within t, beside all pieces qs of its core, itself among them
--   tight_window b qs q top   J + t for the least t that holds it, where that is at most top
use Rattle.std.specs.Prelude.{true, false, List, ℕ, zero, suc, ◌+◌, ◌*◌, ◌-◌, ◌≤◌, ◌<◌, leb, None, Option, Some}
use Rattle.demand.specs.declared.Charged.{Charged}
use Rattle.demand.specs.Sizes.{busy_most}
use Rattle.demand.specs.Demand.{ceil, total, interrupts}

pub record Least (P : ℕ → Type 0) (n : ℕ) : Type 0 where
  pub here : P n
  pub none_below : (k : ℕ) → k < n → P k → ⊥

pub record Holds (f : ℕ → ℕ) (n : ℕ) : Type 0 where
  pub some : 1 ≤ n
  pub fits : f n ≤ n

abbrev pub Clear : (ℕ → ℕ) → ℕ → Type 0
Clear f n = (k : ℕ) → k < n → Holds f k → ⊥

abbrev pub Finds : (ℕ → ℕ) → ℕ → Option ℕ → Type 0
Finds f top (Some n) = Least (Holds f) n × (n ≤ top)
Finds f top None = (n : ℕ) → n ≤ top → Holds f n → ⊥

-- From n up by f, in so many steps at the most. The cases of `elim` wait, so steps that are not taken cost nothing.
abbrev pub climbing : (ℕ → ℕ) → ℕ → ℕ → ℕ → Option ℕ
climbing f top zero n = None
climbing f top (suc steps) n = elim (leb n top) [ true ↦ (elim (leb (f n) n) [ true ↦ Some n | false ↦ climbing f top steps (f n) ]) | false ↦ None ]

unfoldable pub least_holding : (ℕ → ℕ) → ℕ → Option ℕ
least_holding f top = climbing f top (suc top) 1

unfoldable pub busy_load : ℕ → Charged → ℕ
busy_load l q = ceil l q.period * (q.charge + q.release + q.ipi)

unfoldable pub busy_sum : List Charged → ℕ → ℕ
busy_sum qs l = total (busy_load l) qs

unfoldable pub busy_length : List Charged → Option ℕ
busy_length qs = least_holding (busy_sum qs) busy_most

unfoldable pub tight_sum : ℕ → List Charged → Charged → ℕ → ℕ
tight_sum b qs q t = b + q.charge + total (λ p. interrupts p t) qs

abbrev pub later : ℕ → Option ℕ → Option ℕ
later j (Some t) = Some (j + t)
later j None = None

unfoldable pub tight_window : ℕ → List Charged → Charged → ℕ → Option ℕ
tight_window b qs q top = later q.jitter (least_holding (tight_sum b qs q) (top - q.jitter))
