-- Laws of the busy climb's leaps: what a pass tells of every length from l on.
-- Assumes nothing.
--
--   flow-share, flow-work         the pass over one piece: every length asks for its share, or for the jobs it has by l
--   flow-none, flow-more          the pass over a core, one piece more
--   reach-part                    how far a length must reach, where the shares leave time
--   reach-over, reach-full        and where they leave none: no length holds what is asked
--   clear-leap                    a leap passes nothing over
use mathlib.Core.Path.{◌≡◌, ap}
use mathlib.Core.List.{List, []}
use Prim.Native.Nat.{ℕ, ◌+◌, ◌*◌, ◌-◌, ◌/◌, ◌≤◌, ◌<◌, max}
use native.Mathlib.Nat.{div-mul-le_self, div-lt_iff_lt-mul, mul-le-mul_left, mul-le-mul_right, mul_comm, mul_assoc, mul_left_comm}
use native.Mathlib.Decide.{dec_lt}
use native.Mathlib.Omega.{arith}
use lib.ListN.{length, take, get_or}
use Rattle.demand.specs.declared.Charged.{Charged}
use Rattle.verdicts.specs.declared.busy_climb.Flow.{Flow}
use Rattle.demand.specs.Busy.{busy_load, busy_sum, Clear}
use Rattle.demand.specs.Demand.{ceil}
use Rattle.verdicts.specs.Ways.BusyClimb.{all_time, Flows, Reaches}
use Rattle.demand.proofs.DemandLaws.{Recurs, busy-load-mono}
use Rattle.demand.proofs.Division.{ceil-covers}
use Rattle.verdicts.proofs.CoreLaws.{total-more}

-- ---- one piece

-- m · ⌊c / k⌋ ≤ ⌈m / k⌉ · c
share-below : (m c : ℕ) {k : ℕ} → 0 < k → m * (c / k) ≤ ceil m k * c
share-below m c {k} pos =
    let whole : m * (c / k) ≤ ceil m k * k * (c / k) = mul-le-mul_right (c / k) (ceil-covers m pos) in
    let part : ceil m k * (c / k * k) ≤ ceil m k * c = mul-le-mul_left (ceil m k) (div-mul-le_self c k) in
    let same : ceil m k * k * (c / k) ≡ ceil m k * (c / k * k) = simp (mul_assoc, mul_comm, mul_left_comm) in
    omega (arith, whole, part, same)

pub flow-share : (q : Charged) → Recurs q → (l : ℕ) (v : Flow) → v.asked ≡ busy_load l q
    → v.share ≡ (q.charge + q.release + q.ipi) * all_time / q.period → v.work ≡ 0 → Flows (λ m. busy_load m q) l v
unfolding busy_load
flow-share q pos l v asked share work =
    let c = q.charge + q.release + q.ipi in
    record {
      exact = asked;
      below = λ m h. omega (arith, ap (λ (s : ℕ). m * s) share, work, share-below m (c * all_time) {k = q.period} pos.again, flat (ceil m q.period) c);
    }
  where
    flat : (j c : ℕ) → j * (c * all_time) ≡ all_time * (j * c)
    flat j c = simp (mul_comm, mul_left_comm)

pub flow-work : (q : Charged) (l : ℕ) (v : Flow) → v.asked ≡ busy_load l q → v.share ≡ 0 → v.work ≡ v.asked → Flows (λ m. busy_load m q) l v
flow-work q l v asked share work =
    record {
      exact = asked;
      below = λ m h. omega (arith, ap (λ (s : ℕ). m * s) share, work, asked, busy-load-mono q h);
    }

-- ---- a core

pub flow-none : (v : Flow) (l : ℕ) → v.asked ≡ 0 → v.share ≡ 0 → v.work ≡ 0 → Flows (busy_sum []) l v
unfolding busy_sum
flow-none v l asked share work = record { exact = asked; below = λ m h. omega (arith, ap (λ (s : ℕ). m * s) share, work) }

pub flow-more : (qs : List Charged) (i : ℕ) (d : Charged) → i < length qs → (l : ℕ) (u v w : Flow) → Flows (busy_sum (take i qs)) l u
    → Flows (λ m. busy_load m (get_or qs i d)) l v → w.asked ≡ u.asked + v.asked → w.share ≡ u.share + v.share → w.work ≡ u.work + v.work
    → Flows (busy_sum (take (i + 1) qs)) l w
unfolding busy_sum
flow-more qs i d low l u v w before here asked share work =
    record {
      exact = omega (arith, total-more qs i d low (busy_load l), before.exact, here.exact);
      below = λ m h. omega (arith, ap (λ (s : ℕ). m * s) share, total-more qs i d low (busy_load m), before.below m h, here.below m h);
    }

-- ---- how far

module _ (v : Flow) where
  pub reach-part : v.share < all_time → Reaches v (v.work * all_time / (all_time - v.share))
  reach-part part m some room = left (all_time - v.share) (omega arith) (omega arith)
    where
      left : (d : ℕ) → 0 < d → d + v.share ≡ all_time → v.work * all_time / d ≤ m
      left d pos rest =
          let below : v.work * all_time / d < m + 1 = (div-lt_iff_lt-mul {k = d} pos).1 (omega (arith, ap (λ (s : ℕ). m * s) rest)) in
          omega arith

  pub reach-over : all_time < v.share → Reaches v 100000001
  reach-over over m some room = absurd (omega (arith, mul-le-mul_left m over))

  pub reach-full : v.share ≡ all_time → 0 < v.work → Reaches v 100000001
  reach-full full much m some room = absurd (omega (arith, ap (λ (s : ℕ). m * s) full))

-- ---- the climb

pub clear-leap : (f : ℕ → ℕ) → ((m n : ℕ) → m ≤ n → f m ≤ f n) → (l : ℕ) (v : Flow) (r : ℕ) → 1 ≤ l → Clear f l → Flows f l v → Reaches v r
    → Clear f (max v.asked r)
clear-leap f mono l v r some clear flows reaches k h p = elim (dec_lt k l) [
  | yes b ↦ clear k b p
  | no b ↦ omega (arith, flows.exact, mono l k (omega arith), p.fits, reaches k (omega arith) (omega (arith, flows.below k (omega arith), p.fits)))
]
