-- Laws of the marks of a stretch: what a job adds to the busy sum, and where.
-- Assumes nothing.
--
--   marking-none, -more, -all     the jobs of one piece, marked one by one
--   under_none, marks-none, -more the marks of a core, one piece more
--   clear-past                    one length of the walk over the marks
use mathlib.Core.Path.{◌≡◌, refl, sym, ap, ◌∙◌}
use mathlib.Core.List.{List, []}
use Prim.Native.Nat.{ℕ, zero, suc, ◌+◌, ◌*◌, ◌-◌, ◌≤◌, ◌<◌}
use native.Mathlib.Nat.{suc-mul}
use native.Mathlib.Decide.{dec_lt, ℕ_discrete}
use native.Mathlib.Omega.{arith}
use lib.ListN.{length, take, get_or, set, replicate, length-set}
use lib.Seq.{get_or-set_same, get_or-set_other}
use Rattle.demand.specs.declared.Charged.{Charged}
use Rattle.demand.specs.Busy.{busy_load, busy_sum, Clear}
use Rattle.demand.specs.Demand.{ceil}
use Rattle.verdicts.specs.Ways.ReleaseSums.{Under, Marked, Marks}
use Rattle.demand.proofs.Division.{ceil-covers, ceil-near, ceil-between, ceil-whole}
use Rattle.verdicts.proofs.CoreLaws.{total-more}

-- ---- one piece, of the cost c and the period k

module _ (c : ℕ) {k : ℕ} (pos : 0 < k) (j m : ℕ) where
  work-at : m ≡ j * k → ceil m k * c ≡ j * c
  work-at e = rw (e, ceil-whole j pos)

  work-past : j * k < m → m ≤ j * k + k → ceil m k * c ≡ (j + 1) * c
  work-past past by = rw (ceil-between j m pos past by)

-- e is d with the jobs marked that are released before l + at, where the next is
pub record Marking (c k l at : ℕ) (d e : List ℕ) : Type 0 where
  pub jobs : ℕ
  pub release : l + at ≡ jobs * k
  pub room : length e ≡ 1024
  pub done : (j : ℕ) → j < at → ceil (l + j) k * c + get_or e j 0 ≡ ceil (l + j + 1) k * c + get_or d j 0
  pub left : (j : ℕ) → at ≤ j → get_or e j 0 ≡ get_or d j 0
  pub little : (j : ℕ) → get_or e j 0 ≤ get_or d j 0 + 2300000

module _ (c : ℕ) {k : ℕ} (pos : 0 < k) (l at : ℕ) where
  -- no job is released before the first
  quiet : (jobs : ℕ) → l + at ≡ jobs * k → at < k → (j : ℕ) → j < at → ceil (l + j) k * c ≡ ceil (l + j + 1) k * c
  quiet zero release near j h = absurd (omega arith)
  quiet (suc p) release near j h =
      let e : suc p * k ≡ p * k + k = suc-mul p k in
      work-past c pos p (l + j) (omega arith) (omega arith) ∙ sym (work-past c pos p (l + j + 1) (omega arith) (omega arith))

  pub marking-none : (d : List ℕ) → length d ≡ 1024 → at ≡ ceil l k * k - l → Marking c k l at d d
  marking-none d room first =
      let release : l + at ≡ ceil l k * k = omega (arith, ceil-covers l pos) in
      let near : at < k = omega (arith, ceil-near l pos) in
      record {
        jobs = ceil l k;
        release = release;
        room = room;
        done = λ j h. ap (λ (b : ℕ). b + get_or d j 0) (quiet (ceil l k) release near j h);
        left = λ j h. refl;
        little = λ j. omega arith;
      }

  module _ (d e : List ℕ) (so_far : Marking c k l at d e) (within : at < 1024) where
    marked-here : get_or (set e at (get_or e at 0 + c)) at 0 ≡ get_or d at 0 + c
    marked-here = get_or-set_same e at (get_or e at 0 + c) 0 (omega (arith, so_far.room)) ∙ ap (λ (v : ℕ). v + c) (so_far.left at (omega arith))

    kept : (j : ℕ) → (j ≡ at → ⊥) → get_or (set e at (get_or e at 0 + c)) j 0 ≡ get_or e j 0
    kept j other = get_or-set_other e at j (get_or e at 0 + c) 0 other

    done_more : (j : ℕ) → j < at + k → ceil (l + j) k * c + get_or (set e at (get_or e at 0 + c)) j 0 ≡ ceil (l + j + 1) k * c + get_or d j 0
    done_more j h = elim (dec_lt j at) [
      | yes before ↦ omega (arith, kept j (λ same. omega arith), so_far.done j before)
      | no since ↦ elim (dec_lt at j) [
        | yes past ↦
            omega (
              arith,
              kept j (λ same. omega arith),
              so_far.left j (omega arith),
              work-past c pos so_far.jobs (l + j) (omega (arith, so_far.release)) (omega (arith, so_far.release)),
              work-past c pos so_far.jobs (l + j + 1) (omega (arith, so_far.release)) (omega (arith, so_far.release)),
            )
        | no here ↦
            (let e : j ≡ at = omega arith in
            rw e
            (omega (
              arith,
              marked-here,
              work-at c pos so_far.jobs (l + at) so_far.release,
              work-past c pos so_far.jobs (l + at + 1) (omega (arith, so_far.release)) (omega (arith, so_far.release)),
            )))
      ]
    ]

    pub marking-more : c ≤ 2300000 → Marking c k l (at + k) d (set e at (get_or e at 0 + c))
    marking-more small =
        record {
          jobs = so_far.jobs + 1;
          release = omega (arith, so_far.release);
          room = simp length-set so_far.room;
          done = done_more;
          left = λ j h. kept j (λ same. omega arith) ∙ so_far.left j (omega arith);
          little = λ j. elim (ℕ_discrete j at) [ yes same ↦ rw same (omega (arith, marked-here)) | no other ↦ omega (arith, kept j other, so_far.little j) ];
        }

pub marking-all : (q : Charged) (l at : ℕ) (d e : List ℕ) → Marking (q.charge + q.release + q.ipi) q.period l at d e → 1024 ≤ at → Marked q l d e
unfolding busy_load
marking-all q l at d e so_far far = record { grows = λ j h. so_far.done j (omega arith); little = so_far.little }

-- ---- a core

pub under_none : (n : ℕ) → Under 0 (replicate n 0)
under_none zero j = omega arith
under_none (suc n) zero = omega arith
under_none (suc n) (suc j) = under_none n j

pub marks-none : (d : List ℕ) (l : ℕ) → Under 0 d → Marks (busy_sum []) l d
unfolding busy_sum
marks-none d l none j h = omega (arith, none j)

pub marks-more : (qs : List Charged) (i : ℕ) (o : Charged) → i < length qs → (l : ℕ) (d e : List ℕ) → Marks (busy_sum (take i qs)) l d
    → Marked (get_or qs i o) l d e → Marks (busy_sum (take (i + 1) qs)) l e
unfolding busy_sum
marks-more qs i o low l d e before here j h =
    omega (arith, total-more qs i o low (busy_load (l + j)), total-more qs i o low (busy_load (l + j + 1)), before j h, here.grows j h)

-- ---- the walk

pub clear-past : (f : ℕ → ℕ) (m : ℕ) → Clear f m → m < f m → Clear f (m + 1)
clear-past f m clear more k h p = elim (dec_lt k m) [
  | yes below ↦ clear k below p
  | no last ↦ (let e : k ≡ m = omega arith in omega (arith, ap f e, p.fits))
]
