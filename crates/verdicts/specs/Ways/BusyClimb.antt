-- What the passes of the busy climb promise one another. It is a way and no meaning; the laws are in `proofs/BusyClimbLaws.antt`.
--
--   all_time           the share that is all time, 2^32
--   Flows f l v       the pass v at l of the sum f: what f is there, and a share and a work that f does not fall below from l on
--   Reaches v r       no length that the share and the work leave room for is below r
use Rattle.std.specs.Prelude.{◌≡◌, ℕ, ◌+◌, ◌*◌, ◌≤◌}
use Rattle.verdicts.specs.declared.busy_climb.Flow.{Flow}

abbrev pub all_time : ℕ
all_time = 4294967296

pub record Flows (f : ℕ → ℕ) (l : ℕ) (v : Flow) : Type 0 where
  pub exact : v.asked ≡ f l
  pub below : (m : ℕ) → l ≤ m → m * v.share + all_time * v.work ≤ all_time * f m

abbrev pub Reaches : Flow → ℕ → Type 0
Reaches v r = (m : ℕ) → 1 ≤ m → m * v.share + all_time * v.work ≤ all_time * m → r ≤ m
