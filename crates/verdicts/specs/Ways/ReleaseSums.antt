-- What the marks of a stretch of lengths promise. It is a way and no meaning; the laws are in `proofs/ReleaseSumLaws.antt`.
--
--   marks_most         over how many lengths one walk goes
--   Under k d         no number in d is above k
--   Marked q l d e    e is d with the jobs of q marked: at place j what q asks for at the length after l + j beyond what at l + j
--   Marks f l d       the sum f grows from l + j to the next length by what d has at place j
use Rattle.std.specs.Prelude.{◌≡◌, List, ℕ, ◌+◌, ◌≤◌, ◌<◌, get_or}
use Rattle.demand.specs.declared.Charged.{Charged}
use Rattle.demand.specs.Busy.{busy_load}

abbrev pub marks_most : ℕ
marks_most = 1024

abbrev pub Under : ℕ → List ℕ → Type 0
Under k d = (j : ℕ) → get_or d j 0 ≤ k

pub record Marked (q : Charged) (l : ℕ) (d e : List ℕ) : Type 0 where
  pub grows : (j : ℕ) → j < marks_most → busy_load (l + j) q + get_or e j 0 ≡ busy_load (l + j + 1) q + get_or d j 0
  pub little : (j : ℕ) → get_or e j 0 ≤ get_or d j 0 + 2300000

abbrev pub Marks : (ℕ → ℕ) → ℕ → List ℕ → Type 0
Marks f l d = (j : ℕ) → j < marks_most → f (l + j) + get_or d j 0 ≡ f (l + j + 1)
