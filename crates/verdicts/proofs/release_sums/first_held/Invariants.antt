-- `release_sums::first_held` meets its contract: after j turns the sum is that at l + j, and nothing below the next length holds.
use Prim.Native.Nat.{ℕ, ◌+◌, ◌*◌, ◌≤◌}
use mathlib.Core.Path.{◌≡◌}
use Rattle.demand.specs.Busy.{Clear}
use Rattle.verdicts.specs.Ways.ReleaseSums.{Marks}
use Rattle.verdicts.proofs.release_sums.first_held.Given as goal

abbrev pub invariant-loop-grown : goal.invariant-loop-grown
invariant-loop-grown l =
    (l.m ≡ l.l + l.grown-index + 1) × (l.sum ≤ l.asked + l.grown-index * 200000000)
    × ((f : ℕ → ℕ) → Marks f l.l l.marks → l.asked ≡ f l.l → Clear f (l.l + 1) → Clear f l.m × (l.sum ≡ f (l.l + l.grown-index)))
