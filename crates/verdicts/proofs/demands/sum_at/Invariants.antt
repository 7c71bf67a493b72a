-- `demands::sum_at` meets its contract: the sum so far is that of the pieces so far, each term at most 10^15.
use Rattle.std.proofs.Common.{◌≡◌, ◌≤◌, ◌*◌, take}
use Rattle.demand.specs.Demand.{total}
use Rattle.verdicts.specs.Laid.{term}
use Rattle.verdicts.proofs.demands.sum_at.Given as goal

abbrev pub invariant-loop-q : goal.invariant-loop-q
invariant-loop-q l = (l.so_far ≡ total (term l.sum l.t) (take l.q-index l.q-items)) × (l.so_far ≤ l.q-index * 1000000000000000)
