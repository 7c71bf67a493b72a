-- `release_sums::mark_all` meets its contract: the pieces so far are marked.
use Rattle.std.proofs.Common.{◌≡◌, ◌*◌, take, length}
use Rattle.demand.specs.Busy.{busy_sum}
use Rattle.verdicts.specs.Ways.ReleaseSums.{Marks, Under}
use Rattle.verdicts.proofs.release_sums.mark_all.Given as goal

abbrev pub invariant-loop-q : goal.invariant-loop-q
invariant-loop-q l = Marks (busy_sum (take l.q-index l.q-items)) l.l l.marks × Under (l.q-index * 2300000) l.marks × (length l.marks ≡ 1024)
