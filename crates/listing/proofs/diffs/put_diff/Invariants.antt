-- `diffs::put_diff` meets its contract: behind the first line, rank by rank, the lines of the ranks before are written.
use Prim.Native.Nat.{◌+◌, ◌*◌, ◌≤◌}
use Rattle.listing.specs.Text.{Wrote}
use Rattle.listing.specs.Ways.RankArrays.{placed, ranked_name, rank_blocks, ranked_below}
use Rattle.listing.proofs.diffs.put_diff.Given as goal

abbrev pub invariant-loop-rank : goal.invariant-loop-rank
invariant-loop-rank l =
    (l.k ≤ 47 + 184 * ranked_below l.rank (placed l.stands) + 184 * ranked_below l.rank (placed l.rest))
    × Wrote l.initial.buf l.initial.k (rank_blocks (λ r. ranked_name r l.ranks l.tasks.list l.others l.more.list) (placed l.stands) (placed l.rest) l.rank) l.k l.buf
