-- `diffs::put_stands` meets its contract: place by place, the lines of the rank so far are written.
use Prim.Native.Nat.{◌+◌, ◌*◌, ◌≤◌}
use lib.Dec.{eqb}
use lib.ListN.{length, take}
use Rattle.listing.specs.Text.{Wrote}
use Rattle.listing.specs.Listing.{spelling}
use Rattle.listing.specs.Diff.{of_item}
use Rattle.listing.specs.Ways.RankArrays.{placed}
use Rattle.listing.proofs.DiffTextLaws.{lines_of}
use Rattle.listing.proofs.diffs.put_stands.Given as goal

abbrev pub invariant-loop-e : goal.invariant-loop-e
invariant-loop-e l =
    (l.k ≤ l.at + 184 * length (of_item eqb l.rank (placed (take l.e-index l.stands))))
    × Wrote l.initial.buf l.at (lines_of l.word (spelling l.name) l.rank (placed (take l.e-index l.stands))) l.k l.buf
