-- `whys::put_why` meets its contract: behind the first line, place by place, the lines of the pieces before are written; then the last two.
use Prim.Native.Nat.{◌+◌, ◌*◌, ◌≤◌}
use Rattle.listing.specs.Text.{Wrote}
use Rattle.listing.specs.Why.{ask_lines}
use Rattle.listing.specs.Ways.SeatArrays.{titled_in}
use Rattle.listing.proofs.whys.put_why.Given as goal

abbrev pub invariant-loop-i : goal.invariant-loop-i
invariant-loop-i l = (l.k ≤ 131 + 100 * l.i) × Wrote l.initial.buf l.initial.k (ask_lines l.costs l.shown (titled_in l.by_name l.tasks.list l.places l.records l.i)) l.k l.buf
