-- `put_plan` meets its contract: behind the header, core by core and place by place, the entries so far are written.
use Prim.Native.Nat.{◌+◌, ◌*◌, ◌≤◌}
use Rattle.listing.specs.Text.{Wrote}
use Rattle.listing.specs.Listing.{entries_on, entry_lines, plan_with, listed_on}
use Rattle.listing.proofs.EntryLaws.{row_run}
use Rattle.listing.proofs.put_plan.Given as goal

abbrev pub invariant-loop-core : goal.invariant-loop-core
invariant-loop-core l =
    (l.k ≤ 47 + 142 * listed_on l.layout.lens l.core) × Wrote l.initial.buf l.initial.k (entry_lines (entries_on (plan_with l.costs l.tasks l.layout) l.core)) l.k l.buf

abbrev pub invariant-loop-number : goal.invariant-loop-number
invariant-loop-number l =
    (l.k ≤ l.initial.k + 142 * l.number-index)
    × Wrote l.initial.buf l.initial.k (entry_lines (row_run (plan_with l.costs l.tasks l.fn.layout) l.core l.number-index)) l.k l.buf
