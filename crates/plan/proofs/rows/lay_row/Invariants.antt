-- `rows::lay_row` meets its contract: after i turns the first i pieces of the row lie there.
use Rattle.std.proofs.Common.{◌≡◌, length, map, take, get_or}
use Rattle.demand.specs.Records.{outside, record_for}
use Rattle.demand.specs.Sizes.{run_most}
use Rattle.plan.proofs.rows.lay_row.Given as goal

abbrev pub invariant-loop-place : goal.invariant-loop-place
invariant-loop-place l =
    (length l.records ≡ run_most)
    × (take l.place l.records ≡ map record_for (map (λ i. get_or (map (λ e. e.piece) l.placed) i outside) (take l.place l.row.numbers)))
