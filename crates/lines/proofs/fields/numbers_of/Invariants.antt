-- `fields::numbers_of` meets its contract: the numbers that are read, and the fields that are left, decide the answer as all the fields do.
-- Assumes nothing.
use mathlib.Core.Path.{◌≡◌}
use lib.ListN.{length, take}
use Rattle.lines.specs.Lines.{tab, fields, runs_in}
use Rattle.lines.specs.Forms.{numbers_in}
use Rattle.lines.proofs.FormLaws.{going}
use Rattle.lines.proofs.fields.numbers_of.Given as goal

abbrev pub invariant-loop-value : goal.invariant-loop-value
invariant-loop-value g l =
    (length l.value-items ≡ g.row.N) × (numbers_in g.row.N (fields l.s) ≡ going g.row.N (take l.value-index l.value-items) (runs_in tab l.rest))
