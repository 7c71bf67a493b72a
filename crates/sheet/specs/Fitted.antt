-- The first arrow, from a part's name to its times, over the bytes of a sheet: document 01, "Sheet" and "Errors that look right". No contract
-- cites this; `proofs/WholeLaws.antt` shows it of every sheet that is read.
--
--   lines_of bytes     the lines of a sheet: those that a newline ends
--   Fitted ls t       among the lines ls the task t is fitted with a part that stands above it: the `fit` line names it by the very bytes
--                     of its `part` line, so in equal length, and the task has the times of that line and no others
use Rattle.std.specs.Prelude.{◌≡◌, ℕ}
use mathlib.Core.List.{List, [], ◌∷◌, ◌++◌, drop_last}
use Rattle.task.specs.declared.Task.{Task}
use Rattle.lines.specs.Lines.{bytes_of, newline, up_to, beyond, fields, name_of}
use Rattle.lines.specs.Forms.{times_of, values}

-- all runs but the last: that stands behind the last newline
unfoldable pub lines_of : List ℕ → List (List ℕ)
lines_of bytes = drop_last (up_to newline bytes ∷ beyond newline bytes)

pub record Fitted (ls : List (List ℕ)) (t : Task) : Type 0 where
  pub above : List (List ℕ)
  pub between : List (List ℕ)
  pub below : List (List ℕ)
  pub part-line : List ℕ
  pub fit-line : List ℕ
  pub part-name : List ℕ
  pub part-numbers : List (List ℕ)
  pub task-name : List ℕ
  pub order : ls ≡ above ++ (part-line ∷ (between ++ (fit-line ∷ below)))
  pub part-reads : fields part-line ≡ bytes_of "part" ∷ part-name ∷ part-numbers
  pub fit-reads : fields fit-line ≡ bytes_of "fit" ∷ task-name ∷ part-name ∷ []
  pub named : t.name ≡ name_of task-name
  pub timed : t.times ≡ times_of (values part-numbers)
