-- What a line of a sheet says: document 01, "Sheet". No contract cites this; `proofs/MeansLaws.antt` has that a line read by `line_of` says the same.
--
--   Saying              a machine, costs, a part, a task's name with its part's, or nothing: a line of no form
--   has k n fs        the fields fs are k names, then n numbers, and no more
--   name_at k fs       the name that stands at place k of them, from 0
--   says_in w fs       by the word w, which is the first field, and the fields fs beyond it
--   says_of l          the line l
use Rattle.std.specs.Prelude.{Bool, cond, ◌&&◌, List, [], ℕ, ◌+◌, eqb, length, take, drop, get_or}
use Rattle.demand.specs.declared.Costs.{Costs}
use Rattle.task.specs.declared.Name.{Name}
use Rattle.task.specs.declared.Part.{Part}
use Rattle.task.specs.declared.Machine.{Machine}
use Rattle.task.specs.Names.{same_bytes}
use Rattle.lines.specs.Lines.{bytes_of, tab, up_to, beyond, every, is_number, is_name, name_of}
use Rattle.lines.specs.Forms.{machine_of, costs_of, times_of, values}

pub data Saying : Type 0 where
  machine : Machine → Saying
  cost : Costs → Saying
  part : Part → Saying
  fit : (task part : Name) → Saying
  nothing : Saying

abbrev pub has : (names numbers : ℕ) → List (List ℕ) → Bool
has k n fs = every is_name (take k fs) && eqb (length fs) (k + n) && every is_number (drop k fs)

abbrev pub name_at : ℕ → List (List ℕ) → Name
name_at k fs = name_of (get_or fs k [])

unfoldable pub says_in : List ℕ → List (List ℕ) → Saying
says_in w fs =
    cond (same_bytes w (bytes_of "machine") && has 0 2 fs) (machine (machine_of (values fs)))
    (cond (same_bytes w (bytes_of "cost") && has 0 9 fs) (cost (costs_of (values fs)))
    (cond (same_bytes w (bytes_of "part") && has 1 6 fs) (part (record { name = name_at 0 fs; times = times_of (values (drop 1 fs)) }))
    (cond (same_bytes w (bytes_of "fit") && has 2 0 fs) (fit (name_at 0 fs) (name_at 1 fs))
    nothing)))

unfoldable pub says_of : List ℕ → Saying
says_of l = says_in (up_to tab l) (beyond tab l)
