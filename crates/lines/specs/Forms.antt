-- What one line says by its form alone: document 01, "Sheet". A line of no form says nothing: `None`.
--
--   word_of f              the kind of line that the first field names
--   numbered n fs         the fields fs are n numbers
--   number_in f            the number that the field f is
--   numbers_in n fs        the n numbers that the fields fs are
--   machine_form fs        m, grain
--   cost_form fs           RelO, SchedO, TsetO, IpB, BetO, MigrO, IpiO, IpiJ, π
--   part_form fs           name, C, D, T, J, P, M
--   fit_form fs            task name, part name
--   line_of l              the line l: its word, and the fields beyond it
use Rattle.std.specs.Prelude.{Bool, cond, ◌&&◌, List, [], ◌∷◌, map, ℕ, eqb, length, get_or, Option, Some, None}
use Rattle.std.specs.Option.{option_map}
use Rattle.demand.specs.declared.Costs.{Costs}
use Rattle.task.specs.declared.Times.{Times}
use Rattle.task.specs.declared.Part.{Part}
use Rattle.task.specs.declared.Machine.{Machine}
use Rattle.task.specs.Names.{same_bytes}
use Rattle.lines.specs.declared.forms.Word.{Word}
use Rattle.lines.specs.declared.Line.{Line}
use Rattle.lines.specs.Lines.{bytes_of, tab, up_to, beyond, every, is_number, value_of, is_name, name_of}

-- ---- numbers in their order

abbrev pub at : List ℕ → ℕ → ℕ
at vs k = get_or vs k 0

abbrev pub machine_of : List ℕ → Machine
machine_of vs = record { cores = at vs 0; grain = at vs 1 }

abbrev pub costs_of : List ℕ → Costs
costs_of vs =
    record { relo = at vs 0; schedo = at vs 1; tseto = at vs 2; ipb = at vs 3; beto = at vs 4; migro = at vs 5; ipio = at vs 6; ipij = at vs 7; precision = at vs 8 }

abbrev pub times_of : List ℕ → Times
times_of vs = record { worst = at vs 0; deadline = at vs 1; period = at vs 2; jitter = at vs 3; preempt = at vs 4; migrate = at vs 5 }

-- ---- the four forms

abbrev pub numbered : ℕ → List (List ℕ) → Bool
numbered n fs = eqb (length fs) n && every is_number fs

abbrev pub values : List (List ℕ) → List ℕ
values fs = map value_of fs

unfoldable pub number_in : List ℕ → Option ℕ
number_in f = cond (is_number f) (Some (value_of f)) None

unfoldable pub numbers_in : ℕ → List (List ℕ) → Option (List ℕ)
numbers_in n fs = cond (numbered n fs) (Some (values fs)) None

unfoldable pub machine_form : List (List ℕ) → Option Machine
machine_form fs = cond (numbered 2 fs) (Some (machine_of (values fs))) None

unfoldable pub cost_form : List (List ℕ) → Option Costs
cost_form fs = cond (numbered 9 fs) (Some (costs_of (values fs))) None

unfoldable pub part_form : List (List ℕ) → Option Part
part_form [] = None
part_form (f ∷ fs) = cond (is_name f && numbered 6 fs) (Some (record { name = name_of f; times = times_of (values fs) })) None

-- the part stands above, so the line only names it
unfoldable pub fit_form : List (List ℕ) → Option Line
fit_form [] = None
fit_form (f ∷ []) = None
fit_form (f ∷ g ∷ []) = cond (is_name f && is_name g) (Some (Line.Fit (name_of f) (name_of g))) None
fit_form (f ∷ g ∷ h ∷ fs) = None

-- ---- a line

unfoldable pub word_of : List ℕ → Option Word
word_of f =
    cond (same_bytes f (bytes_of "machine")) (Some Word.Machine)
    (cond (same_bytes f (bytes_of "cost")) (Some Word.Cost)
    (cond (same_bytes f (bytes_of "part")) (Some Word.Part)
    (cond (same_bytes f (bytes_of "fit")) (Some Word.Fit) None)))

abbrev pub form_of : Option Word → List (List ℕ) → Option Line
form_of (Some Word.Machine) fs = option_map Line.Machine (machine_form fs)
form_of (Some Word.Cost) fs = option_map Line.Cost (cost_form fs)
form_of (Some Word.Part) fs = option_map Line.Part (part_form fs)
form_of (Some Word.Fit) fs = fit_form fs
form_of None fs = None

unfoldable pub line_of : List ℕ → Option Line
line_of l = form_of (word_of (up_to tab l)) (beyond tab l)
