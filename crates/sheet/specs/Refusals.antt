-- The refusals of a timing sheet, as a table: document 01, "Refusal numbers": "9 first, then the first bad line from the top. In a line: 8, then 1, 2 or 3,
-- then 4, then 5, then 6 .. A missing line is 8 where it should stand .. a last line without newline is 8 at that line". Each carries its line.
-- `proofs/RefusalLaws.antt` has that `read_of` answers by it.
--
--   Said                  what lines say together: a machine, costs, parts and tasks
--   unsaid                where there is no line
--   line_table a n s       line n, which says s, below lines that say a and are good: so line 1 is `machine`, and line 2 is `cost`
--   line_below a s         what they say with it
--   said_by bytes          what all lines say together
--   lines_table bytes      all lines from the top, then a line that was cut, then a missing one
--   read_table bytes       9, then the lines
use Rattle.std.specs.Prelude.{◌≡◌, ℕ, ◌+◌, ◌≤◌, ◌<◌, length}
use mathlib.Core.List.{List, [], ◌∷◌, ◌++◌, map, get_last_d}
use Rattle.demand.specs.declared.Costs.{Costs}
use Rattle.demand.specs.Sizes.{Sized, SizedCosts}
use Rattle.demand.specs.Charge.{no_costs}
use Rattle.demand.specs.Tables.{Rule, ◌if◌carrying◌, Not, down_each, below}
use Rattle.task.specs.declared.Part.{Part}
use Rattle.task.specs.declared.Task.{Task}
use Rattle.task.specs.declared.Machine.{Machine}
use Rattle.task.specs.Tasks.{tasks_most, whole_piece, no_machine, task_of, SizedMachine}
use Rattle.task.specs.Refusals.{TaskNamed, PartNamed}
use Rattle.lines.specs.Lines.{newline}
use Rattle.lines.specs.Says.{Saying, machine, cost, part, fit, nothing, says_of}
use Rattle.sheet.specs.Sheet.{part_named, sheet_most}
use Rattle.sheet.specs.Fitted.{lines_of}

pub record Said : Type 0 where
  pub machine : Machine
  pub costs : Costs
  pub parts : List Part
  pub tasks : List Task

abbrev pub unsaid : Said
unsaid = record { machine = no_machine; costs = no_costs; parts = []; tasks = [] }

-- ---- one line

abbrev pub line_table : Said → ℕ → Saying → List Rule
line_table a n (machine m) =
    8 if Not (n ≡ 1) carrying n
    ∷ 1 if Not (SizedMachine m) carrying n
    ∷ []
line_table a n (cost c) =
    8 if Not (n ≡ 2) carrying n
    ∷ 2 if Not (SizedCosts c) carrying n
    ∷ []
line_table a n (part p) =
    8 if (n < 3) carrying n
    ∷ 8 if Not (a.tasks ≡ []) carrying n
    ∷ 3 if Not (Sized (whole_piece p.times)) carrying n
    ∷ 4 if PartNamed p.name a.parts carrying n
    ∷ 6 if (tasks_most ≤ length a.parts) carrying n
    ∷ []
line_table a n (fit t p) =
    8 if (n < 3) carrying n
    ∷ 4 if TaskNamed t a.tasks carrying n
    ∷ 5 if Not (PartNamed p a.parts) carrying n
    ∷ 6 if (tasks_most ≤ length a.tasks) carrying n
    ∷ []
-- a line of no form is 8 wherever it stands
line_table a n nothing =
    8 if Not ⊥ carrying n
    ∷ []

abbrev pub line_below : Said → Saying → Said
line_below a (machine m) = record { machine = m; costs = a.costs; parts = a.parts; tasks = a.tasks }
line_below a (cost c) = record { machine = a.machine; costs = c; parts = a.parts; tasks = a.tasks }
line_below a (part p) = record { machine = a.machine; costs = a.costs; parts = a.parts ++ (p ∷ []); tasks = a.tasks }
line_below a (fit t p) =
    record { machine = a.machine; costs = a.costs; parts = a.parts; tasks = a.tasks ++ (task_of t (part_named p a.parts) ∷ []) }
line_below a nothing = a

-- ---- the lines from the top

unfoldable pub said_by : List ℕ → Said
said_by bytes = below line_below unsaid (map says_of (lines_of bytes))

unfoldable pub lines_table : List ℕ → List Rule
lines_table bytes =
    down_each line_table line_below unsaid 1 (map says_of (lines_of bytes))
    ++ (8 if Not (get_last_d bytes newline ≡ newline) carrying (1 + length (lines_of bytes))
    ∷ 8 if (length (lines_of bytes) < 2) carrying (1 + length (lines_of bytes))
    ∷ [])

unfoldable pub read_table : List ℕ → List Rule
read_table bytes =
    9 if (sheet_most < length bytes) carrying 0
    ∷ lines_table bytes
