-- A timing sheet, read: document 01, "Sheet" and "Refusal numbers".
--
--   Above               what stands above a line
--   line_fault a l       what is wrong with the line l below a: 8, then 1, 2 or 3, then 4, then 5, then 6; or 0
--   after a l           what stands after it
--   read_from a n l ls   the lines from line n on: the first bad one's refusal, or all that stands at the end
--   outcome_of bytes     the whole sheet; 9 first
--   read_of bytes        the same as a record
--   read_shown r         what is given back, as that record
use Rattle.std.specs.Prelude.{Bool, cond, not, List, [], ◌∷◌, ◌++◌, ℕ, zero, suc, ◌+◌, leb, ltb, eqb, length, Option, Some, None, Result, Ok, Err}
use Rattle.demand.specs.declared.Costs.{Costs}
use Rattle.demand.specs.Sizes.{sized, sized_costs}
use Rattle.task.specs.declared.Name.{Name}
use Rattle.task.specs.declared.Part.{Part}
use Rattle.task.specs.declared.Task.{Task}
use Rattle.task.specs.declared.Machine.{Machine}
use Rattle.task.specs.Names.{same_name}
use Rattle.task.specs.Tasks.{tasks_most, no_part, no_machine, task_of, tasks_of, sized_machine, whole_piece, place_of, part_place, rule}
use Rattle.task.specs.Faults.{number_of}
use Rattle.lines.specs.declared.Line.{Line}
use Rattle.sheet.specs.declared.Sheet.{Sheet}
use Rattle.task.specs.declared.faults.Refused.{Refused}
use Rattle.demand.specs.Charge.{no_costs}
use Rattle.lines.specs.Lines.{newline, up_to, beyond}
use Rattle.lines.specs.Forms.{line_of}

-- what is known where a line begins; the stage says which lines may stand there
pub record Above : Type 0 where
  pub stage : ℕ
  pub machine : Machine
  pub costs : Costs
  pub parts : List Part
  pub tasks : List Task

-- ---- the order of lines: `machine`, `cost`, any `part` lines, any `fit` lines

abbrev pub at_top : ℕ
at_top = 0

abbrev pub below_machine : ℕ
below_machine = 1

abbrev pub among_parts : ℕ
among_parts = 2

abbrev pub among_fits : ℕ
among_fits = 3

abbrev pub top : Above
top = record { stage = at_top; machine = no_machine; costs = no_costs; parts = []; tasks = [] }

-- ---- one line's judgement, each rule with the number of its refusal

-- no task, and no part, has that name
abbrev pub task_free : Name → List Task → Bool
task_free n ts = eqb (place_of 1 n ts) 0

abbrev pub part_free : Name → List Part → Bool
part_free n ps = eqb (part_place 1 n ps) 0

-- a 65th has no room
abbrev pub room : {A : Type 0} → List A → Bool
room xs = ltb (length xs) tasks_most

unfoldable pub machine_fault : ℕ → Machine → ℕ
machine_fault stage m =
    rule (eqb stage at_top) 8
    (rule (sized_machine m) 1
    0)

unfoldable pub cost_fault : ℕ → Costs → ℕ
cost_fault stage c =
    rule (eqb stage below_machine) 8
    (rule (sized_costs c) 2
    0)

unfoldable pub part_fault : ℕ → Part → List Part → ℕ
part_fault stage p parts =
    rule (eqb stage among_parts) 8
    (rule (sized (whole_piece p.times)) 3
    (rule (part_free p.name parts) 4
    (rule (room parts) 6
    0)))

unfoldable pub fit_fault : ℕ → (task part : Name) → List Part → List Task → ℕ
fit_fault stage n p parts tasks =
    rule (leb among_parts stage) 8
    (rule (task_free n tasks) 4
    (rule (not (part_free p parts)) 5
    (rule (room tasks) 6
    0)))

unfoldable pub line_fault : Above → Option Line → ℕ
line_fault a (Some (Line.Machine m)) = machine_fault a.stage m
line_fault a (Some (Line.Cost c)) = cost_fault a.stage c
line_fault a (Some (Line.Part p)) = part_fault a.stage p a.parts
line_fault a (Some (Line.Fit n p)) = fit_fault a.stage n p a.parts a.tasks
line_fault a None = 8

-- ---- what stands after a good line

-- the part of that name
abbrev pub part_named : Name → List Part → Part
part_named n [] = no_part
part_named n (p ∷ ps) = cond (same_name n p.name) p (part_named n ps)

abbrev pub with_machine : Above → Machine → Above
with_machine a m = record { stage = below_machine; machine = m; costs = a.costs; parts = a.parts; tasks = a.tasks }

abbrev pub with_costs : Above → Costs → Above
with_costs a c = record { stage = among_parts; machine = a.machine; costs = c; parts = a.parts; tasks = a.tasks }

abbrev pub with_part : Above → Part → Above
with_part a p = record { stage = among_parts; machine = a.machine; costs = a.costs; parts = a.parts ++ (p ∷ []); tasks = a.tasks }

abbrev pub with_task : Above → Task → Above
with_task a t = record { stage = among_fits; machine = a.machine; costs = a.costs; parts = a.parts; tasks = a.tasks ++ (t ∷ []) }

unfoldable pub after : Above → Option Line → Above
after a (Some (Line.Machine m)) = with_machine a m
after a (Some (Line.Cost c)) = with_costs a c
after a (Some (Line.Part p)) = with_part a p
after a (Some (Line.Fit n p)) = with_task a (task_of n (part_named p a.parts))
after a None = a

-- ---- the lines from the top

pub data Outcome : Type 0 where
  refused : (number line : ℕ) → Outcome
  whole : Above → Outcome

-- where no line is left: one without its newline is 8, and so is a missing `machine` or `cost`, where it should stand
abbrev pub ending : Above → ℕ → List ℕ → Outcome
ending a n [] = cond (leb among_parts a.stage) (whole a) (refused 8 n)
ending a n (b ∷ l) = refused 8 n

abbrev pub next : ℕ → ℕ → Outcome → Outcome
next zero n rest = rest
next (suc k) n rest = refused (suc k) n

-- l and ls are the runs between newlines; the last of them stands behind the last newline, and is no line
unfoldable pub read_from : Above → ℕ → List ℕ → List (List ℕ) → Outcome
read_from a n l [] = ending a n l
read_from a n l (m ∷ ls) = next (line_fault a (line_of l)) n (read_from (after a (line_of l)) (n + 1) m ls)

abbrev pub sheet_most : ℕ
sheet_most = 16384

unfoldable pub outcome_of : List ℕ → Outcome
outcome_of bytes = cond (leb (length bytes) sheet_most) (read_from top 1 (up_to newline bytes) (beyond newline bytes)) (refused 9 0)

-- ---- the answer as a record: 0, 0 and the sheet; or a refusal's number, its line, and the empty sheet. 9 carries 0

pub record Read : Type 0 where
  pub number : ℕ
  pub carries : ℕ
  pub sheet : Sheet

abbrev pub sheet_of : Above → Sheet
sheet_of a = record { machine = a.machine; costs = a.costs; tasks = tasks_of a.tasks }

abbrev pub shown : Outcome → Read
shown (refused number line) = record { number = number; carries = line; sheet = sheet_of top }
shown (whole a) = record { number = 0; carries = 0; sheet = sheet_of a }

unfoldable pub read_of : List ℕ → Read
read_of bytes = shown (outcome_of bytes)

-- the same of what is given back
abbrev pub read_shown : Result Sheet Refused → Read
read_shown (Ok s) = record { number = 0; carries = 0; sheet = s }
read_shown (Err r) = shown (refused (number_of r.fault) r.carries)
