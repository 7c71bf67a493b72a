-- What the reader holds of what stands above a line: its stage by name, the parts and tasks as arrays with zeros behind them.
--
--   stage_number s    the stage that is named
--   list_in z xs       the list xs in an array, with z behind it
--   Carries a d       the draft d holds a
use Rattle.std.specs.Prelude.{◌≡◌, ℕ, ◌≤◌, List, length}
use Rattle.demand.specs.Lists.{padded}
use Rattle.task.specs.Tasks.{tasks_most, no_part, no_task}
use Rattle.sheet.specs.declared.drafts.Stage.{Stage}
use Rattle.sheet.specs.declared.drafts.Listed.{Listed}
use Rattle.sheet.specs.declared.drafts.Draft.{Draft}
use Rattle.sheet.specs.Sheet.{Above, at_top, below_machine, among_parts, among_fits}

abbrev pub stage_number : Stage → ℕ
stage_number Stage.AtTop = at_top
stage_number Stage.BelowMachine = below_machine
stage_number Stage.AmongParts = among_parts
stage_number Stage.AmongFits = among_fits

abbrev pub list_in : {A : Type 0} → A → List A → Listed A
list_in z xs = record { count = length xs; list = padded tasks_most z xs }

pub record Carries (a : Above) (d : Draft) : Type 0 where
  pub stage_is : stage_number d.stage ≡ a.stage
  pub machine_is : d.machine ≡ a.machine
  pub costs_are : d.costs ≡ a.costs
  pub parts_are : d.parts ≡ list_in no_part a.parts
  pub parts_fit : length a.parts ≤ tasks_most
  pub tasks_are : d.tasks ≡ list_in no_task a.tasks
  pub tasks_fit : length a.tasks ≤ tasks_most
