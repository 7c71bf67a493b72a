-- From a sheet's bytes to its listing's bytes: document 01, "Sheet" and "Refusal numbers".
--
-- What it means, by what the sheet's lines say and what the walk placed:
--   machine_in, costs_in, tasks_in    what a sheet says: the machine, the costs, the task list
--   placed_of sheet        what the walk over its tasks places, where it ends well
--   text_of sheet          the listing of that
-- And as it is worked out, which `proofs/PaperLaws.antt` ties to it:
--   planned r             the paper of what was read: the sheet's own refusal; else 7 with the task; else the plan's listing
--   paper_of sheet         the paper of a sheet's bytes
--   told_paper p n         document 01's number for it, where the lent buffer has n bytes: 10 with the length needed, where it is shorter
--   listing_number sheet n the one number that is given back
--   listing_left sheet old what the buffer then holds: all of the listing and the bytes beyond it, or what it held
use Rattle.std.specs.Prelude.{cond, List, [], ℕ, zero, suc, ◌+◌, leb, length}
use Rattle.demand.specs.declared.Costs.{Costs}
use Rattle.demand.specs.Answer.{Told}
use Rattle.task.specs.declared.Task.{Task}
use Rattle.task.specs.declared.Machine.{Machine}
use Rattle.walks.specs.Way.{Placed, Ending, fine, stuck}
use Rattle.walks.specs.Halves.{Stand}
use Rattle.plan.specs.Reply.{Reply}
use Rattle.plan.specs.Walk.{walked}
use Rattle.plan.specs.Plan.{plan_of}
use Rattle.sheet.specs.declared.Sheet.{Sheet}
use Rattle.sheet.specs.Sheet.{Read}
use Rattle.sheet.specs.Sheet.{read_of}
use Rattle.sheet.specs.Refusals.{said_by}
use Rattle.listing.specs.Listing.{listing_of}
use Rattle.listing.specs.Papers.{Paper, refused, written, left}
use Rattle.listing.specs.Placed.{placed_listing}
use Rattle.spardimple.specs.Numbers.{number}

-- ---- what a sheet says, and what is listed of it

abbrev pub machine_in : List ℕ → Machine
machine_in sheet = (said_by sheet).machine

abbrev pub costs_in : List ℕ → Costs
costs_in sheet = (said_by sheet).costs

abbrev pub tasks_in : List ℕ → List Task
tasks_in sheet = (said_by sheet).tasks

abbrev pub placed_by : Ending Stand ℕ → List (Placed ℕ)
placed_by (fine s log) = log
placed_by (stuck k n) = []

abbrev pub placed_of : List ℕ → List (Placed ℕ)
placed_of sheet = placed_by (walked (machine_in sheet) (costs_in sheet) (tasks_in sheet))

unfoldable pub text_of : List ℕ → List ℕ
text_of sheet = placed_listing (costs_in sheet) (tasks_in sheet) (placed_of sheet)

-- ---- reading, then the walk, then the listing

abbrev pub unless : (number carries : ℕ) → Paper → Paper
unless zero k rest = rest
unless (suc n) k rest = refused (suc n) k

abbrev pub plan_sheet : Sheet → Reply
plan_sheet s = plan_of s.machine s.costs s.tasks.count s.tasks.list

abbrev pub listed : Reply → Paper
listed r = unless r.number r.carries (written (listing_of r.plan))

abbrev pub planned : Read → Paper
planned r = unless r.number r.carries (listed (plan_sheet r.sheet))

unfoldable pub paper_of : List ℕ → Paper
paper_of sheet = planned (read_of sheet)

-- ---- what is given back, and what the buffer holds

abbrev pub refusal : (number carries : ℕ) → Told
refusal n k = record { which = 100 + n; carries = k }

abbrev pub told_paper : Paper → ℕ → Told
told_paper (refused n k) room = refusal n k
told_paper (written text) room = cond (leb (length text) room) (record { which = 0; carries = length text }) (refusal 10 (length text))

unfoldable pub listing_number : List ℕ → ℕ → ℕ
listing_number sheet room = number (told_paper (paper_of sheet) room)

unfoldable pub listing_left : List ℕ → List ℕ → List ℕ
listing_left sheet old = left (paper_of sheet) old
