-- Why, on lent bytes: document 02, E1.
--
-- What it means, by what the records or the sheet's lines say and what the walk placed:
--   why_records_text rs cs       the listing of lent records
--   why_core_text sheet core     the listing of a core, from 1, of a sheet's plan; where the walk sticks, that of the last core as it stood then, with the whole stuck
--                              task added, and a line in front
-- And as it is worked out, which `proofs/WhyLaws.antt` ties to it:
--   why_records rs cs           what lent records come to: 8 first, then as their verdict is refused; else the listing
--   why_core sheet core         what a sheet and a core come to: the sheet's own refusal; 1 where the machine has no such core; else the listing
--   why_records_number, why_records_left, why_core_number, why_core_left       what is given back for them, and what the buffer then holds
--   demand_number rs cs t       g(t) of lent records; 0 where they are refused, or t is no length that can be judged
use Rattle.std.specs.Prelude.{cond, List, [], ◌∷◌, ◌++◌, map, ℕ, ◌+◌, ◌-◌, length, Err, None, Ok, Option, Result, Some}
use Rattle.demand.specs.declared.Costs.{Costs}
use Rattle.demand.specs.Answer.{demand_figure}
use Rattle.task.specs.declared.Task.{Task}
use Rattle.task.specs.declared.Machine.{Machine}
use Rattle.task.specs.Tasks.{task_at}
use Rattle.walks.specs.Way.{Ending, fine, stuck, on_core}
use Rattle.walks.specs.Halves.{Stand}
use Rattle.plan.specs.Reply.{Reply}
use Rattle.plan.specs.Walk.{walked, walked_until}
use Rattle.plan.specs.Plan.{reached_of}
use Rattle.sheet.specs.declared.Sheet.{Sheet}
use Rattle.sheet.specs.Sheet.{Read}
use Rattle.sheet.specs.Sheet.{read_of}
use Rattle.listing.specs.Listing.{spelling}
use Rattle.listing.specs.Papers.{Paper, refused, left}
use Rattle.listing.specs.Why.{no_room_line, why_text, by_place, why_run, titled_placed, whole_seat, why_of}
use Rattle.spardimple.specs.Bytes.{pieces_of, costs_spelt}
use Rattle.spardimple.specs.Numbers.{number, measured}
use Rattle.spardimple.specs.Sheets.{machine_in, costs_in, tasks_in, unless, told_paper}
use Rattle.demand.specs.declared.Refusal.{Refusal}

-- ---- what is listed

unfoldable pub why_records_text : (rs cs : List ℕ) → List ℕ
why_records_text rs cs = why_text (costs_spelt cs) (by_place 1 (pieces_of rs))

-- by how the walk over the tasks ts ended
abbrev pub why_ending : Machine → Costs → List Task → ℕ → Ending Stand ℕ → List ℕ
why_ending m c ts core (fine s log) = why_text c (map (titled_placed ts) (on_core (core - 1) log))
why_ending m c ts core (stuck k n) =
    no_room_line (k + 1) (spelling (task_at ts k).name) m.cores
    ++ why_text c (map (titled_placed ts) (on_core (m.cores - 1) (walked_until m c ts) ++ (whole_seat ts (m.cores - 1) k ∷ [])))

unfoldable pub why_core_text : (sheet : List ℕ) → (core : ℕ) → List ℕ
why_core_text sheet core =
    why_ending (machine_in sheet) (costs_in sheet) (tasks_in sheet) core (walked (machine_in sheet) (costs_in sheet) (tasks_in sheet))

-- ---- as it is worked out

unfoldable pub why_records : (rs cs : List ℕ) → Paper
why_records rs cs = cond (measured rs cs) (why_run (costs_spelt cs) (length (pieces_of rs)) (pieces_of rs)) (refused 8 0)

abbrev pub reached_sheet : Sheet → Reply
reached_sheet s = reached_of s.machine s.costs s.tasks.count s.tasks.list

-- a plan carries 0, and a walk that stuck the task's place
abbrev pub why_reached : Reply → ℕ → Paper
why_reached r core = why_of r.plan r.carries core

abbrev pub why_read : Read → ℕ → Paper
why_read r core = unless r.number r.carries (why_reached (reached_sheet r.sheet) core)

unfoldable pub why_core : (sheet : List ℕ) → (core : ℕ) → Paper
why_core sheet core = why_read (read_of sheet) core

-- ---- what is given back, and what the buffer holds

unfoldable pub why_records_number : (rs cs : List ℕ) → (room : ℕ) → ℕ
why_records_number rs cs room = number (told_paper (why_records rs cs) room)

unfoldable pub why_records_left : (rs cs old : List ℕ) → List ℕ
why_records_left rs cs old = left (why_records rs cs) old

unfoldable pub why_core_number : (sheet : List ℕ) → (core room : ℕ) → ℕ
why_core_number sheet core room = number (told_paper (why_core sheet core) room)

unfoldable pub why_core_left : (sheet : List ℕ) → (core : ℕ) → (old : List ℕ) → List ℕ
why_core_left sheet core old = left (why_core sheet core) old

-- ---- the demand at a length

abbrev pub figure_number : Result (Option ℕ) Refusal → ℕ
figure_number (Ok (Some n)) = n
figure_number (Ok None) = 0
figure_number (Err r) = 0

unfoldable pub demand_number : (rs cs : List ℕ) → (t : ℕ) → ℕ
demand_number rs cs t = cond (measured rs cs) (figure_number (demand_figure (costs_spelt cs) (length (pieces_of rs)) (pieces_of rs) t)) 0
