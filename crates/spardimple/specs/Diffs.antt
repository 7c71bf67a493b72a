-- Two sheets' plans side by side, on lent bytes: document 02, E3.
--
-- What it means, by what the sheets' lines say and what the walks placed:
--   standing_in sheet          what the sheet's plan places, by the names of its tasks: by core, then placement
--   diff_text_of sheet sheet'   the listing of both
-- And as it is worked out, which `proofs/DiffLaws.antt` ties to it:
--   second_from                what is added to the numbers of the second sheet's refusals
--   unless_from m n k rest     the refusal n, its number with m added, or the rest: as `unless` of `Sheets`, which adds nothing
--   reply_from m r go          the same of the answer r for a plan
--   plan_from m r go           what is made of the plan of what was read, r: its own refusal; 7; else what go makes of the plan
--   diff_paper sheet sheet'    what two sheets come to: the first one's refusal; the second one's, its number with 1000 added; else the listing
--   diff_number, diff_left      what is given back for them, and what the buffer then holds
use Rattle.std.specs.Prelude.{List, map, ℕ, zero, suc, ◌+◌, length}
use Rattle.task.specs.Tasks.{cores_most}
use Rattle.walks.specs.Way.{Placed}
use Rattle.plan.specs.declared.Plan.{Plan}
use Rattle.plan.specs.Reply.{Reply}
use Rattle.sheet.specs.Sheet.{Read}
use Rattle.sheet.specs.Sheet.{read_of}
use Rattle.listing.specs.Papers.{Paper, refused, written, left}
use Rattle.listing.specs.Placed.{by_core}
use Rattle.listing.specs.Diff.{called_by, diff_text, diff_of}
use Rattle.spardimple.specs.Numbers.{number}
use Rattle.spardimple.specs.Sheets.{tasks_in, placed_of, plan_sheet, told_paper}

-- ---- what is listed

abbrev pub standing_in : List ℕ → List (Placed (List ℕ))
standing_in sheet = map (called_by (tasks_in sheet)) (by_core cores_most (placed_of sheet))

unfoldable pub diff_text_of : (sheet sheet' : List ℕ) → List ℕ
diff_text_of sheet sheet' = diff_text (length (tasks_in sheet)) (length (tasks_in sheet')) (standing_in sheet) (standing_in sheet')

-- ---- as it is worked out

abbrev pub second_from : ℕ
second_from = 1000

abbrev pub unless_from : (m number carries : ℕ) → Paper → Paper
unless_from m zero k rest = rest
unless_from m (suc n) k rest = refused (m + suc n) k

abbrev pub reply_from : ℕ → Reply → (Plan → Paper) → Paper
reply_from m r go = unless_from m r.number r.carries (go r.plan)

abbrev pub plan_from : ℕ → Read → (Plan → Paper) → Paper
plan_from m r go = unless_from m r.number r.carries (reply_from m (plan_sheet r.sheet) go)

unfoldable pub diff_paper : (sheet sheet' : List ℕ) → Paper
diff_paper sheet sheet' = plan_from 0 (read_of sheet) (λ p. plan_from second_from (read_of sheet') (λ q. written (diff_of p q)))

-- ---- what is given back, and what the buffer holds

unfoldable pub diff_number : (sheet sheet' : List ℕ) → (room : ℕ) → ℕ
diff_number sheet sheet' room = number (told_paper (diff_paper sheet sheet') room)

unfoldable pub diff_left : (sheet sheet' old : List ℕ) → List ℕ
diff_left sheet sheet' old = left (diff_paper sheet sheet') old
