-- What stands in a held plan, for two of them side by side: what the walk placed.
-- Assumes nothing.
--
--   standing-held     so it is, by core, then placement
--   held-diff         so the listing of two held plans is that of what their walks placed
use mathlib.Core.Path.{◌≡◌}
use mathlib.Core.List.{map}
use Rattle.task.specs.Tasks.{cores_most}
use Rattle.plan.specs.declared.Plan.{Plan}
use Rattle.plan.proofs.Theorems.{placed-places}
use Rattle.listing.specs.Placed.{by_core}
use Rattle.listing.specs.Diff.{called_by, standing, diff_text, diff_of}
use Rattle.listing.proofs.WhyPlacedLaws.{kept-seats}
use Rattle.listing.proofs.DiffPlanLaws.{standing-kept}
use Rattle.edits.specs.Edits.{tasks_held, Held}
use Rattle.spardimple.proofs.WhyHeld.{good, row_kept, task-held}

pub standing-held : (s : Plan) (held : Held s) → standing s ≡ map (called_by (tasks_held s)) (by_core cores_most held.log)
standing-held s held =
    standing-kept s (tasks_held s) held.log (λ q low. kept-seats s.layout held.log q (row_kept s held q low)) (task-held s held)
    (placed-places s.machine s.costs s.tasks.count s.tasks.list (good s held) held.stand held.log held.walks)

pub held-diff : (s t : Plan) (held : Held s) (other : Held t)
    → diff_of s t
    ≡ diff_text s.tasks.count t.tasks.count (map (called_by (tasks_held s)) (by_core cores_most held.log))
    (map (called_by (tasks_held t)) (by_core cores_most other.log))
unfolding diff_of
held-diff s t held other = λ i. diff_text s.tasks.count t.tasks.count (standing-held s held i) (standing-held t other i)
