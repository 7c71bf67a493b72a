-- A sheet that is read breaks no rule: a planner finds nothing wrong with its machine, its costs and its tasks.
-- Assumes nothing.
--
--   first-snoc        one more good task below good tasks
--   Sound a           what stands above breaks no rule
--   breaks-no-rule    so does a sheet that is read
use mathlib.Core.Path.{◌≡◌, refl, ap, ◌∙◌}
use mathlib.Core.Bool.{true}
use mathlib.Core.List.{List, [], ◌∷◌, ◌++◌, append_assoc, append-nil}
use Prim.Native.Nat.{ℕ, zero, suc, ◌≤◌}
use native.Mathlib.Omega.{arith}
use borrow.Author.Tests.{le-leb}
use lib.ListN.{length}
use Rattle.std.proofs.Common.{Option, Some, None}
use Rattle.demand.specs.Sizes.{Each, sized, sized_costs}
use Rattle.demand.proofs.Sums.{each_snoc}
use Rattle.task.specs.declared.Name.{Name}
use Rattle.task.specs.declared.Part.{Part}
use Rattle.task.specs.declared.Task.{Task}
use Rattle.task.specs.Tasks.{task_of, tasks_most, sized_machine, whole_piece, or_else, fault_of, first_fault, state_fault, no_task}
use Rattle.task.specs.Names.{formed}
use Rattle.task.proofs.TaskLaws.{fault-free}
use Rattle.lines.specs.declared.Line.{Line}
use Rattle.lines.specs.Lines.{is_name}
use Rattle.lines.specs.Forms.{line_of}
use Rattle.demand.proofs.PaddedLaws.{padded-take}
use Rattle.lines.proofs.SaysLaws.{says-fit}
use Rattle.sheet.specs.Sheet.{Above, below_machine, among_parts, line_fault, part_named, after, whole, outcome_of, read_of}
use Rattle.sheet.proofs.FaultLaws.{line-machine, line-cost, line-part, line-fit}
use Rattle.sheet.proofs.WholeLaws.{read_keeps, read_whole, read_fits, read-shown, found}

-- ---- good tasks

or-none : (k n : ℕ) → or_else k n ≡ 0 → (k ≡ 0) × (n ≡ 0)
or-none zero n e = (refl, e)
or-none (suc k) n e = absurd (omega arith)

first-snoc : (ts : List Task) (above : List Task) (t : Task) → first_fault above ts ≡ 0 → fault_of (above ++ ts) t ≡ 0 → first_fault above (ts ++ (t ∷ [])) ≡ 0
first-snoc [] above t none good = let g : fault_of above t ≡ 0 = rw append-nil at good in rw g
first-snoc (s ∷ ts) above t none good =
    let first = or-none (fault_of above s) (first_fault (above ++ (s ∷ [])) ts) none in
    let more : fault_of ((above ++ (s ∷ [])) ++ ts) t ≡ 0 = rw (append_assoc above (s ∷ []) ts) good in
    rw first.0 (first-snoc ts (above ++ (s ∷ [])) t first.1 more)

-- ---- what stands above, line by line

SizedPart : Part → Type 0
SizedPart p = sized (whole_piece p.times) ≡ true

record Sound (a : Above) : Type 0 where
  machine-sized : below_machine ≤ a.stage → sized_machine a.machine ≡ true
  costs-sized : among_parts ≤ a.stage → sized_costs a.costs ≡ true
  parts-sized : Each SizedPart a.parts
  tasks-good : first_fault [] a.tasks ≡ 0

formed-task : (l : List ℕ) (t n : Name) → line_of l ≡ Some (Line.Fit t n) → formed t ≡ true
unfolding is_name
formed-task l t n says = let s = says-fit l t n says in ap formed s.task-is ∙ s.called

module _ (a : Above) (l : List ℕ) (so_far : Sound a) where
  task-good : (t n : Name) → line_of l ≡ Some (Line.Fit t n) → line_fault a (Some (Line.Fit t n)) ≡ 0
      → first_fault [] (a.tasks ++ (task_of t (part_named n a.parts) ∷ [])) ≡ 0
  unfolding SizedPart
  task-good t n says none =
      let kept = line-fit a t n none in
      let part = found SizedPart 1 n a.parts so_far.parts-sized kept.known in
      let fits : sized (whole_piece (part_named n a.parts).times) ≡ true = rw part.is part.holds in
      first-snoc a.tasks [] (task_of t (part_named n a.parts)) so_far.tasks-good
      (fault-free a.tasks (task_of t (part_named n a.parts)) (formed-task l t n says) fits kept.new)

  sound-step : line_fault a (line_of l) ≡ 0 → Sound (after a (line_of l))
  unfolding after SizedPart
  sound-step = by_form (line_of l) refl
    where
      by_form : (o : Option Line) → line_of l ≡ o → line_fault a o ≡ 0 → Sound (after a o)
      by_form (Some (Line.Machine m)) says none =
          record {
            machine-sized = λ s. (line-machine a m none).1;
            costs-sized = λ s. absurd (omega arith);
            parts-sized = so_far.parts-sized;
            tasks-good = so_far.tasks-good;
          }
      by_form (Some (Line.Cost c)) says none =
          let kept = line-cost a c none in
          record {
            machine-sized = λ s. so_far.machine-sized (omega (arith, kept.0));
            costs-sized = λ s. kept.1;
            parts-sized = so_far.parts-sized;
            tasks-good = so_far.tasks-good;
          }
      by_form (Some (Line.Part p)) says none =
          let kept = line-part a p none in
          record {
            machine-sized = λ s. so_far.machine-sized (omega (arith, kept.order));
            costs-sized = λ s. so_far.costs-sized (omega (arith, kept.order));
            parts-sized = each_snoc SizedPart a.parts p so_far.parts-sized kept.fits;
            tasks-good = so_far.tasks-good;
          }
      by_form (Some (Line.Fit t n)) says none =
          let kept = line-fit a t n none in
          record {
            machine-sized = λ s. so_far.machine-sized (omega (arith, kept.order));
            costs-sized = λ s. so_far.costs-sized (omega (arith, kept.order));
            parts-sized = so_far.parts-sized;
            tasks-good = task-good t n says none;
          }
      by_form None says none = so_far

-- ---- the whole sheet

abbrev Kept : List (List ℕ) → Above → Type 0
Kept ls a = Sound a

whole-sound : (bytes : List ℕ) (b : Above) → outcome_of bytes ≡ whole b → Sound b × (among_parts ≤ b.stage)
whole-sound bytes b e =
    read_keeps Kept (record { machine-sized = λ s. absurd (omega arith); costs-sized = λ s. absurd (omega arith); parts-sized = tt; tasks-good = refl })
    (λ ls a l so_far none. sound-step a l so_far none) bytes b e

pub breaks-no-rule : (bytes : List ℕ) → (read_of bytes).number ≡ 0
    → state_fault (read_of bytes).sheet.machine (read_of bytes).sheet.costs (read_of bytes).sheet.tasks.count (read_of bytes).sheet.tasks.list ≡ 0
unfolding state_fault
breaks-no-rule bytes none =
    let w = read_whole bytes none in
    let sound = whole-sound bytes w.0 w.1 in
    let short = (read_fits bytes w.0 w.1).tasks-fit in
    rw (
      read-shown bytes w.0 w.1,
      sound.0.machine-sized (omega (arith, sound.1)),
      sound.0.costs-sized sound.1,
      le-leb (length w.0.tasks) tasks_most short,
      padded-take no_task tasks_most w.0.tasks short,
    )
    sound.0.tasks-good
