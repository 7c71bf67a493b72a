-- Laws of the draft that holds what stands above a line, and of what a line makes of it.
-- Assumes nothing.
--
--   part-judged, fit-judged     what is wrong with a line, by what the draft holds
--   part-on, fit-on             what it holds below a good one
--   line_cases                  the set of these
use mathlib.Core.Path.{◌≡◌, refl, ap, ◌∙◌}
use mathlib.Core.List.{List}
use Prim.Native.Nat.{◌+◌}
use native.Mathlib.Omega.{arith}
use lib.ListN.{take, set, length-append}
use Rattle.std.proofs.Common.{Some}
use Rattle.task.specs.declared.Name.{Name}
use Rattle.task.specs.declared.Part.{Part}
use Rattle.task.specs.declared.Task.{Task}
use Rattle.task.specs.Tasks.{no_part, no_task, task_of}
use Rattle.lines.specs.declared.Line.{Line}
use Rattle.sheet.specs.declared.drafts.Stage.{Stage}
use Rattle.sheet.specs.declared.drafts.Listed.{Listed}
use Rattle.sheet.specs.declared.drafts.Draft.{Draft}
use Rattle.sheet.specs.Sheet.{Above, part_fault, fit_fault, line_fault, part_named, after}
use Rattle.sheet.specs.Ways.ReaderHolds.{stage_number, Carries}
use Rattle.sheet.proofs.DraftLaws.{held_is, put-on}
use Rattle.sheet.proofs.FaultLaws.{part-kept, fit-kept, line-part, line-fit}

module _ (a : Above) (d : Draft) (c : Carries a d) (ps : List Part) (parts : ps ≡ take d.parts.count d.parts.list) where
  parts_is : ps ≡ a.parts
  parts_is = parts ∙ held_is no_part d.parts a.parts c.parts_are c.parts_fit

  pub part-judged : (p : Part) → part_fault (stage_number d.stage) p ps ≡ line_fault a (Some (Line.Part p))
  unfolding line_fault
  part-judged p = rw (c.stage_is, parts_is)

  pub part-on : (p : Part) → line_fault a (Some (Line.Part p)) ≡ 0
      → (q : Listed Part) → q.count ≡ d.parts.count + 1 → q.list ≡ set d.parts.list d.parts.count p
      → Carries (after a (Some (Line.Part p))) (record { stage = d.stage; machine = d.machine; costs = d.costs; parts = q; tasks = d.tasks })
  unfolding after
  part-on p none q count list =
      let kept = line-part a p none in
      record {
        stage_is = c.stage_is ∙ kept.order;
        machine_is = c.machine_is;
        costs_are = c.costs_are;
        parts_are = put-on no_part d.parts a.parts c.parts_are q.count q.list p kept.space count list;
        parts_fit = rw length-append (omega (arith, kept.space));
        tasks_are = c.tasks_are;
        tasks_fit = c.tasks_fit;
      }

  module _ (ts : List Task) (tasks : ts ≡ take d.tasks.count d.tasks.list) where
    tasks_is : ts ≡ a.tasks
    tasks_is = tasks ∙ held_is no_task d.tasks a.tasks c.tasks_are c.tasks_fit

    pub fit-judged : (n p : Name) → fit_fault (stage_number d.stage) n p ps ts ≡ line_fault a (Some (Line.Fit n p))
    unfolding line_fault
    fit-judged n p = rw (c.stage_is, parts_is, tasks_is)

    pub fit-on : (n p : Name) (t : Task) → t ≡ task_of n (part_named p ps) → line_fault a (Some (Line.Fit n p)) ≡ 0
        → (q : Listed Task) → q.count ≡ d.tasks.count + 1 → q.list ≡ set d.tasks.list d.tasks.count t
        → Carries (after a (Some (Line.Fit n p))) (record { stage = Stage.AmongFits; machine = d.machine; costs = d.costs; parts = d.parts; tasks = q })
    unfolding after
    fit-on n p t made none q count list =
        let kept = line-fit a n p none in
        let fitted : t ≡ task_of n (part_named p a.parts) = made ∙ ap (λ (l : List Part). task_of n (part_named p l)) parts_is in
        record {
          stage_is = refl;
          machine_is = c.machine_is;
          costs_are = c.costs_are;
          parts_are = c.parts_are;
          parts_fit = c.parts_fit;
          tasks_are = rw (← fitted) (put-on no_task d.tasks a.tasks c.tasks_are q.count q.list t kept.space count list);
          tasks_fit = rw length-append (omega (arith, kept.space));
        }

pub ruleset line_cases = (part-judged, part-on, fit-judged, fit-on, part-kept, fit-kept)
