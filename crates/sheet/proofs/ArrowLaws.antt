-- The first arrow: a sheet that is read names only parts that stand above in it, in equal length and bytes, and each of its tasks has exactly
-- its part's times.
-- Assumes nothing.
--
--   Stands ls p     the part p stands among the lines ls
--   first-arrow     each task of a sheet that is read is `Fitted`
use mathlib.Core.Path.{◌≡◌, refl, sym, ap, ◌∙◌}
use mathlib.Core.Bool.{true}
use mathlib.Core.List.{List, [], ◌∷◌, ◌++◌, append_assoc}
use Prim.Native.Nat.{ℕ}
use Rattle.std.proofs.Common.{Option, Some, None}
use Rattle.demand.specs.Sizes.{Each}
use Rattle.demand.proofs.Sums.{each_snoc}
use Rattle.task.specs.declared.Name.{Name}
use Rattle.task.specs.declared.Part.{Part}
use Rattle.task.specs.declared.Task.{Task}
use Rattle.task.specs.Tasks.{task_of, list_of}
use Rattle.lines.specs.declared.Line.{Line}
use Rattle.lines.specs.Lines.{bytes_of, fields, name_of, is_name}
use Rattle.lines.specs.Forms.{times_of, values, line_of}
use Rattle.lines.proofs.SaysLaws.{says-part, says-fit, name-exact}
use Rattle.sheet.specs.Sheet.{Above, line_fault, part_named, after, whole, outcome_of, read_of}
use Rattle.sheet.specs.Fitted.{lines_of, Fitted}
use Rattle.sheet.proofs.FaultLaws.{line-fit}
use Rattle.sheet.proofs.WholeLaws.{read_keeps, read_whole, read-tasks, Found, found}

record Stands (ls : List (List ℕ)) (p : Part) : Type 0 where
  above : List (List ℕ)
  below : List (List ℕ)
  line : List ℕ
  name : List ℕ
  numbers : List (List ℕ)
  order : ls ≡ above ++ (line ∷ below)
  reads : fields line ≡ bytes_of "part" ∷ name ∷ numbers
  good : is_name name ≡ true
  named : p.name ≡ name_of name
  timed : p.times ≡ times_of (values numbers)

-- ---- one line more

module _ (ls : List (List ℕ)) (l : List ℕ) where
  stands_on : (p : Part) → Stands ls p → Stands (ls ++ (l ∷ [])) p
  stands_on p s =
      record {
        above = s.above;
        below = s.below ++ (l ∷ []);
        line = s.line;
        name = s.name;
        numbers = s.numbers;
        order = ap (λ (k : List (List ℕ)). k ++ (l ∷ [])) s.order ∙ append_assoc s.above (s.line ∷ s.below) (l ∷ []);
        reads = s.reads;
        good = s.good;
        named = s.named;
        timed = s.timed;
      }

  fitted-on : (t : Task) → Fitted ls t → Fitted (ls ++ (l ∷ [])) t
  fitted-on t f =
      let inner : (f.between ++ (f.fit-line ∷ f.below)) ++ (l ∷ []) ≡ f.between ++ (f.fit-line ∷ (f.below ++ (l ∷ []))) =
      append_assoc f.between (f.fit-line ∷ f.below) (l ∷ []) in
      record {
        above = f.above;
        between = f.between;
        below = f.below ++ (l ∷ []);
        part-line = f.part-line;
        fit-line = f.fit-line;
        part-name = f.part-name;
        part-numbers = f.part-numbers;
        task-name = f.task-name;
        order =
            ap (λ (k : List (List ℕ)). k ++ (l ∷ [])) f.order
            ∙ append_assoc f.above (f.part-line ∷ (f.between ++ (f.fit-line ∷ f.below))) (l ∷ [])
            ∙ ap (λ (k : List (List ℕ)). f.above ++ (f.part-line ∷ k)) inner;
        part-reads = f.part-reads;
        fit-reads = f.fit-reads;
        named = f.named;
        timed = f.timed;
      }

each_on : {A : Type 0} (P Q : A → Type 0) → ((x : A) → P x → Q x) → (xs : List A) → Each P xs → Each Q xs
each_on P Q on [] each = tt
each_on P Q on (x ∷ xs) each = (on x each.0, each_on P Q on xs each.1)

-- ---- what stands above is so, line by line

record Arrows (ls : List (List ℕ)) (a : Above) : Type 0 where
  parts-stand : Each (Stands ls) a.parts
  tasks-fitted : Each (Fitted ls) a.tasks

part-stands : (ls : List (List ℕ)) (l : List ℕ) (p : Part) → line_of l ≡ Some (Line.Part p) → Stands (ls ++ (l ∷ [])) p
part-stands ls l p says =
    let s = says-part l p says in
    record {
      above = ls;
      below = [];
      line = l;
      name = s.name;
      numbers = s.numbers;
      order = refl;
      reads = s.reads;
      good = s.named;
      named = ap (λ (k : Part). k.name) s.part;
      timed = ap (λ (k : Part). k.times) s.part;
    }

-- the part that a fit line names has its very bytes
task-fitted : (ls : List (List ℕ)) (l : List ℕ) (parts : List Part) (t n : Name) → line_of l ≡ Some (Line.Fit t n) → Found (Stands ls) n parts
    → Fitted (ls ++ (l ∷ [])) (task_of t (part_named n parts))
task-fitted ls l parts t n says f =
    let s = says-fit l t n says in
    let p = f.holds in
    let same : name_of s.name ≡ name_of p.name = sym s.part-is ∙ f.same ∙ p.named in
    let bytes : s.name ≡ p.name = name-exact s.name p.name s.named p.good same in
    record {
      above = p.above;
      between = p.below;
      below = [];
      part-line = p.line;
      fit-line = l;
      part-name = p.name;
      part-numbers = p.numbers;
      task-name = s.task;
      order = ap (λ (k : List (List ℕ)). k ++ (l ∷ [])) p.order ∙ append_assoc p.above (p.line ∷ p.below) (l ∷ []);
      part-reads = p.reads;
      fit-reads = s.reads ∙ rw bytes;
      named = s.task-is;
      timed = ap (λ (k : Part). k.times) f.is ∙ p.timed;
    }

arrows-step : (ls : List (List ℕ)) (a : Above) (l : List ℕ) → Arrows ls a → line_fault a (line_of l) ≡ 0 → Arrows (ls ++ (l ∷ [])) (after a (line_of l))
unfolding after
arrows-step ls a l so_far none = by_form (line_of l) refl none
  where
    parts : Each (Stands (ls ++ (l ∷ []))) a.parts
    parts = each_on (Stands ls) (Stands (ls ++ (l ∷ []))) (stands_on ls l) a.parts so_far.parts-stand

    tasks : Each (Fitted (ls ++ (l ∷ []))) a.tasks
    tasks = each_on (Fitted ls) (Fitted (ls ++ (l ∷ []))) (fitted-on ls l) a.tasks so_far.tasks-fitted

    by_form : (o : Option Line) → line_of l ≡ o → line_fault a o ≡ 0 → Arrows (ls ++ (l ∷ [])) (after a o)
    by_form (Some (Line.Machine m)) says good = record { parts-stand = parts; tasks-fitted = tasks }
    by_form (Some (Line.Cost c)) says good = record { parts-stand = parts; tasks-fitted = tasks }
    by_form (Some (Line.Part p)) says good = record {
      parts-stand = each_snoc (Stands (ls ++ (l ∷ []))) a.parts p parts (part-stands ls l p says);
      tasks-fitted = tasks;
    }
    by_form (Some (Line.Fit t n)) says good =
        let one = task-fitted ls l a.parts t n says (found (Stands ls) 1 n a.parts so_far.parts-stand (line-fit a t n good).known) in
        record {
          parts-stand = parts;
          tasks-fitted = each_snoc (Fitted (ls ++ (l ∷ []))) a.tasks (task_of t (part_named n a.parts)) tasks one;
        }
    by_form None says good = record { parts-stand = parts; tasks-fitted = tasks }

-- ---- the whole sheet

tasks-of : (bytes : List ℕ) (b : Above) → outcome_of bytes ≡ whole b → Each (Fitted (lines_of bytes)) b.tasks
tasks-of bytes b e = (read_keeps Arrows (record { parts-stand = tt; tasks-fitted = tt }) arrows-step bytes b e).0.tasks-fitted

pub first-arrow : (bytes : List ℕ) → (read_of bytes).number ≡ 0 → Each (Fitted (lines_of bytes)) (list_of (read_of bytes).sheet.tasks)
first-arrow bytes none =
    let w = read_whole bytes none in
    rw (read-tasks bytes w.0 w.1) (tasks-of bytes w.0 w.1)
