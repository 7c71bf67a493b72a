-- Laws of a line's fault: what holds of a line that has none.
-- Assumes nothing.
--
--   part-kept, fit-kept                     every rule of a good `part` line, and of a `fit` line, holds
--   line-machine, -cost, -part, -fit, -none the same of any line
--   part-inside, part-there                 a part that is found by its name stands at its place, within an array of parts
use mathlib.Core.Path.{◌≡◌, refl, ◌∙◌}
use mathlib.Core.Bool.{Bool, true, false, cond, not}
use mathlib.Core.List.{List, [], ◌∷◌}
use Prim.Native.Nat.{ℕ, suc, ◌+◌, ◌-◌, ◌≤◌, ◌<◌}
use native.Mathlib.Omega.{arith}
use borrow.Author.Tests.{eqb-true, eqb-false, ltb-true, leb-true, not-true}
use lib.Dec.{leb, eqb}
use lib.ListN.{length, take, get_or, length-take}
use lib.Seq.{get_or-take}
use Rattle.std.proofs.Common.{Some, None}
use Rattle.demand.specs.declared.Costs.{Costs}
use Rattle.demand.specs.Sizes.{sized, sized_costs}
use Rattle.task.specs.declared.Name.{Name}
use Rattle.task.specs.declared.Part.{Part}
use Rattle.task.specs.declared.Task.{Task}
use Rattle.task.specs.declared.Machine.{Machine}
use Rattle.task.specs.Names.{same_name}
use Rattle.task.specs.Tasks.{tasks_most, sized_machine, whole_piece, place_of, part_place, rule}
use Rattle.task.proofs.TaskLaws.{rule-fine}
use Rattle.lines.specs.declared.Line.{Line}
use Rattle.sheet.specs.Sheet.{Above, part_named, at_top, below_machine, among_parts, room, machine_fault, cost_fault, part_fault}
use Rattle.sheet.specs.Sheet.{fit_fault, line_fault, task_free, part_free}

-- ---- good lines

machine-kept : (stage : ℕ) (m : Machine) → machine_fault stage m ≡ 0 → (stage ≡ at_top) × (sized_machine m ≡ true)
unfolding machine_fault
machine-kept stage m none =
    let order = rule-fine (eqb stage at_top) 7 (rule (sized_machine m) 1 0) none in
    (eqb-true stage at_top order.0, (rule-fine (sized_machine m) 0 0 order.1).0)

cost-kept : (stage : ℕ) (c : Costs) → cost_fault stage c ≡ 0 → (stage ≡ below_machine) × (sized_costs c ≡ true)
unfolding cost_fault
cost-kept stage c none =
    let order = rule-fine (eqb stage below_machine) 7 (rule (sized_costs c) 2 0) none in
    (eqb-true stage below_machine order.0, (rule-fine (sized_costs c) 1 0 order.1).0)

pub record PartKept (stage : ℕ) (p : Part) (parts : List Part) : Type 0 where
  pub order : stage ≡ among_parts
  pub fits : sized (whole_piece p.times) ≡ true
  pub new : part_place 1 p.name parts ≡ 0
  pub space : length parts < tasks_most

pub part-kept : (stage : ℕ) (p : Part) (parts : List Part) → part_fault stage p parts ≡ 0 → PartKept stage p parts
unfolding part_fault
part-kept stage p parts none =
    let order = rule-fine (eqb stage among_parts) 7 (rule (sized (whole_piece p.times)) 3 (rule (part_free p.name parts) 4 (rule (room parts) 6 0))) none in
    let fits = rule-fine (sized (whole_piece p.times)) 2 (rule (part_free p.name parts) 4 (rule (room parts) 6 0)) order.1 in
    let new = rule-fine (part_free p.name parts) 3 (rule (room parts) 6 0) fits.1 in
    let space = rule-fine (room parts) 5 0 new.1 in
    record {
      order = eqb-true stage among_parts order.0;
      fits = fits.0;
      new = eqb-true (part_place 1 p.name parts) 0 new.0;
      space = ltb-true (length parts) tasks_most space.0;
    }

pub record FitKept (stage : ℕ) (n p : Name) (parts : List Part) (tasks : List Task) : Type 0 where
  pub order : among_parts ≤ stage
  pub new : place_of 1 n tasks ≡ 0
  pub known : part_place 1 p parts ≡ 0 → ⊥
  pub space : length tasks < tasks_most

pub fit-kept : (stage : ℕ) (n p : Name) (parts : List Part) (tasks : List Task) → fit_fault stage n p parts tasks ≡ 0 → FitKept stage n p parts tasks
unfolding fit_fault
fit-kept stage n p parts tasks none =
    let order = rule-fine (leb among_parts stage) 7 (rule (task_free n tasks) 4 (rule (not (part_free p parts)) 5 (rule (room tasks) 6 0))) none in
    let new = rule-fine (task_free n tasks) 3 (rule (not (part_free p parts)) 5 (rule (room tasks) 6 0)) order.1 in
    let known = rule-fine (not (part_free p parts)) 4 (rule (room tasks) 6 0) new.1 in
    let space = rule-fine (room tasks) 5 0 known.1 in
    record {
      order = leb-true among_parts stage order.0;
      new = eqb-true (place_of 1 n tasks) 0 new.0;
      known = eqb-false (part_place 1 p parts) 0 (not-true (part_free p parts) known.0);
      space = ltb-true (length tasks) tasks_most space.0;
    }

-- the same of a line
module _ (a : Above) where
  pub line-machine : (m : Machine) → line_fault a (Some (Line.Machine m)) ≡ 0 → (a.stage ≡ at_top) × (sized_machine m ≡ true)
  unfolding line_fault
  line-machine m none = machine-kept a.stage m none

  pub line-cost : (c : Costs) → line_fault a (Some (Line.Cost c)) ≡ 0 → (a.stage ≡ below_machine) × (sized_costs c ≡ true)
  unfolding line_fault
  line-cost c none = cost-kept a.stage c none

  pub line-part : (p : Part) → line_fault a (Some (Line.Part p)) ≡ 0 → PartKept a.stage p a.parts
  unfolding line_fault
  line-part p none = part-kept a.stage p a.parts none

  pub line-fit : (n p : Name) → line_fault a (Some (Line.Fit n p)) ≡ 0 → FitKept a.stage n p a.parts a.tasks
  unfolding line_fault
  line-fit n p none = fit-kept a.stage n p a.parts a.tasks none

  pub line-none : line_fault a None ≡ 0 → ⊥
  unfolding line_fault
  line-none none = omega arith

-- ---- the part of a name

-- its place, counted from k
record At (k : ℕ) (n : Name) (ps : List Part) (place : ℕ) : Type 0 where
  low : k ≤ place
  high : place < k + length ps
  part : (d : Part) → part_named n ps ≡ get_or ps (place - k) d

part-some : (k : ℕ) (n : Name) (ps : List Part) → 1 ≤ k → (part_place k n ps ≡ 0 → ⊥) → At k n ps (part_place k n ps)
part-some k n [] pos some = absurd (some refl)
part-some k n (p ∷ ps) pos some = by-test (same_name n p.name) refl (λ h. part-some (k + 1) n ps (omega arith) h) some
  where
    by-test : (b : Bool) → same_name n p.name ≡ b → ((part_place (k + 1) n ps ≡ 0 → ⊥) → At (k + 1) n ps (part_place (k + 1) n ps))
        → (cond b k (part_place (k + 1) n ps) ≡ 0 → ⊥) → At k n (p ∷ ps) (cond b k (part_place (k + 1) n ps))
    by-test true e h s =
        record { low = omega arith; high = omega arith; part = λ d. (let here : k - k ≡ 0 = omega arith in rw (here, e)) }
    by-test false e h s =
        let r = h s in
        record {
          low = omega (arith, r.low);
          high = omega (arith, r.high);
          part = λ d. (let on : part_place (k + 1) n ps - k ≡ suc (part_place (k + 1) n ps - (k + 1)) = omega (arith, r.low) in rw (on, e) (r.part d));
        }

-- the same in an array
module _ (n : Name) (count : ℕ) (list : List Part) (long : length list ≡ tasks_most) (k : ℕ) (place : k ≡ part_place 1 n (take count list)) where
  module _ (some : k ≡ 0 → ⊥) where
    found : At 1 n (take count list) k
    found = rw place (part-some 1 n (take count list) (omega arith) (λ none. some (place ∙ none)))

    pub part-inside : k - 1 < tasks_most
    part-inside = omega (arith, found.low, found.high, length-take count list)

    pub part-there : (d : Part) → part_named n (take count list) ≡ get_or list (k - 1) d
    part-there d =
        let low : k - 1 < count = omega (arith, found.low, found.high, length-take count list) in
        found.part d ∙ get_or-take count list (k - 1) d low
