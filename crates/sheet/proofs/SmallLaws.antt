-- How great the numbers of a sheet's refusal are: what they need to be told in one number.
-- Assumes nothing.
--
--   read_small           a refusal has a number up to 9, and carries a line up to 16,385
--   read-nine            9 comes exactly for more than 16,384 bytes, and carries nothing
use mathlib.Core.Path.{◌≡◌, sym, ap, subst}
use mathlib.Core.Logic.{◌↔◌}
use mathlib.Core.Bool.{Bool, true, false, cond, not}
use mathlib.Core.List.{List, [], ◌∷◌}
use Prim.Native.Nat.{ℕ, zero, suc, ◌+◌, ◌≤◌, ◌<◌}
use native.Mathlib.Decide.{dec_lt}
use native.Mathlib.Omega.{arith}
use borrow.Author.Tests.{le-leb, lt-leb}
use lib.Dec.{leb, eqb}
use Rattle.std.proofs.Common.{Option, Some, None}
use lib.ListN.{length}
use Rattle.demand.specs.declared.Costs.{Costs}
use Rattle.demand.specs.Sizes.{sized, sized_costs}
use Rattle.task.specs.declared.Name.{Name}
use Rattle.task.specs.declared.Part.{Part}
use Rattle.task.specs.declared.Task.{Task}
use Rattle.task.specs.declared.Machine.{Machine}
use Rattle.task.specs.Tasks.{rule, sized_machine, whole_piece}
use Rattle.lines.specs.declared.Line.{Line}
use Rattle.lines.specs.Lines.{newline, up_to, beyond}
use Rattle.lines.specs.Forms.{line_of}
use Rattle.sheet.specs.Sheet.{Above, at_top, below_machine, among_parts, top, task_free, part_free, room, machine_fault}
use Rattle.sheet.specs.Sheet.{cost_fault, part_fault, fit_fault, line_fault, after, Outcome, refused, whole}
use Rattle.sheet.specs.Sheet.{ending, next, read_from, sheet_most, outcome_of, shown, read_of}
use Rattle.sheet.proofs.ReadLaws.{beyond-few}

-- ---- one line

rule-small : (b : Bool) (n rest : ℕ) → n ≤ 8 → rest ≤ 8 → rule b n rest ≤ 8
rule-small true n rest here below = below
rule-small false n rest here below = here

machine-small : (stage : ℕ) (m : Machine) → machine_fault stage m ≤ 8
unfolding machine_fault
machine-small stage m = rule-small (eqb stage at_top) 8 (rule (sized_machine m) 1 0) (omega arith) (rule-small (sized_machine m) 1 0 (omega arith) (omega arith))

cost-small : (stage : ℕ) (c : Costs) → cost_fault stage c ≤ 8
unfolding cost_fault
cost-small stage c = rule-small (eqb stage below_machine) 8 (rule (sized_costs c) 2 0) (omega arith) (rule-small (sized_costs c) 2 0 (omega arith) (omega arith))

part_small : (stage : ℕ) (p : Part) (parts : List Part) → part_fault stage p parts ≤ 8
unfolding part_fault
part_small stage p parts =
    let fits : Bool = sized (whole_piece p.times) in
    let last : rule (room parts) 6 0 ≤ 8 = rule-small (room parts) 6 0 (omega arith) (omega arith) in
    let new : rule (part_free p.name parts) 4 (rule (room parts) 6 0) ≤ 8 =
    rule-small (part_free p.name parts) 4 (rule (room parts) 6 0) (omega arith) last in
    rule-small (eqb stage among_parts) 8 (rule fits 3 (rule (part_free p.name parts) 4 (rule (room parts) 6 0)))
    (omega arith) (rule-small fits 3 (rule (part_free p.name parts) 4 (rule (room parts) 6 0)) (omega arith) new)

fit_small : (stage : ℕ) (n p : Name) (parts : List Part) (tasks : List Task) → fit_fault stage n p parts tasks ≤ 8
unfolding fit_fault
fit_small stage n p parts tasks =
    let known : Bool = not (part_free p parts) in
    let last : rule (room tasks) 6 0 ≤ 8 = rule-small (room tasks) 6 0 (omega arith) (omega arith) in
    let five : rule known 5 (rule (room tasks) 6 0) ≤ 8 = rule-small known 5 (rule (room tasks) 6 0) (omega arith) last in
    rule-small (leb among_parts stage) 8 (rule (task_free n tasks) 4 (rule known 5 (rule (room tasks) 6 0)))
    (omega arith) (rule-small (task_free n tasks) 4 (rule known 5 (rule (room tasks) 6 0)) (omega arith) five)

line_small : (a : Above) (l : Option Line) → line_fault a l ≤ 8
unfolding line_fault
line_small a (Some (Line.Machine m)) = machine-small a.stage m
line_small a (Some (Line.Cost c)) = cost-small a.stage c
line_small a (Some (Line.Part p)) = part_small a.stage p a.parts
line_small a (Some (Line.Fit n p)) = fit_small a.stage n p a.parts a.tasks
line_small a None = omega arith

-- ---- all lines

-- a refusal by its number and its line
abbrev Small : ℕ → Outcome → Type 0
Small most (refused n k) = (n ≤ 8) × (k ≤ most)
Small most (whole a) = Unit {0}

next_small : (most k n : ℕ) (rest : Outcome) → k ≤ 8 → n ≤ most → Small most rest → Small most (next k n rest)
next_small most zero n rest few low small = small
next_small most (suc k) n rest few low small = (omega arith, low)

ending-small : (most : ℕ) (a : Above) (n : ℕ) (l : List ℕ) → n ≤ most → Small most (ending a n l)
ending-small most a n (b ∷ l) low = (omega arith, low)
ending-small most a n [] low = by (leb among_parts a.stage)
  where
    by : (b : Bool) → Small most (cond b (whole a) (refused 8 n))
    by true = tt
    by false = (omega arith, low)

from-small : (most : ℕ) (a : Above) (n : ℕ) (l : List ℕ) (ls : List (List ℕ)) → n + length ls ≤ most → Small most (read_from a n l ls)
unfolding read_from
from-small most a n l [] low = ending-small most a n l (omega arith)
from-small most a n l (m ∷ ls) low =
    next_small most (line_fault a (line_of l)) n (read_from (after a (line_of l)) (n + 1) m ls)
    (line_small a (line_of l)) (omega arith) (from-small most (after a (line_of l)) (n + 1) m ls (omega arith))

long-sheet : (bytes : List ℕ) → sheet_most < length bytes → outcome_of bytes ≡ refused 9 0
unfolding outcome_of
long-sheet bytes long =
    ap (λ (b : Bool). cond b (read_from top 1 (up_to newline bytes) (beyond newline bytes)) (refused 9 0)) (lt-leb (length bytes) sheet_most long)

short-sheet : (bytes : List ℕ) → length bytes ≤ sheet_most → Small 16385 (outcome_of bytes)
unfolding outcome_of
short-sheet bytes short =
    subst (λ (b : Bool). Small 16385 (cond b (read_from top 1 (up_to newline bytes) (beyond newline bytes)) (refused 9 0)))
    (sym (le-leb (length bytes) sheet_most short))
    (from-small 16385 top 1 (up_to newline bytes) (beyond newline bytes) (omega (arith, beyond-few newline bytes)))

shown-small : (o : Outcome) → Small 16385 o → ((shown o).number ≤ 8) × ((shown o).carries ≤ 16385)
shown-small (refused n k) small = small
shown-small (whole a) small = (omega arith, omega arith)

pub read-nine : (bytes : List ℕ) → (sheet_most < length bytes) ↔ ((read_of bytes).number ≡ 9)
unfolding read_of
read-nine bytes = (
  (λ long. ap (λ (o : Outcome). (shown o).number) (long-sheet bytes long)),
  (λ nine. elim (dec_lt sheet_most (length bytes)) [
    | yes long ↦ long
    | no short ↦ absurd (omega (arith, (shown-small (outcome_of bytes) (short-sheet bytes (omega arith))).0))
  ]),
)

pub read_small : (bytes : List ℕ) → ((read_of bytes).number ≤ 9) × ((read_of bytes).carries ≤ 16385)
unfolding read_of
read_small bytes = elim (dec_lt sheet_most (length bytes)) [
  | yes long ↦ rw (long-sheet bytes long) (omega arith, omega arith)
  | no short ↦ (let small = shown-small (outcome_of bytes) (short-sheet bytes (omega arith)) in (omega (arith, small.0), small.1))
]
