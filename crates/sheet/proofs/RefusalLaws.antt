-- A sheet is refused exactly as its table says: at its first bad line, and at no other. And a sheet that is read is what its lines say.
-- Assumes nothing.
--
--   said_of a              what stands above, without its stage
--   line-comes            a line's fault is what its table says
--   lines-come            the lines from the top come to what theirs says
--   read-comes            and so does the whole sheet
--   read-refused, read_kept     so a refusal comes exactly where the table gives it, and the sheet is read exactly where the table is kept
--   first-bad             for up to 16,384 bytes the lines alone decide
--   read-said, read-array       a sheet that is read is what its lines say, and so is the array of its tasks
use mathlib.Core.Path.{◌≡◌, refl, sym, ap, subst, ◌∙◌}
use mathlib.Core.Logic.{inl, inr, ◌↔◌}
use mathlib.Core.Bool.{Bool, true, false, cond, not}
use mathlib.Core.List.{List, [], ◌∷◌, ◌++◌, append_assoc, map, drop_last, get_last_d}
use Prim.Native.Nat.{ℕ, zero, suc, ◌+◌, ◌≤◌, ◌<◌}
use native.Mathlib.Omega.{arith}
use lib.Dec.{leb, ltb, eqb}
use Rattle.std.proofs.Common.{Option, Some, None}
use lib.ListN.{length}
use Rattle.demand.specs.Sizes.{sized, sized_costs}
use Rattle.demand.specs.Tables.{Rule, ◌if◌carrying◌, Not, Gives, Kept, down_each, below}
use Rattle.demand.proofs.RefusalLaws.{sized-breaks, costs-break}
use Rattle.demand.proofs.TableLaws.{Comes, none, here, next as go_on, comes-kept, comes-refused, comes-front, comes-behind}
use Rattle.demand.proofs.TableLaws.{breaks-kept, breaks-negated, breaks-leb, breaks-ltb}
use Rattle.task.specs.declared.Part.{Part}
use Rattle.task.specs.declared.Task.{Task}
use Rattle.task.specs.Tasks.{tasks_most, whole_piece, tasks_of, list_of, sized_machine}
use Rattle.task.proofs.RefusalLaws.{comes-rule, place-breaks, machine-breaks}
use Rattle.lines.specs.declared.Line.{Line}
use Rattle.lines.specs.Lines.{newline, up_to, beyond}
use Rattle.lines.specs.Forms.{line_of}
use Rattle.lines.specs.Says.{says_of}
use Rattle.lines.proofs.MeansLaws.{said, says-line}
use Rattle.sheet.specs.Sheet.{Above, at_top, below_machine, among_parts, top, task_free, part_free, machine_fault, cost_fault, part_fault}
use Rattle.sheet.specs.Sheet.{fit_fault, line_fault, after, Outcome, refused, whole, ending, next, read_from}
use Rattle.sheet.specs.Sheet.{sheet_most, outcome_of, shown, read_of}
use Rattle.sheet.specs.Fitted.{lines_of}
use Rattle.sheet.specs.Refusals.{Said, unsaid, line_table, line_below, said_by, lines_table, read_table}
use Rattle.sheet.proofs.WholeLaws.{read_keeps, read_whole, read-shown, read-tasks}
use Rattle.sheet.proofs.EndLaws.{tail_of, cons-some, tail-ends}
use Rattle.sheet.proofs.StageLaws.{Staged, breaks-at, breaks-early, comes-among, staged-top, staged-step}

-- ---- one line

abbrev pub said_of : Above → Said
said_of a = record { machine = a.machine; costs = a.costs; parts = a.parts; tasks = a.tasks }

form-comes : (a : Above) (n : ℕ) (l : Option Line) → Staged a n → Comes (line_table (said_of a) n (said l)) (line_fault a l) n
unfolding line_fault machine_fault cost_fault part_fault fit_fault
form-comes a n (Some (Line.Machine m)) s =
    comes-rule (eqb a.stage at_top) (breaks-at a n s at_top (omega arith)) 7
    (comes-rule (sized_machine m) (machine-breaks m) 0
    none)
form-comes a n (Some (Line.Cost c)) s =
    comes-rule (eqb a.stage below_machine) (breaks-at a n s below_machine (omega arith)) 7
    (comes-rule (sized_costs c) (costs-break c) 1
    none)
form-comes a n (Some (Line.Part p)) s =
    comes-among a n s
    (comes-rule (sized (whole_piece p.times)) (sized-breaks (whole_piece p.times)) 2
    (comes-rule (part_free p.name a.parts) (place-breaks (λ (q : Part). q.name) p.name a.parts) 3
    (comes-rule (ltb (length a.parts) tasks_most) (breaks-ltb (length a.parts) tasks_most) 5
    none)))
form-comes a n (Some (Line.Fit t p)) s =
    let free = part_free p a.parts in
    comes-rule (leb among_parts a.stage) (breaks-early a n s) 7
    (comes-rule (task_free t a.tasks) (place-breaks (λ (u : Task). u.name) t a.tasks) 3
    (comes-rule (not free) (breaks-negated free (place-breaks (λ (q : Part). q.name) p a.parts)) 4
    (comes-rule (ltb (length a.tasks) tasks_most) (breaks-ltb (length a.tasks) tasks_most) 5
    none)))
form-comes a n None s = let fine : Not ⊥ = λ never. never in here fine refl refl

line-comes : (a : Above) (n : ℕ) (l : List ℕ) → Staged a n → Comes (line_table (said_of a) n (says_of l)) (line_fault a (line_of l)) n
line-comes a n l s = rw (says-line l) (form-comes a n (line_of l) s)

-- what it leaves
form-below : (a : Above) (l : Option Line) → said_of (after a l) ≡ line_below (said_of a) (said l)
unfolding after
form-below a (Some (Line.Machine m)) = refl
form-below a (Some (Line.Cost c)) = refl
form-below a (Some (Line.Part p)) = refl
form-below a (Some (Line.Fit t p)) = refl
form-below a None = refl

line-below : (a : Above) (l : List ℕ) → said_of (after a (line_of l)) ≡ line_below (said_of a) (says_of l)
line-below a l = rw (says-line l) (form-below a (line_of l))

-- ---- the lines from the top

-- what an outcome says of a refusal
abbrev number_in : Outcome → ℕ
number_in (refused k n) = k
number_in (whole a) = 0

abbrev line_in : Outcome → ℕ
line_in (refused k n) = n
line_in (whole a) = 0

-- the rules `end` of where no line is left, which would be line k; there the tail stands
module _ (k : ℕ) (tail : List ℕ) (end : List Rule)
    (end-comes : (a : Above) → Staged a k → Comes end (number_in (ending a k tail)) (line_in (ending a k tail))) where
  lines-come : (a : Above) (n : ℕ) (l : List ℕ) (ls : List (List ℕ)) → Staged a n → k ≡ n + length (drop_last (l ∷ ls)) → get_last_d (l ∷ ls) [] ≡ tail
      → Comes (down_each line_table line_below (said_of a) n (map says_of (drop_last (l ∷ ls))) ++ end) (number_in (read_from a n l ls)) (line_in (read_from a n l ls))
  unfolding read_from get_last_d
  lines-come a n l [] s last is =
      let at : n ≡ k = omega arith in
      rw (is, at) (end-comes a (subst (Staged a) at s))
  lines-come a n l (m ∷ ls) s last is =
      subst (λ (rules : List Rule). Comes rules (number_in read) (line_in read)) (sym (append_assoc (line_table (said_of a) n (says_of l)) more end))
      (by (line_fault a (line_of l)) refl (line-comes a n l s)
      (λ good. lines-come (after a (line_of l)) (n + 1) m ls (staged-step a n (line_of l) s good) (omega arith) is))
    where
      rest : Outcome
      rest = read_from (after a (line_of l)) (n + 1) m ls

      read : Outcome
      read = next (line_fault a (line_of l)) n rest

      more : List Rule
      more = down_each line_table line_below (line_below (said_of a) (says_of l)) (n + 1) (map says_of (drop_last (m ∷ ls)))

      by : (j : ℕ) → line_fault a (line_of l) ≡ j → Comes (line_table (said_of a) n (says_of l)) j n
          → (line_fault a (line_of l) ≡ 0
          → Comes (down_each line_table line_below (said_of (after a (line_of l))) (n + 1) (map says_of (drop_last (m ∷ ls))) ++ end) (number_in rest) (line_in rest))
          → Comes (line_table (said_of a) n (says_of l) ++ (more ++ end)) (number_in (next j n rest)) (line_in (next j n rest))
      by zero is comes on =
          comes-behind (line_table (said_of a) n (says_of l)) ((comes-kept comes).0 refl)
          (subst (λ (b : Said). Comes (down_each line_table line_below b (n + 1) (map says_of (drop_last (m ∷ ls))) ++ end) (number_in rest) (line_in rest))
          (line-below a l) (on is))
      by (suc j) is comes on = comes-front comes (more ++ end)

-- ---- the sheet

-- a line that was cut, then a missing one
abbrev end_rules : List ℕ → List Rule
end_rules bytes =
    8 if Not (get_last_d bytes newline ≡ newline) carrying (1 + length (lines_of bytes))
    ∷ 8 if (length (lines_of bytes) < 2) carrying (1 + length (lines_of bytes))
    ∷ []

end-comes : (bytes : List ℕ) (a : Above) → Staged a (1 + length (lines_of bytes))
    → Comes (end_rules bytes) (number_in (ending a (1 + length (lines_of bytes)) (tail_of bytes))) (line_in (ending a (1 + length (lines_of bytes)) (tail_of bytes)))
end-comes bytes a s = by (tail_of bytes) refl
  where
    n : ℕ
    n = 1 + length (lines_of bytes)

    by-stage : (t : Bool) → leb among_parts a.stage ≡ t
        → Comes (8 if (length (lines_of bytes) < 2) carrying n ∷ []) (number_in (cond t (whole a) (refused 8 n))) (line_in (cond t (whole a) (refused 8 n)))
    by-stage true late =
        let enough : Not (length (lines_of bytes) < 2) = λ few. breaks-kept (breaks-early a n s) late (omega arith) in
        go_on enough none
    by-stage false early =
        let few : length (lines_of bytes) < 2 = omega (arith, (breaks-early a n s).breaks early) in
        here few refl refl

    by : (tail : List ℕ) → tail_of bytes ≡ tail → Comes (end_rules bytes) (number_in (ending a n tail)) (line_in (ending a n tail))
    by [] is =
        let ended : Not (Not (get_last_d bytes newline ≡ newline)) = λ cut. cut ((tail-ends bytes).0 is) in
        go_on ended (by-stage (leb among_parts a.stage) refl)
    by (b ∷ tail) is =
        let cut : Not (get_last_d bytes newline ≡ newline) = λ ends. cons-some b tail (sym is ∙ (tail-ends bytes).1 ends) in
        here cut refl refl

pub read-comes : (bytes : List ℕ) → Comes (read_table bytes) (read_of bytes).number (read_of bytes).carries
unfolding read_table lines_table lines_of tail_of read_of outcome_of
read-comes bytes = by (leb (length bytes) sheet_most) refl
  where
    read : Outcome
    read = read_from top 1 (up_to newline bytes) (beyond newline bytes)

    lines : List Rule
    lines = down_each line_table line_below unsaid 1 (map says_of (lines_of bytes)) ++ end_rules bytes

    as-shown : (o : Outcome) → Comes lines (number_in o) (line_in o) → Comes lines (shown o).number (shown o).carries
    as-shown (refused k n) comes = comes
    as-shown (whole a) comes = comes

    come : Comes lines (number_in read) (line_in read)
    come =
        lines-come (1 + length (lines_of bytes)) (tail_of bytes) (end_rules bytes) (end-comes bytes)
        top 1 (up_to newline bytes) (beyond newline bytes) staged-top refl refl

    by : (b : Bool) → leb (length bytes) sheet_most ≡ b
        → Comes (9 if (sheet_most < length bytes) carrying 0 ∷ lines) (shown (cond b read (refused 9 0))).number (shown (cond b read (refused 9 0))).carries
    by true fits = go_on (breaks-kept (breaks-leb (length bytes) sheet_most) fits) (as-shown read come)
    by false long = here ((breaks-leb (length bytes) sheet_most).breaks long) refl refl

pub read-refused : (bytes : List ℕ) (n k : ℕ) → (((read_of bytes).number ≡ suc n) × ((read_of bytes).carries ≡ k)) ↔ Gives (read_table bytes) (suc n) k
read-refused bytes = comes-refused (read-comes bytes)

pub read_kept : (bytes : List ℕ) → ((read_of bytes).number ≡ 0) ↔ Kept (read_table bytes)
read_kept bytes = comes-kept (read-comes bytes)

pub first-bad : (bytes : List ℕ) → length bytes ≤ sheet_most → (n k : ℕ)
    → (((read_of bytes).number ≡ suc n) × ((read_of bytes).carries ≡ k)) ↔ Gives (lines_table bytes) (suc n) k
unfolding read_table
first-bad bytes few n k = ((λ is. by ((read-refused bytes n k).0 is)), (λ gives. (read-refused bytes n k).1 (inr ((λ long. omega arith), gives))))
  where
    by : Gives (read_table bytes) (suc n) k → Gives (lines_table bytes) (suc n) k
    by (inl long) = absurd (omega (arith, long.0))
    by (inr gives) = gives.1

-- ---- the sheet that is read

below-snoc : (ls : List (List ℕ)) (a : Said) (l : List ℕ)
    → below line_below a (map says_of (ls ++ (l ∷ []))) ≡ line_below (below line_below a (map says_of ls)) (says_of l)
below-snoc [] a l = refl
below-snoc (m ∷ ls) a l = below-snoc ls (line_below a (says_of m)) l

whole-said : (bytes : List ℕ) (b : Above) → outcome_of bytes ≡ whole b → said_of b ≡ said_by bytes
unfolding said_by
whole-said bytes b e =
    (read_keeps (λ (ls : List (List ℕ)) (a : Above). said_of a ≡ below line_below unsaid (map says_of ls)) refl
    (λ ls a l so_far good. line-below a l ∙ (ap (λ (c : Said). line_below c (says_of l)) so_far ∙ sym (below-snoc ls unsaid l))) bytes b e).0

pub read-said : (bytes : List ℕ) → (read_of bytes).number ≡ 0
    → ((read_of bytes).sheet.machine ≡ (said_by bytes).machine)
    × ((read_of bytes).sheet.costs ≡ (said_by bytes).costs)
    × (list_of (read_of bytes).sheet.tasks ≡ (said_by bytes).tasks)
read-said bytes fine =
    let w = read_whole bytes fine in
    rw (read-tasks bytes w.0 w.1, read-shown bytes w.0 w.1, ← whole-said bytes w.0 w.1) (refl, refl, refl)

-- the same tasks as the array that holds them
pub read-array : (bytes : List ℕ) → (read_of bytes).number ≡ 0 → (read_of bytes).sheet.tasks ≡ tasks_of (said_by bytes).tasks
read-array bytes fine =
    let w = read_whole bytes fine in
    rw (read-shown bytes w.0 w.1, ← whole-said bytes w.0 w.1)
