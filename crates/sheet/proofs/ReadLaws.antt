-- Laws of reading a sheet from the top, line by line.
-- Assumes nothing.
--
--   Fits a                      what stands above has at most 64 parts and 64 tasks
--   after-fits                  so it has below a good line
--   Reading bytes d l ls n      the lines above line n are good, the draft d holds what they say, and the runs l and ls are left
--   reading-top, -bad, -on      at the first line; a bad line; below a good one
--   reading-cut, -missing, -whole, read-long     where no line is left; over 16,384 bytes
--   refused-at, read-fine       a refusal with its line, and a line that is not refused
use mathlib.Core.Path.{◌≡◌, refl, sym, ap, ◌∙◌}
use mathlib.Core.Bool.{Bool, true, false, cond}
use mathlib.Core.List.{List, [], ◌∷◌}
use Prim.Native.Nat.{ℕ, zero, suc, ◌+◌, ◌≤◌, ◌<◌}
use native.Mathlib.Omega.{arith}
use borrow.Author.Tests.{le-leb, lt-leb}
use lib.Dec.{eqb}
use lib.ListN.{length, length-append}
use Rattle.std.proofs.Common.{Option, Some, None, Result, Ok, Err}
use Rattle.std.specs.Result.{MatchResult, IsErrAnd}
use Rattle.task.specs.declared.faults.Fault.{Fault}
use Rattle.task.specs.declared.faults.Refused.{Refused}
use Rattle.task.specs.Tasks.{tasks_most}
use Rattle.lines.specs.declared.Line.{Line}
use Rattle.lines.specs.Lines.{newline, up_to, beyond}
use Rattle.lines.specs.Forms.{line_of}
use Rattle.sheet.specs.declared.drafts.Draft.{Draft}
use Rattle.sheet.specs.Sheet.{Above, top, among_parts, line_fault, after, Outcome, refused}
use Rattle.sheet.specs.Sheet.{ending, next, read_from, sheet_most, outcome_of, shown, read_of}
use Rattle.sheet.specs.Ways.ReaderHolds.{stage_number, Carries}
use Rattle.sheet.proofs.FaultLaws.{line-part, line-fit}

-- ---- a good line leaves room for what it adds

pub record Fits (a : Above) : Type 0 where
  pub parts-fit : length a.parts ≤ tasks_most
  pub tasks-fit : length a.tasks ≤ tasks_most

pub after-fits : (a : Above) (l : Option Line) → line_fault a l ≡ 0 → Fits a → Fits (after a l)
unfolding after
after-fits a (Some (Line.Machine m)) none fits = record { parts-fit = fits.parts-fit; tasks-fit = fits.tasks-fit }
after-fits a (Some (Line.Cost c)) none fits = record { parts-fit = fits.parts-fit; tasks-fit = fits.tasks-fit }
after-fits a (Some (Line.Part p)) none fits =
    record { parts-fit = rw length-append (omega (arith, (line-part a p none).space)); tasks-fit = fits.tasks-fit }
after-fits a (Some (Line.Fit n p)) none fits =
    record { parts-fit = fits.parts-fit; tasks-fit = rw length-append (omega (arith, (line-fit a n p none).space)) }
after-fits a None none fits = fits

-- ---- the lines

pub read-long : (bytes : List ℕ) → sheet_most < length bytes → shown (refused 9 0) ≡ read_of bytes
unfolding read_of outcome_of
read-long bytes long = rw (lt-leb (length bytes) sheet_most long)

next-bad : (k n : ℕ) (others : Outcome) → (k ≡ 0 → ⊥) → next k n others ≡ refused k n
next-bad zero n others bad = absurd (bad refl)
next-bad (suc k) n others bad = refl

pub beyond-few : (b : ℕ) (s : List ℕ) → length (beyond b s) ≤ length s
unfolding beyond
beyond-few b [] = omega arith
beyond-few b (x ∷ s) = by (eqb x b) (beyond-few b s)
  where
    by : (t : Bool) → length (beyond b s) ≤ length s → length (cond t (up_to b s ∷ beyond b s) (beyond b s)) ≤ suc (length s)
    by true h = omega arith
    by false h = omega arith

pub record Reading (bytes : List ℕ) (d : Draft) (l : List ℕ) (ls : List (List ℕ)) (n : ℕ) : Type 0 where
  pub above : Above
  pub held : Carries above d
  pub near : n + length ls ≤ sheet_most + 1
  pub so_far : outcome_of bytes ≡ read_from above n l ls

pub reading-top : (bytes : List ℕ) (d : Draft) (l : List ℕ) (ls : List (List ℕ)) → length bytes ≤ sheet_most → Carries top d
    → l ≡ up_to newline bytes → beyond newline bytes ≡ ls → Reading bytes d l ls 1
unfolding outcome_of
reading-top bytes d l ls short held first others =
    record {
      above = top;
      held = held;
      near = rw (← others) (omega (arith, beyond-few newline bytes));
      so_far = rw (le-leb (length bytes) sheet_most short, first, others);
    }

nothing : (l : List ℕ) → length l ≡ 0 → l ≡ []
nothing [] none = refl
nothing (b ∷ l) none = absurd (omega arith)

module _ (bytes : List ℕ) (d : Draft) (l : List ℕ) (ks : List (List ℕ)) (n : ℕ) (r : Reading bytes d l ks n) where
  -- one line, with others behind it
  module _ (m : List ℕ) (ls : List (List ℕ)) (more : ks ≡ m ∷ ls) where
    one_line : outcome_of bytes ≡ next (line_fault r.above (line_of l)) n (read_from (after r.above (line_of l)) (n + 1) m ls)
    unfolding read_from
    one_line = r.so_far ∙ rw more

    pub reading-bad : (fault : ℕ) → fault ≡ line_fault r.above (line_of l) → (fault ≡ 0 → ⊥) → shown (refused fault n) ≡ read_of bytes
    unfolding read_of
    reading-bad fault judged bad = rw (one_line, ← judged) (ap shown (sym (next-bad fault n _ bad)))

    pub reading-on : (e : Draft) → 0 ≡ line_fault r.above (line_of l) → Carries (after r.above (line_of l)) e → Reading bytes e m ls (n + 1)
    reading-on e none held =
        let fewer : length ks ≡ suc (length ls) = ap length more in
        record { above = after r.above (line_of l); held = held; near = omega (arith, r.near); so_far = one_line ∙ rw (← none) }

  -- no line is left
  module _ (last : ks ≡ []) where
    at-end : outcome_of bytes ≡ ending r.above n l
    unfolding read_from
    at-end = r.so_far ∙ rw last

    -- a line without its newline
    pub reading-cut : (l ≡ [] → ⊥) → shown (refused 8 n) ≡ read_of bytes
    unfolding read_of
    reading-cut some = rw at-end (some_left l some)
      where
        some_left : (l : List ℕ) → (l ≡ [] → ⊥) → shown (refused 8 n) ≡ shown (ending r.above n l)
        some_left [] some = absurd (some refl)
        some_left (b ∷ l) some = refl

    module _ (none : length l ≡ 0) where
      ends : outcome_of bytes ≡ ending r.above n []
      ends = at-end ∙ ap (ending r.above n) (nothing l none)

      pub reading-missing : stage_number d.stage < among_parts → shown (refused 8 n) ≡ read_of bytes
      unfolding read_of
      reading-missing early = rw (ends, lt-leb among_parts r.above.stage (omega (arith, r.held.stage_is)))

      pub reading-whole : among_parts ≤ stage_number d.stage
          → record { number = 0; carries = 0; sheet = record { machine = d.machine; costs = d.costs; tasks = record { count = d.tasks.count; list = d.tasks.list } } } ≡ read_of bytes
      unfolding read_of
      reading-whole late = rw (ends, le-leb among_parts r.above.stage (omega (arith, r.held.stage_is)), r.held.machine_is, r.held.costs_are, r.held.tasks_are)

-- ---- a refusal with its line, as `map_err` gives it

abbrev pub At : Result (Unit {0}) Fault → Result (Unit {0}) Refused → ℕ → Type 0
At r m n = MatchResult r (λ x. m ≡ Ok x) (λ e. IsErrAnd m (λ x. x ≡ record { fault = e; carries = n }))

pub refused-at : (r : Result (Unit {0}) Fault) (m : Result (Unit {0}) Refused) (n : ℕ) → At r m n → (x : Refused) → m ≡ Err x
    → (r ≡ Err x.fault) × (x.carries ≡ n)
refused-at (Ok done) m n h x e = absurd (let z : ◌≡◌ {A = ℕ} 0 1 = cc in omega arith)
refused-at (Err f) (Ok done) n h x e = absurd (let z : ◌≡◌ {A = ℕ} 0 1 = cc in omega arith)
refused-at (Err f) (Err y) n h x e = let same : y ≡ x = cc in (rw (← same, h), rw (← same, h))

pub read-fine : (r : Result (Unit {0}) Fault) (m : Result (Unit {0}) Refused) (n : ℕ) → At r m n → (x : Unit {0}) → m ≡ Ok x → r ≡ Ok x
read-fine (Ok done) m n h x e = refl
read-fine (Err f) (Ok done) n h x e = absurd h
read-fine (Err f) (Err y) n h x e = absurd (let z : ◌≡◌ {A = ℕ} 0 1 = cc in omega arith)
