-- The stage that good lines come to, by the number of the line below them: so the order of lines can be told without it.
-- Assumes nothing.
--
--   Staged a n        a stands above line n, and the lines there are good
--   breaks-at         line 1 is the one at the top, line 2 the one below `machine`
--   breaks-early      lines below `cost` are those from line 3 on
--   comes-among       among the parts, the stage's rule is two rules: not before line 3, and not where a task stands above
--   staged-top, staged-step     at the top, and after one more good line
use mathlib.Core.Path.{◌≡◌, refl}
use mathlib.Core.Bool.{Bool, true, false}
use mathlib.Core.List.{List, [], ◌∷◌, ◌++◌}
use Prim.Native.Nat.{ℕ, ◌+◌, ◌≤◌, ◌<◌}
use native.Mathlib.Decide.{dec_lt}
use native.Mathlib.Omega.{arith}
use borrow.Author.Tests.{eqb-true, eqb-false}
use lib.Dec.{leb, eqb}
use Rattle.std.proofs.Common.{Option, Some, None}
use Rattle.demand.specs.Tables.{Rule, ◌if◌carrying◌, Not}
use Rattle.demand.proofs.TableLaws.{Comes, here, next as go_on, Breaks, breaks-leb, breaks-eqb}
use Rattle.task.specs.Tasks.{task_of, rule}
use Rattle.lines.specs.declared.Line.{Line}
use Rattle.sheet.specs.Sheet.{Above, at_top, below_machine, among_parts, among_fits, top, line_fault, part_named, after}
use Rattle.sheet.proofs.FaultLaws.{line-machine, line-cost, line-part, line-fit, line-none}
use Rattle.sheet.proofs.EndLaws.{cons-some}

pub record Staged (a : Above) (n : ℕ) : Type 0 where
  pub early : a.stage < among_parts → n ≡ a.stage + 1
  pub late : among_parts ≤ a.stage → 3 ≤ n
  pub unfitted : a.stage < among_fits → a.tasks ≡ []
  pub fitted : among_fits ≤ a.stage → Not (a.tasks ≡ [])

breaks-same : {P Q : Type 0} {t : Bool} → (P → Q) → (Q → P) → Breaks P t → Breaks Q t
breaks-same there back b = record { breaks = λ e. there (b.breaks e); fails = λ q. b.fails (back q) }

module _ (a : Above) (n : ℕ) (s : Staged a n) where
  -- line 1 is at the top, and line 2 below `machine`
  stage-line : (k : ℕ) → k < among_parts → a.stage ≡ k → n ≡ k + 1
  stage-line k low is = let e : n ≡ a.stage + 1 = s.early (omega arith) in omega arith

  line-stage : (k : ℕ) → k < among_parts → n ≡ k + 1 → a.stage ≡ k
  line-stage k low is =
      elim (dec_lt a.stage among_parts) [
        | yes few ↦ omega (arith, s.early few)
        | no many ↦ absurd (omega (arith, s.late (omega arith)))
      ]

  pub breaks-at : (k : ℕ) → k < among_parts → Breaks (Not (n ≡ k + 1)) (eqb a.stage k)
  breaks-at k low = breaks-same (λ never is. never (line-stage k low is)) (λ never is. never (stage-line k low is)) (breaks-eqb a.stage k)

  stage-early : a.stage < among_parts → n < 3
  stage-early few = omega (arith, s.early few)

  line-early : n < 3 → a.stage < among_parts
  line-early few = elim (dec_lt a.stage among_parts) [ yes low ↦ low | no high ↦ absurd (omega (arith, s.late (omega arith))) ]

  pub breaks-early : Breaks (n < 3) (leb among_parts a.stage)
  breaks-early = breaks-same stage-early line-early (breaks-leb among_parts a.stage)

  -- among the parts: not before the third line, and not where a task stands above
  pub comes-among : {rules : List Rule} {rest : ℕ} → Comes rules rest n
      → Comes (8 if (n < 3) carrying n ∷ 8 if Not (a.tasks ≡ []) carrying n ∷ rules) (rule (eqb a.stage among_parts) 8 rest) n
  comes-among {rules} {rest} more = by (eqb a.stage among_parts) refl
    where
      by : (t : Bool) → eqb a.stage among_parts ≡ t
          → Comes (8 if (n < 3) carrying n ∷ 8 if Not (a.tasks ≡ []) carrying n ∷ rules) (rule t 8 rest) n
      by true is =
          let at = eqb-true a.stage among_parts is in
          let enough : Not (n < 3) = λ few. omega (arith, line-early few) in
          let free : Not (Not (a.tasks ≡ [])) = λ some. some (s.unfitted (omega arith)) in
          go_on enough (go_on free more)
      by false other =
          elim (dec_lt a.stage among_parts) [
            | yes few ↦ here (stage-early few) refl refl
            | no many ↦
                let enough : Not (n < 3) = λ few. omega (arith, line-early few) in
                go_on enough (here (s.fitted (omega (arith, eqb-false a.stage among_parts other))) refl refl)
          ]

-- ---- the lines from the top

pub staged-top : Staged top 1
staged-top = record { early = λ few. refl; late = λ many. absurd (omega arith); unfitted = λ few. refl; fitted = λ many. absurd (omega arith) }

snoc-some : {A : Type 0} (xs : List A) (x : A) → Not (xs ++ (x ∷ []) ≡ [])
snoc-some [] x e = cons-some x [] e
snoc-some (y ∷ xs) x e = cons-some y (xs ++ (x ∷ [])) e

pub staged-step : (a : Above) (n : ℕ) (l : Option Line) → Staged a n → line_fault a l ≡ 0 → Staged (after a l) (n + 1)
unfolding after
staged-step a n (Some (Line.Machine m)) s good =
    let kept = line-machine a m good in
    let at = stage-line a n s at_top (omega arith) kept.0 in
    record {
      early = λ few. omega arith;
      late = λ many. absurd (omega arith);
      unfitted = λ few. s.unfitted (omega (arith, kept.0));
      fitted = λ many. absurd (omega arith);
    }
staged-step a n (Some (Line.Cost c)) s good =
    let kept = line-cost a c good in
    let at = stage-line a n s below_machine (omega arith) kept.0 in
    record {
      early = λ few. absurd (omega arith);
      late = λ many. omega arith;
      unfitted = λ few. s.unfitted (omega (arith, kept.0));
      fitted = λ many. absurd (omega arith);
    }
staged-step a n (Some (Line.Part p)) s good =
    let at = (line-part a p good).order in
    record {
      early = λ few. absurd (omega arith);
      late = λ many. omega (arith, s.late (omega arith));
      unfitted = λ few. s.unfitted (omega arith);
      fitted = λ many. absurd (omega arith);
    }
staged-step a n (Some (Line.Fit t p)) s good =
    let at = (line-fit a t p good).order in
    record {
      early = λ few. absurd (omega arith);
      late = λ many. omega (arith, s.late at);
      unfitted = λ few. absurd (omega arith);
      fitted = λ many. snoc-some a.tasks (task_of t (part_named p a.parts));
    }
staged-step a n None s good = absurd (line-none a good)
