-- What an answer says of a run, in both directions; and how much it carries: a length or a place, and each is small.
-- Assumes nothing.
--
--   answer-judged         a run is judged exactly where it breaks no rule, with the verdict on its pieces
--   answer-passes, answer-overloaded, answer-undecided     each verdict comes exactly where no rule is broken and its meaning holds
--   split-best            and so does a split, of a run and a task
--   start-within          the judged span starts at 1,000,000 at the most
--   overloaded-within     an overloaded length is below the busy length limit and a window
--   first-bad-within      a bad record's place is among the records' places
--   answer-carries        so no answer carries more than the longest length
use Rattle.std.specs.Prelude.{Err, Ok, Option, Result, ⊤}
use mathlib.Core.Path.{◌≡◌, refl, sym, ap, ◌∙◌}
use mathlib.Core.Bool.{Bool, true, false, cond}
use mathlib.Core.List.{List, [], ◌∷◌, ◌++◌}
use mathlib.Core.Logic.{◌⊎◌, ◌↔◌}
use Prim.Native.Nat.{ℕ, zero, suc, ◌+◌, ◌≤◌}
use native.Mathlib.Omega.{arith}
use borrow.Author.Tests.{leb-true}
use lib.Dec.{leb}
use lib.ListN.{length, take, length-take}
use Rattle.demand.specs.declared.Piece.{Piece}
use Rattle.demand.specs.declared.Costs.{Costs}
use Rattle.demand.specs.declared.Charged.{Charged}
use Rattle.demand.specs.declared.Verdict.{Verdict}
use Rattle.demand.specs.declared.Verdict.TheVariants.{Passes, Overloaded, Undecided}
use Rattle.demand.specs.declared.Refusal.{Refusal}
use Rattle.demand.specs.declared.Refusal.TheVariants.{TooMany, BadCosts, BadRecord}
use Rattle.demand.specs.Sizes.{time_most, run_most, length_most, Sized, Each, sized, sized_costs}
use Rattle.demand.specs.Charge.{charged, core_of, stall}
use Rattle.demand.specs.Demand.{Live}
use Rattle.demand.specs.Busy.{Least}
use Rattle.demand.specs.Verdict.{Means, Bounded, KeepsUp, verdict_of}
use Rattle.demand.specs.Answer.{Taken, first_bad, bad_record, check_run, answer_of, splitted, split_of, told}
use Rattle.demand.specs.Split.{Splits, greatest_split}
use Rattle.demand.proofs.DemandLaws.{jobs-due-some}
use Rattle.demand.proofs.BusyLaws.{least-le}
use Rattle.demand.proofs.RunLaws.{check-taken, taken-check, taken-answer, answer-fine, answer-bad, split-fine, split-bad}
use Rattle.demand.proofs.SplitLaws.{split-exact}
use Rattle.demand.proofs.Judgement.{verdict-exact, passes-means}
use Rattle.demand.specs.declared.Cut.{Cut}

-- ---- in both directions

module _ (c : Costs) (n : ℕ) (ps : List Piece) where
  pub answer-judged : (v : Verdict) → (answer_of c n ps ≡ Ok v) ↔ (Taken c n ps × (verdict_of c (take n ps) ≡ v))
  answer-judged v = ((λ is. by is (check_run c n ps) refl), λ h. taken-answer c n ps h.0 ∙ ap (λ (w : Verdict). Ok w) h.1)
    where
      by : answer_of c n ps ≡ Ok v → (k : Result ⊤ Refusal) → check_run c n ps ≡ k → Taken c n ps × (verdict_of c (take n ps) ≡ v)
      by is (Ok tt) e = (
        check-taken c n ps e,
        (let h : Ok (verdict_of c (take n ps)) ≡ Ok v = sym (answer-fine c n ps e) ∙ is in cc),
      )
      by is (Err r) e = let h : Err r ≡ Ok v = sym (answer-bad c n ps r e) ∙ is in let z : ◌≡◌ {A = ℕ} 0 1 = cc in absurd (omega arith)

  -- a verdict by its meaning
  meaning : (v : Verdict) (M : Type 0) → (Each Sized (take n ps) → (verdict_of c (take n ps) ≡ v) ↔ M) → (answer_of c n ps ≡ Ok v) ↔ (Taken c n ps × M)
  meaning v M means = (
    (λ is. (let h = (answer-judged v).0 is in (h.0, (means h.0.each).0 h.1))),
    λ h. (answer-judged v).1 (h.0, (means h.0.each).1 h.1),
  )

  pub answer-passes : (answer_of c n ps ≡ Ok Passes) ↔ (Taken c n ps × Bounded (core_of c (take n ps)) × KeepsUp (stall c) (core_of c (take n ps)))
  answer-passes =
      let h = meaning Passes (Bounded (core_of c (take n ps)) × KeepsUp (stall c) (core_of c (take n ps))) (λ sizes. passes-means c (take n ps) sizes) in
      ((λ is. (let k = h.0 is in (k.0, k.1.0, k.1.1))), λ k. h.1 (k.0, (k.1, k.2)))

  pub answer-overloaded : (t : ℕ) → (answer_of c n ps ≡ Ok (Overloaded t)) ↔ (Taken c n ps × Means (stall c) (core_of c (take n ps)) (Overloaded t))
  answer-overloaded t = meaning (Overloaded t) (Means (stall c) (core_of c (take n ps)) (Overloaded t)) (λ sizes. verdict-exact c (take n ps) (Overloaded t))

  pub answer-undecided : (answer_of c n ps ≡ Ok Undecided) ↔ (Taken c n ps × Means (stall c) (core_of c (take n ps)) Undecided)
  answer-undecided = meaning Undecided (Means (stall c) (core_of c (take n ps)) Undecided) (λ sizes. verdict-exact c (take n ps) Undecided)

-- ---- a split

module _ (c : Costs) (n : ℕ) (ps : List Piece) (p : Piece) (g : ℕ) where
  -- the run with the task behind it
  all : List Piece
  all = take n ps ++ (p ∷ [])

  pub split-best : (s : Option Cut) → (split_of c n ps p g ≡ Ok s) ↔ (Taken c (n + 1) (take n ps ++ (p ∷ [])) × Splits c g (take n ps) p s)
  unfolding split_of all
  split-best s = (
    (λ is. by is (check_run c (n + 1) all) refl),
    λ h. ap (λ (k : Result ⊤ Refusal). splitted k (greatest_split c g (take n ps) p)) (taken-check c (n + 1) all h.0)
        ∙ ap (λ (z : Option Cut). Ok z) ((split-exact c g (take n ps) p s).1 h.1),
  )
    where
      by : split_of c n ps p g ≡ Ok s → (k : Result ⊤ Refusal) → check_run c (n + 1) all ≡ k → Taken c (n + 1) all × Splits c g (take n ps) p s
      by is (Ok tt) e =
          let h : Ok (greatest_split c g (take n ps) p) ≡ Ok s = split-fine (check_run c (n + 1) all) (greatest_split c g (take n ps) p) e ∙ is in
          (check-taken c (n + 1) all e, (split-exact c g (take n ps) p s).0 (cc))
      by is (Err r) e =
          let h : Err r ≡ Ok s = split-bad (check_run c (n + 1) all) (greatest_split c g (take n ps) p) r e ∙ is in
          let z : ◌≡◌ {A = ℕ} 0 1 = cc in absurd (omega arith)

-- ---- an overloaded length

-- the first piece has a job due where its window ends
first_live : (q : Charged) (qs : List Charged) → Live (q ∷ qs) q.window
unfolding Live
first_live q qs = ◌⊎◌.inl (omega (arith, jobs-due-some q q.window (omega arith)))

none-starts : (t : ℕ) → Live [] t → ⊥
unfolding Live
none-starts t live = live

pub start-within : (c : Costs) (ps : List Piece) → Each Sized ps → (t₀ : ℕ) → Least (Live (core_of c ps)) t₀ → t₀ ≤ time_most
unfolding core_of charged
start-within c [] sizes t₀ start = absurd (none-starts t₀ start.here)
start-within c (p ∷ ps) sizes t₀ start =
    omega (arith, least-le start p.window (first_live (charged c p) (core_of c ps)), sizes.0.window-fits, sizes.0.period-fits)

pub overloaded-within : (c : Costs) (ps : List Piece) → Each Sized ps → (t : ℕ) → verdict_of c ps ≡ Overloaded t → t ≤ length_most
overloaded-within c ps sizes t e =
    let span = (verdict-exact c ps (Overloaded t)).0 e in
    omega (arith, start-within c ps sizes span.0 span.2.start, span.2.within, span.3.below)

-- ---- a record's place

pub first-bad-within : (k : ℕ) (ps : List Piece) → first_bad k ps ≤ k + length ps
first-bad-within k [] = omega arith
first-bad-within k (p ∷ ps) = look (sized p) (first-bad-within (k + 1) ps)
  where
    look : (b : Bool) → first_bad (k + 1) ps ≤ k + 1 + length ps → cond b (first_bad (k + 1) ps) k ≤ k + length (p ∷ ps)
    look true more = omega arith
    look false more = omega arith

bad-record-is : (k m : ℕ) → bad_record m ≡ Err (BadRecord k) → k ≡ m
bad-record-is k zero e = let z : ◌≡◌ {A = ℕ} 0 1 = cc in absurd (omega arith)
bad-record-is k (suc m) e = cc

bad-within : (c : Costs) (n : ℕ) (ps : List Piece) (k : ℕ) → check_run c n ps ≡ Err (BadRecord k) → k ≤ length_most
unfolding check_run
bad-within c n ps k e = few (leb n run_most) refl e
  where
    place : n ≤ run_most → bad_record (first_bad 1 (take n ps)) ≡ Err (BadRecord k) → k ≤ length_most
    place h f = omega (arith, bad-record-is k (first_bad 1 (take n ps)) f, first-bad-within 1 (take n ps), length-take n ps)

    fine : (b : Bool) → n ≤ run_most → cond b (bad_record (first_bad 1 (take n ps))) (Err BadCosts) ≡ Err (BadRecord k) → k ≤ length_most
    fine true h f = place h f
    fine false h f = let z : ◌≡◌ {A = ℕ} 0 1 = cc in absurd (omega arith)

    few : (b : Bool) → leb n run_most ≡ b → cond b (cond (sized_costs c) (bad_record (first_bad 1 (take n ps))) (Err BadCosts)) (Err TooMany)
        ≡ Err (BadRecord k) → k ≤ length_most
    few true h f = fine (sized_costs c) (leb-true n run_most h) f
    few false h f = let z : ◌≡◌ {A = ℕ} 0 1 = cc in absurd (omega arith)

-- ---- an answer

pub answer-carries : (c : Costs) (n : ℕ) (ps : List Piece) → (told (answer_of c n ps)).carries ≤ length_most
answer-carries c n ps = look (check_run c n ps) refl
  where
    when : (a : Result Verdict Refusal) → answer_of c n ps ≡ a → (told a).carries ≤ length_most → (told (answer_of c n ps)).carries ≤ length_most
    when a e fits = rw e fits

    judged : Each Sized (take n ps) → (v : Verdict) → verdict_of c (take n ps) ≡ v → (told (Ok v)).carries ≤ length_most
    judged sizes Passes e = omega arith
    judged sizes (Overloaded t) e = overloaded-within c (take n ps) sizes t e
    judged sizes Undecided e = omega arith

    refused : (r : Refusal) → check_run c n ps ≡ Err r → (told (Err r)).carries ≤ length_most
    refused TooMany e = omega arith
    refused BadCosts e = omega arith
    refused (BadRecord k) e = bad-within c n ps k e

    look : (k : Result ⊤ Refusal) → check_run c n ps ≡ k → (told (answer_of c n ps)).carries ≤ length_most
    look (Ok tt) e = when (Ok (verdict_of c (take n ps))) (answer-fine c n ps e) (judged (check-taken c n ps e).each (verdict_of c (take n ps)) refl)
    look (Err r) e = when (Err r) (answer-bad c n ps r e) (refused r e)
