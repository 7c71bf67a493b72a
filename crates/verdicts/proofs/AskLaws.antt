-- Laws of what a charged piece is shown to ask for.
-- Assumes nothing.
--
--   ask-held                      where no number is past its bound it is `ask`
--   ask-long, ask-unranged        and nothing elsewhere
--   shown-near, shown-taken       what is shown is at a length that can be judged
use mathlib.Core.Path.{◌≡◌, refl, sym, ap, subst, ◌∙◌}
use mathlib.Core.Bool.{Bool, true, false}
use mathlib.Core.List.{List, [], ◌∷◌}
use Prim.Native.Nat.{ℕ, ◌+◌, ◌≤◌, ◌<◌}
use native.Mathlib.Omega.{arith}
use lib.ListN.{length, take}
use borrow.Author.Tests.{le-leb, lt-leb}
use Rattle.demand.specs.declared.Piece.{Piece}
use Rattle.demand.specs.declared.Costs.{Costs}
use Rattle.demand.specs.declared.Charged.{Charged}
use Rattle.demand.specs.declared.Verdict.{Verdict}
use Rattle.demand.specs.declared.Verdict.TheVariants.{Passes, Overloaded, Undecided}
use Rattle.demand.specs.Sizes.{Tells, Each, length_most}
use Rattle.demand.specs.Answer.{Taken}
use Rattle.demand.specs.Charge.{core_of, stall}
use Rattle.demand.specs.Verdict.{Judged, Means, verdict}
use Rattle.demand.specs.Why.{ask, core_shown, shown_of}
use Rattle.demand.proofs.ChargeLaws.{core-ranged}
use Rattle.demand.proofs.RunLaws.{taken-countable}
use Rattle.demand.proofs.VerdictLaws.{verdict-means}
use Rattle.demand.proofs.WhyLaws.{least-live-is, shown-empty, shown-passes, shown-overloaded, shown-undecided}
use Rattle.verdicts.proofs.LaidLaws.{least-live-fits}
use Rattle.demand.specs.Ways.Ranges.{Ranged}
use Rattle.demand.proofs.SizeLaws.{ranged-is}
use Rattle.verdicts.specs.Asks.{no_ask, ask_within}

module _ (v : Verdict) (t : ℕ) (q : Charged) where
  pub ask-held : Ranged q → t ≤ length_most → ask_within v t q ≡ ask v t q
  unfolding ask_within
  ask-held ok h = rw (le-leb t length_most h, sym (ranged-is q true ok))

  pub ask-long : length_most < t → no_ask ≡ ask_within v t q
  unfolding ask_within
  ask-long h = rw (lt-leb t length_most h)

  pub ask-unranged : (b : Bool) → Tells (Ranged q) b → b ≡ false → t ≤ length_most → no_ask ≡ ask_within v t q
  unfolding ask_within
  ask-unranged b tells e h = rw (le-leb t length_most h, sym (ranged-is q b tells) ∙ e)

-- ---- what is shown is at a length that can be judged

pub shown-near : (b : ℕ) (qs : List Charged) → Each Ranged qs → (core_shown b qs).length ≤ length_most
shown-near b [] ok = rw (shown-empty b) (omega arith)
shown-near b (q ∷ qs) ok = by (verdict b (q ∷ qs)) refl
  where
    within : (t₀ l t : ℕ) → Judged (q ∷ qs) t₀ l → t < t₀ + l → t ≤ length_most
    within t₀ l t span below = omega (arith, least-live-is (q ∷ qs) t₀ span.start, least-live-fits (q ∷ qs) ok, span.within)

    by : (v : Verdict) → verdict b (q ∷ qs) ≡ v → (core_shown b (q ∷ qs)).length ≤ length_most
    by Passes e =
        let so = shown-passes b (q ∷ qs) e (λ none. absurd (omega (arith, ap length none))) in
        rw so.7 (within so.1 so.2 so.0 so.3 so.4.below)
    by (Overloaded t) e =
        let so = subst (λ (w : Verdict). Means b (q ∷ qs) w) e (verdict-means b (q ∷ qs)) in
        rw (shown-overloaded b (q ∷ qs) t e).0 (within so.0 so.1 t so.2 so.3.below)
    by Undecided e = rw (shown-undecided b (q ∷ qs) e).0 (omega arith)

pub shown-taken : (c : Costs) (n : ℕ) (ps : List Piece) → Taken c n ps → (shown_of c (take n ps)).length ≤ length_most
unfolding shown_of
shown-taken c n ps ok = shown-near (stall c) (core_of c (take n ps)) (core-ranged c ok.costs (take n ps) (taken-countable c n ps ok))
