-- Laws of the split search: sums as the code has them, and what one candidate told.
-- Assumes nothing.
--
--   calls-with, least-is      sums as the code has them
--   judged-last               a verdict on the last piece as the code has it
--   step-skips, step-done     what one candidate told
--   none-start                no candidate above the start is allowed
use mathlib.Core.Path.{◌≡◌, refl, ◌∙◌, subst}
use mathlib.Core.List.{List}
use Prim.Native.Nat.{ℕ, ◌+◌, ◌*◌, ◌/◌, ◌≤◌}
use native.Mathlib.Decide.{dec_lt}
use native.Mathlib.Omega.{arith}
use Rattle.demand.specs.declared.Piece.{Piece}
use Rattle.demand.specs.declared.Costs.{Costs}
use Rattle.demand.specs.declared.Charged.{Charged}
use Rattle.verdicts.specs.declared.Sum.TheVariants.{Interrupts}
use Rattle.demand.specs.declared.Verdict.{Verdict}
use Rattle.demand.specs.declared.Verdict.TheVariants.{Passes}
use Rattle.splits.specs.declared.split_search.Step.TheVariants.{Done, Below}
use Rattle.demand.specs.Charge.{charge, charged, stall}
use Rattle.demand.specs.Demand.{total, interrupts}
use Rattle.demand.specs.Busy.{tight_sum}
use Rattle.demand.specs.Verdict.{verdict}
use Rattle.demand.specs.Split.{first_piece}
use Rattle.splits.specs.Ways.SplitSearch.{Steps, Skips, Starts}
use Rattle.demand.specs.Ways.ChargedSplit.{with_first, last_alone, tight_beside, Tight, Fits, NoneAbove}
use Rattle.verdicts.specs.Laid.{term}
use Rattle.demand.proofs.ChargedSplitLaws.{calls, rounded, first-interrupts}
use Rattle.demand.proofs.Sums.{total-snoc}

-- ---- sums

pub calls-with : (c : Costs) (qs : List Charged) (p : Piece) (x w : ℕ) (rs : List Charged) → rs ≡ with_first c qs p x w → (t : ℕ)
    → total (term Interrupts t) rs ≡ calls c qs p t
unfolding with_first calls
calls-with c qs p x w rs laid t = rw laid (omega (arith, first-interrupts c p x w t, total-snoc (λ q. interrupts q t) qs (charged c (first_piece p x w))))

-- as the code sums it, for a first piece without a budget
pub least-is : (c : Costs) (qs : List Charged) (p : Piece) (b k i : ℕ) → b ≡ stall c → k ≡ (charged c (first_piece p 0 0)).charge
    → i ≡ total (term Interrupts 1) (with_first c qs p 0 0) → b + k + i ≡ tight_beside c qs p 0 1
unfolding tight_beside tight_sum
least-is c qs p b k i stalled charge calls = omega arith

-- ---- the last piece alone

-- a verdict on it as the code has it
pub judged-last : (c : Costs) (p : Piece) (x w b : ℕ) (rs : List Charged) → b ≡ stall c → rs ≡ last_alone c p x w → (v : Verdict)
    → v ≡ verdict b rs → v ≡ verdict (stall c) (last_alone c p x w)
judged-last c p x w b rs is row v judged = judged ∙ rw (is, row) refl

-- ---- what one candidate told

module _ (c : Costs) (qs : List Charged) (p : Piece) (x : ℕ) (some : 1 ≤ x) where
  pub step-skips : (r : ℕ) → ((u : ℕ) → Fits c qs p x u → ⊥) → Skips c qs p r x → Steps c qs p x (Below r)
  step-skips r none skips = (
    skips.0,
    λ z u low high fits. elim (dec_lt z x) [
      | yes less ↦ skips.1 z u low less fits
      | no same ↦ (let e : z ≡ x = omega arith in none u (subst (λ (y : ℕ). Fits c qs p y u) e fits))
    ],
  )

  pub step-done : (t w : ℕ) → Tight c qs p x t → p.jitter + t + 1 ≤ p.window → w ≡ p.jitter + t
      → verdict (stall c) (with_first c qs p x w) ≡ Passes → verdict (stall c) (last_alone c p x w) ≡ Passes → Steps c qs p x (Done w)
  step-done t w tight room at here there = (t, record { tight = tight; room = room; here = rw at at here; there = rw at at there }, at)

-- ---- the multiples of the grain

module _ (g : ℕ) (p : Piece) (pos : 1 ≤ g) where
  pub none-start : (c : Costs) (qs : List Charged) (r : ℕ) → Starts c qs p r → NoneAbove c g qs p (r / g * g)
  none-start c qs r starts z u high k fits = elim (dec_lt r z) [
    | yes above ↦ starts.1 z u above k.less fits
    | no below ↦ omega (arith, rounded g p pos r z k (omega arith))
  ]
