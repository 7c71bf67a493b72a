-- What the verdict on the pieces of a core says: the theorems that document 01 asks for.
-- Assumes nothing.
--
--   verdict-exact         each verdict comes exactly where its meaning holds, whatever the pieces are
--   overloaded-live       "overloaded": the length it carries is live, and asks for more than itself
--   passes-busy           "passes": there are no pieces, or the busy length is within the limit
--   passes-all            "passes": no live length, however long, asks for more than itself
--   passes-means          "passes" comes exactly where both hold, over records within the sizes
use mathlib.Core.Path.{◌≡◌, refl, subst}
use mathlib.Core.List.{List, [], ◌∷◌}
use mathlib.Core.Logic.{◌↔◌, ⊎_elim, inl, inr}
use Prim.Native.Nat.{ℕ, ◌<◌}
use Rattle.demand.specs.declared.Piece.{Piece}
use Rattle.demand.specs.declared.Costs.{Costs}
use Rattle.demand.specs.declared.Charged.{Charged}
use Rattle.demand.specs.declared.Verdict.{Verdict}
use Rattle.demand.specs.declared.Verdict.TheVariants.{Passes, Overloaded}
use Rattle.demand.specs.Sizes.{Sized, Each}
use Rattle.demand.specs.Charge.{core_of, stall}
use Rattle.demand.specs.Demand.{demand, Live, least_live}
use Rattle.demand.specs.Verdict.{Means, Bounded, KeepsUp, verdict_of}
use Rattle.demand.proofs.ChargeLaws.{core-recurs, all-countable}
use Rattle.demand.proofs.DemandLaws.{live-mono, least-live-least}
use Rattle.demand.proofs.VerdictLaws.{verdict-means, verdict-unique, passes-forever}

-- what keeps up at every live length is calm over the judged span
passing : (b : ℕ) (qs : List Charged) → Bounded qs → KeepsUp b qs → Means b qs Passes
passing b [] bounded up = inl refl
passing b (q ∷ qs) (inl none) up = inl none
passing b (q ∷ qs) (inr (l, busy, within)) up =
    let start = least-live-least q qs in
    inr (
      least_live (q ∷ qs),
      l,
      record { start = start; busy = busy; within = within },
      λ u from below. up u (live-mono (q ∷ qs) from start.here),
    )

module _ (c : Costs) (ps : List Piece) where
  pub verdict-exact : (v : Verdict) → (verdict_of c ps ≡ v) ↔ Means (stall c) (core_of c ps) v
  unfolding verdict_of
  verdict-exact v = (
    (λ e. subst (λ (w : Verdict). Means (stall c) (core_of c ps) w) e (verdict-means (stall c) (core_of c ps))),
    λ h. verdict-unique (stall c) (core_of c ps) (verdict_of c ps) v (verdict-means (stall c) (core_of c ps)) h,
  )

  pub overloaded-live : (t : ℕ) → verdict_of c ps ≡ Overloaded t → Live (core_of c ps) t × (t < demand (stall c) (core_of c ps) t)
  overloaded-live t e =
      let span = (verdict-exact (Overloaded t)).0 e in
      (live-mono (core_of c ps) span.3.from span.2.start.here, span.3.over)

  pub passes-busy : verdict_of c ps ≡ Passes → Bounded (core_of c ps)
  passes-busy e = ⊎_elim (λ none. inl none) (λ span. inr (span.1, span.2.busy, span.2.within)) ((verdict-exact Passes).0 e)

  -- over records within the sizes every piece recurs, so the busy length bounds what a longer length adds
  module _ (sizes : Each Sized ps) where
    pub passes-all : verdict_of c ps ≡ Passes → KeepsUp (stall c) (core_of c ps)
    passes-all e t live = passes-forever (stall c) (core_of c ps) (core-recurs c ps (all-countable ps sizes)) ((verdict-exact Passes).0 e) t live

    pub passes-means : (verdict_of c ps ≡ Passes) ↔ (Bounded (core_of c ps) × KeepsUp (stall c) (core_of c ps))
    passes-means = ((λ e. (passes-busy e, passes-all e)), λ h. (verdict-exact Passes).1 (passing (stall c) (core_of c ps) h.0 h.1))
