-- Laws of a verdict on lent bytes, by the number that is given back: each comes exactly where the bytes break no rule and its meaning holds.
-- Assumes nothing.
--
--   run-passes, run-overloaded, run-undecided, run-split     of a run of records, where its table is kept
--   reply-judged          the reply is a verdict exactly where the form is whole and the answer for the records is that verdict
--   verdict-passes, verdict-overloaded, verdict-undecided
use Rattle.std.specs.Prelude.{Ok, Option, Result}
use mathlib.Core.Path.{◌≡◌, refl, sym, ◌∙◌, subst}
use mathlib.Core.Bool.{Bool, true, false}
use mathlib.Core.Logic.{◌↔◌}
use mathlib.Core.List.{List, [], ◌∷◌, ◌++◌}
use Prim.Native.Nat.{ℕ, ◌+◌, ◌*◌, ◌%◌, ◌^◌, ◌<◌}
use native.Mathlib.Omega.{arith}
use borrow.Author.Tests.{eqb-true, eqb-false}
use lib.Dec.{eqb}
use lib.ListN.{length, take}
use lib.Seq.{take-length}
use Rattle.demand.specs.declared.Piece.{Piece}
use Rattle.demand.specs.declared.Costs.{Costs}
use Rattle.demand.specs.declared.Verdict.{Verdict}
use Rattle.demand.specs.declared.Verdict.TheVariants.{Passes, Overloaded, Undecided}
use Rattle.demand.specs.Charge.{core_of, stall}
use Rattle.demand.specs.Verdict.{Means, Bounded, KeepsUp, verdict_of}
use Rattle.demand.specs.Split.{Splits}
use Rattle.demand.specs.Answer.{Taken, told, answer_of, split_of}
use Rattle.demand.specs.Tables.{Kept}
use Rattle.demand.specs.Refusals.{record_table}
use Rattle.demand.proofs.RunLaws.{taken-answer}
use Rattle.demand.proofs.RefusalLaws.{record-judged}
use Rattle.demand.proofs.AnswerLaws.{answer-judged, answer-passes, answer-overloaded, answer-undecided, split-best}
use Rattle.spardimple.specs.Bytes.{pieces_of, costs_spelt}
use Rattle.spardimple.specs.Numbers.{number, said, measured, reply_of, verdict_number}
use Rattle.spardimple.proofs.LentLaws.{measured-whole}
use Rattle.spardimple.specs.Refusals.{lent_table}
use Rattle.spardimple.proofs.NumberLaws.{reply-true, reply-false, reply-formed, reply-carries, number-one, number-reply}
use Rattle.demand.specs.declared.Refusal.{Refusal}
use Rattle.demand.specs.declared.Cut.{Cut}

-- ---- a run of records

taken-kept : (c : Costs) (n : ℕ) (ps : List Piece) → Taken c n ps → Kept (record_table c n ps)
taken-kept c n ps ok = (record-judged c n ps).0 (taken-answer c n ps ok)

kept-taken : (c : Costs) (n : ℕ) (ps : List Piece) → Kept (record_table c n ps) → Taken c n ps
kept-taken c n ps kept = ((answer-judged c n ps (verdict_of c (take n ps))).0 ((record-judged c n ps).1 kept)).0

-- "taken" is that no rule of the table is broken
by-table : (c : Costs) (n : ℕ) (ps : List Piece) {Q M : Type 0} → Q ↔ (Taken c n ps × M) → Q ↔ (Kept (record_table c n ps) × M)
by-table c n ps h = ((λ q. (let k = h.0 q in (taken-kept c n ps k.0, k.1))), λ k. h.1 (kept-taken c n ps k.0, k.1))

module _ (c : Costs) (n : ℕ) (ps : List Piece) where
  pub run-passes : (answer_of c n ps ≡ Ok Passes)
      ↔ (Kept (record_table c n ps) × Bounded (core_of c (take n ps)) × KeepsUp (stall c) (core_of c (take n ps)))
  run-passes =
      let a = answer-passes c n ps in
      ((λ is. (let k = a.0 is in (taken-kept c n ps k.0, k.1, k.2))), λ k. a.1 (kept-taken c n ps k.0, k.1, k.2))

  pub run-overloaded : (t : ℕ) → (answer_of c n ps ≡ Ok (Overloaded t))
      ↔ (Kept (record_table c n ps) × Means (stall c) (core_of c (take n ps)) (Overloaded t))
  run-overloaded t = by-table c n ps (answer-overloaded c n ps t)

  pub run-undecided : (answer_of c n ps ≡ Ok Undecided) ↔ (Kept (record_table c n ps) × Means (stall c) (core_of c (take n ps)) Undecided)
  run-undecided = by-table c n ps (answer-undecided c n ps)

  pub run-split : (p : Piece) (g : ℕ) (s : Option Cut)
      → (split_of c n ps p g ≡ Ok s) ↔ (Kept (record_table c (n + 1) (take n ps ++ (p ∷ []))) × Splits c g (take n ps) p s)
  run-split p g s = by-table c (n + 1) (take n ps ++ (p ∷ [])) (split-best c n ps p g s)

-- ---- lent bytes

module _ (rs cs : List ℕ) where
  abbrev answered : Result Verdict Refusal
  answered = answer_of (costs_spelt cs) (length (pieces_of rs)) (pieces_of rs)

  pub reply-judged : (v : Verdict) → (reply_of rs cs ≡ said (Ok v)) ↔ ((length rs % 28 ≡ 0) × (length cs ≡ 36) × (answered ≡ Ok v))
  reply-judged v = ((λ is. by is (measured rs cs) refl), λ h. reply-formed rs cs h.0 h.1 ∙ (rw h.2 refl))
    where
      by : reply_of rs cs ≡ said (Ok v) → (b : Bool) → measured rs cs ≡ b → (length rs % 28 ≡ 0) × (length cs ≡ 36) × (answered ≡ Ok v)
      by is true e = ((measured-whole rs cs e).0, (measured-whole rs cs e).1, (let h : said answered ≡ said (Ok v) = sym (reply-true rs cs e) ∙ is in cc))
      by is false e = let h = sym (reply-false rs cs e) ∙ is in let z : ◌≡◌ {A = ℕ} 0 1 = cc in absurd (omega arith)

  -- a verdict by the number that is given back
  number-judged : (v : Verdict) → (told (Ok v)).carries < 2 ^ 32 → (verdict_number rs cs ≡ number (told (Ok v)))
      ↔ ((length rs % 28 ≡ 0) × (length cs ≡ 36) × (answered ≡ Ok v))
  unfolding verdict_number
  number-judged v small = (
    (λ is. (reply-judged v).0 (number-one (reply_of rs cs) (said (Ok v)) (reply-carries rs cs) small is)),
    λ h. number-reply rs cs (said (Ok v)) ((reply-judged v).1 h),
  )

  -- over all records that the bytes spell
  meant : (v : Verdict) (M : List Piece → Type 0) → (told (Ok v)).carries < 2 ^ 32
      → ((answered ≡ Ok v)
      ↔ (Kept (record_table (costs_spelt cs) (length (pieces_of rs)) (pieces_of rs)) × M (take (length (pieces_of rs)) (pieces_of rs))))
      → (verdict_number rs cs ≡ number (told (Ok v))) ↔ (Kept (lent_table rs cs) × M (pieces_of rs))
  unfolding lent_table
  meant v M small means = (
    (λ is. (let h = (number-judged v small).0 is in let k = means.0 h.2 in
        (((λ odd. odd h.0), ((λ odd. odd h.1), k.0)), subst M (take-length (pieces_of rs)) k.1))),
    λ h. (number-judged v small).1 (
      stays (length rs % 28) 0 h.0.0,
      stays (length cs) 36 h.0.1.0,
      means.1 (h.0.1.1, subst M (sym (take-length (pieces_of rs))) h.1),
    ),
  )
    where
      stays : (a b : ℕ) → ((a ≡ b → ⊥) → ⊥) → a ≡ b
      stays a b never = by (eqb a b) refl
        where
          by : (t : Bool) → eqb a b ≡ t → a ≡ b
          by true e = eqb-true a b e
          by false e = absurd (never (eqb-false a b e))

  pub verdict-passes : (verdict_number rs cs ≡ 2 ^ 32 * 0 + 0)
      ↔ (Kept (lent_table rs cs) × Bounded (core_of (costs_spelt cs) (pieces_of rs)) × KeepsUp (stall (costs_spelt cs)) (core_of (costs_spelt cs) (pieces_of rs)))
  unfolding number
  verdict-passes =
      let c = costs_spelt cs in
      let ps = pieces_of rs in
      let a = run-passes c (length ps) ps in
      let h = meant Passes (λ qs. Bounded (core_of c qs) × KeepsUp (stall c) (core_of c qs)) (omega arith)
      ((λ is. (let k = a.0 is in (k.0, (k.1, k.2)))), λ k. a.1 (k.0, k.1.0, k.1.1)) in
      ((λ is. (let k = h.0 is in (k.0, k.1.0, k.1.1))), λ k. h.1 (k.0, (k.1, k.2)))

  pub verdict-overloaded : (t : ℕ) → t < 2 ^ 32 → (verdict_number rs cs ≡ 2 ^ 32 * 1 + t)
      ↔ (Kept (lent_table rs cs) × Means (stall (costs_spelt cs)) (core_of (costs_spelt cs) (pieces_of rs)) (Overloaded t))
  unfolding number
  verdict-overloaded t small =
      meant (Overloaded t) (λ qs. Means (stall (costs_spelt cs)) (core_of (costs_spelt cs) qs) (Overloaded t)) small
      (run-overloaded (costs_spelt cs) (length (pieces_of rs)) (pieces_of rs) t)

  pub verdict-undecided : (verdict_number rs cs ≡ 2 ^ 32 * 2 + 0)
      ↔ (Kept (lent_table rs cs) × Means (stall (costs_spelt cs)) (core_of (costs_spelt cs) (pieces_of rs)) Undecided)
  unfolding number
  verdict-undecided =
      meant Undecided (λ qs. Means (stall (costs_spelt cs)) (core_of (costs_spelt cs) qs) Undecided) (omega arith)
      (run-undecided (costs_spelt cs) (length (pieces_of rs)) (pieces_of rs))
