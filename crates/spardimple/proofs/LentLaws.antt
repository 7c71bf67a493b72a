-- What lent bytes come to, step by step as the code goes.
-- Assumes nothing.
--
--   is-measured, measured-whole, unmeasured     the form of lent bytes: whole records and nine costs
--   unlent-small, unlent-told, unlent-why, unlent-demand    where they are refused before they are judged
--   lent-told, lent-why, lent-demand          where they are read
--   refused-said          a refusal of the run's has its number
use Rattle.std.specs.Prelude.{Err, Option, Result}
use mathlib.Core.Path.{◌≡◌, refl, sym, ap, ◌∙◌}
use mathlib.Core.Bool.{true, false}
use mathlib.Core.Logic.{inl, inr}
use mathlib.Core.List.{List, [], map}
use Prim.Native.Nat.{ℕ, ◌%◌, ◌^◌, ◌<◌}
use native.Mathlib.Decide.{dec_le}
use native.Mathlib.Omega.{arith}
use borrow.Author.Tests.{eq-eqb, ne_eqb, eqb-true}
use lib.Dec.{eqb}
use lib.ListN.{length}
use Rattle.demand.specs.declared.Piece.{Piece}
use Rattle.demand.specs.declared.Costs.{Costs}
use Rattle.demand.specs.declared.Record.{Record}
use Rattle.demand.specs.declared.Refusal.{Refusal}
use Rattle.demand.specs.declared.Refusal.TheVariants.{TooMany, BadCosts, BadRecord}
use Rattle.demand.specs.declared.Verdict.{Verdict}
use Rattle.demand.specs.Answer.{told, answer_of, demand_figure}
use Rattle.demand.specs.Records.{piece_in}
use Rattle.demand.specs.Sizes.{run_most}
use Rattle.demand.proofs.Tests.{both_left, both_right}
use Rattle.demand.proofs.RecordLaws.{pieces-length}
use Rattle.demand.proofs.RunLaws.{check-many, answer-bad}
use Rattle.task.specs.declared.faults.Refused.{Refused}
use Rattle.task.specs.Faults.{number_of, refused_as}
use Rattle.listing.specs.Papers.{refused}
use Rattle.listing.specs.Why.{by_place, why_run}
use Rattle.listing.proofs.SeatLaws.{paper-many}
use Rattle.spardimple.specs.Bytes.{pieces_of, costs_spelt}
use Rattle.spardimple.specs.Numbers.{told_reply, measured, reply_of}
use Rattle.spardimple.specs.Whys.{why_records, figure_number, demand_number}
use Rattle.spardimple.specs.Ways.Steps.{Unlent, told_said}
use Rattle.spardimple.proofs.NumberLaws.{reply-true, reply-false}

pub refused-said : (r : Refusal) → told_said (Err (refused_as r)) ≡ told (Err r)
refused-said TooMany = refl
refused-said BadCosts = refl
refused-said (BadRecord k) = refl

many-demand : (c : Costs) (n : ℕ) (ps : List Piece) (t : ℕ) → run_most < n → demand_figure c n ps t ≡ Err TooMany
unfolding demand_figure
many-demand c n ps t many = rw (check-many c n ps many)

many-why : (c : Costs) (n : ℕ) (ps : List Piece) → run_most < n → why_run c n ps ≡ refused 6 0
unfolding why_run
many-why c n ps many = paper-many [] c n (by_place 1 ps) many

module _ (rs cs : List ℕ) where
  pub is-measured : length rs % 28 ≡ 0 → length cs ≡ 36 → measured rs cs ≡ true
  unfolding measured
  is-measured whole nine = simp (eq-eqb (length rs % 28) 0 whole, eq-eqb (length cs) 36 nine)

  pub measured-whole : measured rs cs ≡ true → (length rs % 28 ≡ 0) × (length cs ≡ 36)
  unfolding measured
  measured-whole e =
      let records = eqb (length rs % 28) 0 in
      let costs = eqb (length cs) 36 in
      (eqb-true (length rs % 28) 0 (both_left records costs e), eqb-true (length cs) 36 (both_right records costs e))

  pub unmeasured : (length rs % 28 ≡ 0 → length cs ≡ 36 → ⊥) → measured rs cs ≡ false
  unfolding measured
  unmeasured odd = elim (dec_le (length rs % 28) 0) [
    | yes low ↦ (let whole : length rs % 28 ≡ 0 = omega arith in simp (eq-eqb (length rs % 28) 0 whole, ne_eqb (length cs) 36 (odd whole)))
    | no part ↦ simp (ne_eqb (length rs % 28) 0 (λ whole. omega arith))
  ]

  pub unlent-small : (why : Refused) → Unlent rs cs why → why.carries < 2 ^ 32
  unlent-small why (inl h) = rw h.1 (omega arith)
  unlent-small why (inr h) = rw h.2 (omega arith)

  pub unlent-told : (why : Refused) → Unlent rs cs why → told_said (Err why) ≡ told_reply (reply_of rs cs)
  unlent-told why (inl h) = rw (h.1, reply-false rs cs h.0)
  unlent-told why (inr h) =
      let many = answer-bad (costs_spelt cs) (length (pieces_of rs)) (pieces_of rs) TooMany (check-many (costs_spelt cs) (length (pieces_of rs)) (pieces_of rs) h.1) in
      rw (h.2, reply-true rs cs h.0, many)

  pub unlent-why : (why : Refused) → Unlent rs cs why → why_records rs cs ≡ refused (number_of why.fault) why.carries
  unfolding why_records
  unlent-why why (inl h) = rw (h.1, h.0)
  unlent-why why (inr h) = rw (h.2, h.0, many-why (costs_spelt cs) (length (pieces_of rs)) (pieces_of rs) h.1)

  pub unlent-demand : (why : Refused) → Unlent rs cs why → (t : ℕ) → 0 ≡ demand_number rs cs t
  unfolding demand_number
  unlent-demand why (inl h) t = rw h.0
  unlent-demand why (inr h) t = rw (h.0, many-demand (costs_spelt cs) (length (pieces_of rs)) (pieces_of rs) t h.1)

  module _ (k : Costs) (qs : List Record) (whole : measured rs cs ≡ true) (costs : k ≡ costs_spelt cs) (pieces : map piece_in qs ≡ pieces_of rs) where
    long : length qs ≡ length (pieces_of rs)
    long = sym (pieces-length qs) ∙ ap (λ (ps : List Piece). length ps) pieces

    pub lent-told : (a : Result Verdict Refusal) → a ≡ answer_of k (length qs) (map piece_in qs) → told a ≡ told_reply (reply_of rs cs)
    lent-told a is = rw (reply-true rs cs whole, is, costs, long, pieces)

    pub lent-why : why_run k (length qs) (map piece_in qs) ≡ why_records rs cs
    unfolding why_records
    lent-why = rw (whole, costs, long, pieces)

    pub lent-demand : (t : ℕ) (f : Result (Option ℕ) Refusal) → f ≡ demand_figure k (length qs) (map piece_in qs) t → figure_number f ≡ demand_number rs cs t
    unfolding demand_number
    lent-demand t f is = rw (whole, is, costs, long, pieces)
