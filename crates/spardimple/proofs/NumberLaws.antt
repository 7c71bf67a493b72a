-- Laws of the number that is given back: no two answers share one.
-- Assumes nothing.
--
--   back n                what the number n says
--   one_number            a number tells its two parts, where the second is less than 2^32
--   told-one              so what is told is read back from its number, where it carries less than 2^32
--   number-back           a reply is read back from its number, where it carries less than 2^32
--   number-one, answer-one        so two replies of one number are the same, and two answers
--   reply-true, reply-false       by the test of their form
--   reply-records, reply-costs, reply-formed      8 first, then what is said of the records
--   reply-carries         every reply to lent bytes carries less than 2^32
use Rattle.std.specs.Prelude.{Err, Ok, Result}
use mathlib.Core.Path.{◌≡◌, refl, sym, ap, ◌∙◌}
use mathlib.Core.Bool.{Bool, true, false, cond}
use mathlib.Core.List.{List}
use Prim.Native.Nat.{ℕ, ◌+◌, ◌*◌, ◌/◌, ◌%◌, ◌^◌, ◌<◌}
use native.Mathlib.Omega.{arith}
use borrow.Author.Tests.{eq-eqb, ne_eqb}
use lib.Dec.{eqb}
use lib.ListN.{length}
use Rattle.demand.specs.declared.Verdict.TheVariants.{Passes, Overloaded, Undecided}
use Rattle.demand.specs.declared.Refusal.TheVariants.{TooMany, BadCosts, BadRecord}
use Rattle.demand.specs.Answer.{Told, told, answer_of}
use Rattle.demand.proofs.AnswerLaws.{answer-carries}
use Rattle.spardimple.specs.Bytes.{pieces_of, costs_spelt}
use Rattle.spardimple.specs.Numbers.{number, Reply, told_reply, measured, reply_of, verdict_number, malformed, said}
use Rattle.demand.specs.declared.Refusal.{Refusal}
use Rattle.demand.specs.declared.Verdict.{Verdict}

-- ---- no two answers share a number

abbrev back_from : ℕ → ℕ → Reply
back_from which carries =
    cond (eqb which 108) malformed
    (cond (eqb which 0) (said (Ok Passes))
    (cond (eqb which 1) (said (Ok (Overloaded carries)))
    (cond (eqb which 2) (said (Ok Undecided))
    (cond (eqb which 106) (said (Err TooMany))
    (cond (eqb which 102) (said (Err BadCosts))
    (said (Err (BadRecord carries))))))))

unfoldable pub back : ℕ → Reply
back n = back_from (n / 2 ^ 32) (n % 2 ^ 32)

told_back : (r : Reply) → back_from (told_reply r).which (told_reply r).carries ≡ r
told_back malformed = refl
told_back (said (Ok Passes)) = refl
told_back (said (Ok (Overloaded t))) = refl
told_back (said (Ok Undecided)) = refl
told_back (said (Err TooMany)) = refl
told_back (said (Err BadCosts)) = refl
told_back (said (Err (BadRecord k))) = refl

number-which : (t : Told) → t.carries < 2 ^ 32 → number t / 2 ^ 32 ≡ t.which
unfolding number
number-which t fits = omega arith

number-carries : (t : Told) → t.carries < 2 ^ 32 → number t % 2 ^ 32 ≡ t.carries
unfolding number
number-carries t fits = omega arith

pub one_number : (w k w' k' : ℕ) → k < 2 ^ 32 → k' < 2 ^ 32 → 2 ^ 32 * w + k ≡ 2 ^ 32 * w' + k' → (w ≡ w') × (k ≡ k')
one_number w k w' k' fits fits' same = (omega arith, omega arith)

-- what is told is read back from its number
pub told-one : (t u : Told) → t.carries < 2 ^ 32 → u.carries < 2 ^ 32 → number t ≡ number u → t ≡ u
unfolding number
told-one t u small less e =
    let same = one_number t.which t.carries u.which u.carries small less e in
    λ i. record { which = same.0 i; carries = same.1 i }

pub number-back : (r : Reply) → (told_reply r).carries < 2 ^ 32 → back (number (told_reply r)) ≡ r
unfolding back
number-back r fits = (λ i. back_from (number-which (told_reply r) fits i) (number-carries (told_reply r) fits i)) ∙ told_back r

pub number-one : (r s : Reply) → (told_reply r).carries < 2 ^ 32 → (told_reply s).carries < 2 ^ 32 → number (told_reply r) ≡ number (told_reply s) → r ≡ s
number-one r s small less e = sym (number-back r small) ∙ (ap back e ∙ number-back s less)

pub answer-one : (a b : Result Verdict Refusal) → (told a).carries < 2 ^ 32 → (told b).carries < 2 ^ 32 → number (told a) ≡ number (told b) → a ≡ b
answer-one a b small less e = let same : said a ≡ said b = number-one (said a) (said b) small less e in cc

-- ---- the refusals in their order

module _ (rs cs : List ℕ) where
  pub reply-true : measured rs cs ≡ true → reply_of rs cs ≡ said (answer_of (costs_spelt cs) (length (pieces_of rs)) (pieces_of rs))
  unfolding reply_of
  reply-true e = simp e

  pub reply-false : measured rs cs ≡ false → reply_of rs cs ≡ malformed
  unfolding reply_of
  reply-false e = simp e

  pub reply-records : (length rs % 28 ≡ 0 → ⊥) → reply_of rs cs ≡ malformed
  unfolding measured
  reply-records odd = reply-false (simp (ne_eqb (length rs % 28) 0 odd))

  pub reply-costs : length rs % 28 ≡ 0 → (length cs ≡ 36 → ⊥) → reply_of rs cs ≡ malformed
  unfolding measured
  reply-costs whole odd = reply-false (simp (eq-eqb (length rs % 28) 0 whole, ne_eqb (length cs) 36 odd))

  pub reply-formed : length rs % 28 ≡ 0 → length cs ≡ 36 → reply_of rs cs ≡ said (answer_of (costs_spelt cs) (length (pieces_of rs)) (pieces_of rs))
  unfolding measured
  reply-formed whole nine = reply-true (simp (eq-eqb (length rs % 28) 0 whole, eq-eqb (length cs) 36 nine))

  -- the number of a reply that is known
  pub number-reply : (r : Reply) → reply_of rs cs ≡ r → verdict_number rs cs ≡ number (told_reply r)
  unfolding verdict_number
  number-reply r e = ap (λ (x : Reply). number (told_reply x)) e

-- ---- any lent bytes

pub reply-carries : (rs cs : List ℕ) → (told_reply (reply_of rs cs)).carries < 2 ^ 32
reply-carries rs cs = look (measured rs cs) refl
  where
    look : (b : Bool) → measured rs cs ≡ b → (told_reply (reply_of rs cs)).carries < 2 ^ 32
    look true e = rw (reply-true rs cs e) (omega (arith, answer-carries (costs_spelt cs) (length (pieces_of rs)) (pieces_of rs)))
    look false e = rw (reply-false rs cs e) (omega arith)
