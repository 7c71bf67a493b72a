-- The one number that is given back for lent bytes: document 01, "Verdict on a core" and "Refusal numbers".
-- `proofs/NumberLaws.antt` has that no two answers share one.
--
--   number t             2^32 · which + carries
--   Reply                what is said of lent bytes: refusal 8, or what is said of the records that they spell
--   told_reply a          document 01's number for it, with what it carries
--   measured rs cs         records by 28 bytes, and 36 bytes of costs
--   reply_of rs cs        8 first; then 6, 2 and 3, as they are given for a run of records; else the verdict
--   verdict_number rs cs  the number of that reply
use Rattle.std.specs.Prelude.{Bool, ◌&&◌, cond, List, ℕ, ◌+◌, ◌*◌, ◌%◌, ◌^◌, eqb, length, Result}
use Rattle.demand.specs.Answer.{Told, told, answer_of}
use Rattle.spardimple.specs.Bytes.{pieces_of, costs_spelt}
use Rattle.demand.specs.declared.Refusal.{Refusal}
use Rattle.demand.specs.declared.Verdict.{Verdict}

unfoldable pub number : Told → ℕ
number t = 2 ^ 32 * t.which + t.carries

pub data Reply : Type 0 where
  malformed : Reply
  said : Result Verdict Refusal → Reply

abbrev pub told_reply : Reply → Told
told_reply malformed = record { which = 108; carries = 0 }
told_reply (said a) = told a

unfoldable pub measured : List ℕ → List ℕ → Bool
measured rs cs = eqb (length rs % 28) 0 && eqb (length cs) 36

unfoldable pub reply_of : List ℕ → List ℕ → Reply
reply_of rs cs = cond (measured rs cs) (said (answer_of (costs_spelt cs) (length (pieces_of rs)) (pieces_of rs))) malformed

unfoldable pub verdict_number : List ℕ → List ℕ → ℕ
verdict_number rs cs = number (told_reply (reply_of rs cs))
