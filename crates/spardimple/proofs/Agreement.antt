-- Both forms of the verdict agree: bytes that spell records and costs have the number of what is answered for these.
-- Assumes nothing.
--
--   spell-at              the number at a place of spelt bytes
--   pieces-spelt          records that are spelt are read back
--   costs-spelt           and so are costs
--   read-agree            whatever the bytes spell, the number is that of the answer for it
--   forms-agree           records and costs of four-byte numbers, spelt: the number of `judge_lent`'s answer for them
use mathlib.Core.Path.{◌≡◌, refl, ap, ◌∙◌}
use mathlib.Core.List.{List, [], ◌∷◌, ◌++◌}
use Prim.Native.Nat.{ℕ, zero, suc, ◌+◌, ◌*◌, ◌/◌, ◌%◌, ◌≤◌, ◌<◌}
use native.Mathlib.Nat.{suc-add, not-suc-le-zero, le_of_suc-le-suc}
use native.Mathlib.Omega.{arith}
use lib.ListN.{length, take, get_or, get_or-append}
use lib.Seq.{take-suc, take-length, get_or-append-add}
use Rattle.demand.specs.declared.Piece.{Piece}
use Rattle.demand.specs.declared.Costs.{Costs}
use Rattle.demand.specs.Sizes.{Each}
use Rattle.demand.specs.Answer.{answer_of, told}
use Rattle.demand.specs.Lists.{firsts}
use Rattle.demand.specs.Records.{outside, record_at, numbers_of}
use Rattle.demand.proofs.RecordLaws.{first-same, record-back}
use Rattle.spardimple.specs.Bytes.{number_at, numbers_spelt, pieces_of, costs_spelt}
use Rattle.spardimple.specs.Numbers.{number, verdict_number, said}
use Rattle.spardimple.specs.Spelling.{four_bytes, run_numbers, nine_numbers, spell, Narrow}
use Rattle.spardimple.proofs.ByteLaws.{numbers-at}
use Rattle.spardimple.proofs.NumberLaws.{reply-formed, number-reply}

-- ---- numbers

spell-length : (ns : List ℕ) → length (spell ns) ≡ 4 * length ns
spell-length [] = refl
spell-length (n ∷ ns) = omega (arith, spell-length ns)

four-sum : (a b c d : ℕ) {k l m n : ℕ} → a + 256 * k ≡ n → b + 256 * l ≡ k → c + 256 * m ≡ l → d ≡ m → a + 256 * b + 65536 * c + 16777216 * d ≡ n
four-sum a b c d {k} {l} {m} {n} lowest second third fourth = omega arith

four-read : (n : ℕ) (s : List ℕ) → Narrow n → number_at (four_bytes n ++ s) 0 ≡ n
four-read n s narrow =
    let lowest : n % 256 + 256 * (n / 256) ≡ n = omega arith in
    let second : n / 256 % 256 + 256 * (n / 65536) ≡ n / 256 = omega arith in
    let third : n / 65536 % 256 + 256 * (n / 16777216) ≡ n / 65536 = omega arith in
    let fourth : n / 16777216 % 256 ≡ n / 16777216 = omega arith in
    four-sum (n % 256) (n / 256 % 256) (n / 65536 % 256) (n / 16777216 % 256) lowest second third fourth

four-skip : (n k : ℕ) (s : List ℕ) → number_at (four_bytes n ++ s) (suc k) ≡ number_at s k
four-skip n k s = let e : 4 * suc k ≡ suc (suc (suc (suc (4 * k)))) = omega arith in rw e (simp (suc-add))

pub spell-at : (ns : List ℕ) → Each Narrow ns → (i : ℕ) → i < length ns → number_at (spell ns) i ≡ get_or ns i 0
spell-at [] narrow i h = absurd (not-suc-le-zero h)
spell-at (n ∷ ns) narrow zero h = four-read n (spell ns) narrow.0
spell-at (n ∷ ns) narrow (suc i) h = four-skip n i (spell ns) ∙ spell-at ns narrow.1 i (le_of_suc-le-suc h)

-- ---- records

run_length : (ps : List Piece) → length (run_numbers ps) ≡ 7 * length ps
run_length [] = refl
run_length (p ∷ ps) = omega (arith, run_length ps)

run-bytes : (ps : List Piece) → length (spell (run_numbers ps)) ≡ 28 * length ps
run-bytes ps = omega (arith, spell-length (run_numbers ps), run_length ps)

-- the number at the place f of the record j
run_at : (ps : List Piece) (j f : ℕ) (d : Piece) → j < length ps → f < 7 → get_or (run_numbers ps) (7 * j + f) 0 ≡ get_or (numbers_of (get_or ps j d)) f 0
run_at [] j f d h k = absurd (not-suc-le-zero h)
run_at (p ∷ ps) zero f d h k =
    let e : 7 * 0 + f ≡ f = omega arith in
    ap (λ (i : ℕ). get_or (run_numbers (p ∷ ps)) i 0) e ∙ get_or-append (numbers_of p) (run_numbers ps) 0 f k
run_at (p ∷ ps) (suc j) f d h k =
    let e : 7 * suc j + f ≡ 7 + (7 * j + f) = omega arith in
    ap (λ (i : ℕ). get_or (run_numbers (p ∷ ps)) i 0) e ∙ (get_or-append-add (numbers_of p) (run_numbers ps) (7 * j + f) 0 ∙ run_at ps j f d (le_of_suc-le-suc h) k)

first-records : (ps : List Piece) (n : ℕ) → n ≤ length ps → firsts (record_at (run_numbers ps)) n ≡ take n ps
first-records ps zero h = refl
first-records ps (suc n) h =
    rw (
      first-records ps n (omega arith),
      record-back (run_numbers ps) n (get_or ps n outside) (λ f k. run_at ps n f outside h k),
      take-suc ps n outside h,
    )

module _ (ps : List Piece) (narrow : Each Narrow (run_numbers ps)) where
  number-spelt : (k : ℕ) → k < 7 * length ps → get_or (numbers_spelt (spell (run_numbers ps))) k 0 ≡ get_or (run_numbers ps) k 0
  number-spelt k h =
      numbers-at (spell (run_numbers ps)) k (omega (arith, run-bytes ps)) ∙ spell-at (run_numbers ps) narrow k (omega (arith, run_length ps))

  pub pieces-spelt : pieces_of (spell (run_numbers ps)) ≡ ps
  unfolding pieces_of
  pieces-spelt =
      let numbers = numbers_spelt (spell (run_numbers ps)) in
      let all : length (spell (run_numbers ps)) / 28 ≡ length ps = omega (arith, run-bytes ps) in
      ap (firsts (record_at numbers)) all
      ∙ (first-same numbers (run_numbers ps) (length ps) number-spelt ∙ (first-records ps (length ps) (omega arith) ∙ take-length ps))

-- ---- costs

pub costs-spelt : (c : Costs) → Each Narrow (nine_numbers c) → costs_spelt (spell (nine_numbers c)) ≡ c
unfolding costs_spelt
costs-spelt c narrow = λ i. record {
  relo = spell-at (nine_numbers c) narrow 0 (omega arith) i;
  schedo = spell-at (nine_numbers c) narrow 1 (omega arith) i;
  tseto = spell-at (nine_numbers c) narrow 2 (omega arith) i;
  ipb = spell-at (nine_numbers c) narrow 3 (omega arith) i;
  beto = spell-at (nine_numbers c) narrow 4 (omega arith) i;
  migro = spell-at (nine_numbers c) narrow 5 (omega arith) i;
  ipio = spell-at (nine_numbers c) narrow 6 (omega arith) i;
  ipij = spell-at (nine_numbers c) narrow 7 (omega arith) i;
  precision = spell-at (nine_numbers c) narrow 8 (omega arith) i;
}

-- ---- both forms

pub read-agree : (rs cs : List ℕ) (ps : List Piece) (c : Costs) → length rs % 28 ≡ 0 → length cs ≡ 36 → pieces_of rs ≡ ps → costs_spelt cs ≡ c
    → verdict_number rs cs ≡ number (told (answer_of c (length ps) ps))
read-agree rs cs ps c whole nine pieces costs =
    number-reply rs cs (said (answer_of c (length ps) ps))
    (reply-formed rs cs whole nine ∙ λ i. said (answer_of (costs i) (length (pieces i)) (pieces i)))

pub forms-agree : (ps : List Piece) (c : Costs) → Each Narrow (run_numbers ps) → Each Narrow (nine_numbers c)
    → verdict_number (spell (run_numbers ps)) (spell (nine_numbers c)) ≡ number (told (answer_of c (length ps) ps))
forms-agree ps c narrow small =
    read-agree (spell (run_numbers ps)) (spell (nine_numbers c)) ps c (omega (arith, run-bytes ps)) refl (pieces-spelt ps narrow)
    (costs-spelt c small)
