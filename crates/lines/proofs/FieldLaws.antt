-- Laws of one field: a number, or a name.
-- Assumes nothing.
--
--   every-at, every-end, value-at, value-end    the digits of a number, one on
--   unled-short, unled-long                     whether a zero leads
--   digits-small, digits_more                   how large so many digits can be
--   number_short, -long, -led, -other, -yes     what the answer on a number is
--   number_cases                                the set of these
--   name-laid                                   a name's bytes in their 24 places
--   name-short                                  a name has at most 24 bytes
--   name-long, -bad, -good, name_cases          what the answer on a name is; the set of these
use mathlib.Core.Path.{◌≡◌, refl, sym}
use mathlib.Core.Bool.{Bool, true, false, cond, not, ◌&&◌, and-false}
use mathlib.Core.List.{List, [], ◌∷◌, ◌++◌}
use Prim.Native.Nat.{ℕ, suc, ◌+◌, ◌-◌, ◌*◌, ◌^◌, ◌≤◌, ◌<◌}
use native.Mathlib.Nat.{pow-suc, pow-le-pow_right}
use native.Mathlib.Decide.{dec_le}
use native.Mathlib.Numerals.{add-one}
use native.Mathlib.Omega.{arith}
use borrow.Author.Tests.{le-leb, lt-leb, leb-true}
use lib.Dec.{leb, eqb, lit<}
use lib.ListN.{length, drop, get_or, replicate, drop_of_length-le}
use lib.Seq.{drop-cons}
use Rattle.std.proofs.Common.{Some, None}
use Rattle.std.proofs.lemmas.List.{drop-replicate}
use Rattle.demand.specs.Lists.{padded}
use Rattle.demand.proofs.Tests.{both_left, both_right}
use Rattle.demand.proofs.PaddedLaws.{padded-length, padded-append}
use Rattle.task.specs.Names.{name_most, formed, spelt}
use Rattle.task.proofs.NameLaws.{spelt-long}
use Rattle.lines.specs.Lines.{is_digit, every, unled, is_number, value_from, value_of, name_of, is_name, name_in}
use Rattle.lines.specs.Forms.{number_in}

-- ---- digits, one on

pub every-at : (ok : ℕ → Bool) (f : List ℕ) (i : ℕ) → i < length f → every ok (drop i f) ≡ (ok (get_or f i 0) && every ok (drop (i + 1) f))
every-at ok f i low = rw (add-one, drop-cons f i 0)

pub every-end : (ok : ℕ → Bool) (f : List ℕ) (i : ℕ) → length f ≤ i → every ok (drop i f) ≡ true
every-end ok f i short = rw (drop_of_length-le f {i = i} short)

pub value-at : (v : ℕ) (f : List ℕ) (i : ℕ) → i < length f → value_from v (drop i f) ≡ value_from (v * 10 + (get_or f i 0 - 48)) (drop (i + 1) f)
value-at v f i low = rw (add-one, drop-cons f i 0)

pub value-end : (v : ℕ) (f : List ℕ) (i : ℕ) → length f ≤ i → value_from v (drop i f) ≡ v
value-end v f i short = rw (drop_of_length-le f {i = i} short)

pub digit_low : (b : ℕ) → is_digit b ≡ true → 48 ≤ b
digit_low b h = leb-true 48 b (both_left (leb 48 b) (leb b 57) h)

pub digit-high : (b : ℕ) → is_digit b ≡ true → b ≤ 57
digit-high b h = leb-true b 57 (both_right (leb 48 b) (leb b 57) h)

pub digits-small : (v i : ℕ) → v < 10 ^ i → i < 7 → v < 1000000
digits-small v i low few = let six : i ≤ 6 = omega arith in let p : 10 ^ i ≤ 10 ^ 6 = pow-le-pow_right (lit< tt) six in omega arith

pub digits_more : (v i d : ℕ) → v < 10 ^ i → d ≤ 9 → v * 10 + d < 10 ^ (i + 1)
digits_more v i d low digit = rw (add-one i) (let p : 10 ^ suc i ≡ 10 ^ i * 10 = pow-suc 10 i in omega arith)

pub unled-short : (f : List ℕ) → length f < 2 → unled f ≡ true
unled-short [] short = refl
unled-short (d ∷ []) short = refl
unled-short (d ∷ e ∷ f) short = absurd (omega arith)

pub unled-long : (f : List ℕ) → 2 ≤ length f → unled f ≡ not (eqb (get_or f 0 0) 48)
unled-long [] long = absurd (omega arith)
unled-long (d ∷ []) long = absurd (omega arith)
unled-long (d ∷ e ∷ f) long = refl

-- ---- the answer on a number

module _ (f : List ℕ) where
  pub number_short : length f < 1 → number_in f ≡ None
  unfolding number_in is_number
  number_short short = simp (lt-leb 1 (length f) short)

  pub number-long : 7 < length f → number_in f ≡ None
  unfolding number_in is_number
  number-long long = simp (lt-leb (length f) 7 long, and-false)

  pub number-led : unled f ≡ false → number_in f ≡ None
  unfolding number_in is_number
  number-led led = simp (led, and-false)

  pub number-other : every is_digit f ≡ false → number_in f ≡ None
  unfolding number_in is_number
  number-other other = simp (other, and-false)

  pub number-yes : (v : ℕ) → 1 ≤ length f → length f ≤ 7 → unled f ≡ true → every is_digit f ≡ true → v ≡ value_of f → number_in f ≡ Some v
  unfolding number_in is_number
  number-yes v some few plain digits value = simp (le-leb 1 (length f) some, le-leb (length f) 7 few, plain, digits, value)

pub ruleset number_cases = (every-at, every-end, value-end, number_short, number-long, number-led, number-other, number-yes)

-- ---- names

-- the bytes in a name's 24 places, zeros behind them
pub name-laid : (f : List ℕ) → length f ≤ name_most → f ++ drop (length f) (replicate name_most 0) ≡ padded name_most 0 f
name-laid f fits = rw (drop-replicate {X = ℕ} (length f) name_most 0) (sym (padded-append 0 name_most f fits))

pub name-short : (f : List ℕ) → is_name f ≡ true → length f ≤ name_most
unfolding is_name formed name_of
name-short f good =
    elim (dec_le (length f) name_most) [
      | yes short ↦ short
      | no long ↦
          let bad = spelt-long (length f) (padded name_most 0 f) (omega (arith, padded-length 0 name_most f)) in
          let some = both_right (leb 1 (length f)) (spelt (length f) (padded name_most 0 f)) good in
          let z : ◌≡◌ {A = ℕ} 0 1 = cc (bad, some) in
          absurd (omega arith)
    ]

module _ (f : List ℕ) where
  pub name-long : name_most < length f → name_in f ≡ None
  name-long long = by (is_name f) refl
    where
      by : (t : Bool) → is_name f ≡ t → cond t (Some (name_of f)) None ≡ None
      by true good = absurd (omega (arith, name-short f good))
      by false bad = refl

  module _ (bytes : List ℕ) (laid : bytes ≡ padded name_most 0 f) where
    pub name-bad : formed (record { len = length f; bytes = bytes }) ≡ false → name_in f ≡ None
    unfolding is_name name_of
    name-bad bad = rw (rw laid at bad)

    pub name-good : formed (record { len = length f; bytes = bytes }) ≡ true → name_in f ≡ Some (record { len = length f; bytes = bytes })
    unfolding is_name name_of
    name-good good = rw (rw laid at good, laid)

pub ruleset name_cases = (name-laid, name-long, name-bad, name-good)
