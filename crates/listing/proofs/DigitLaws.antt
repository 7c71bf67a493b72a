-- Laws of a number's digits: they read back as the number, and have the form of a sheet's numbers.
-- Assumes nothing.
--
--   digits_value           digits in front of others read as their number, then the others
--   digits-kind            all are digits
--   digits-some, -most     there is one, and no more than the number needs
--   digits-lead            no zero leads, but for 0 itself
--   decimal-value, decimal-number, decimal-digits       the same of all digits of a number
--   decimal-one            so two numbers with the same digits are one
use mathlib.Core.Path.{◌≡◌, refl, sym, ap, ◌∙◌}
use mathlib.Core.Bool.{true}
use mathlib.Core.List.{List, [], ◌∷◌}
use Prim.Native.Nat.{ℕ, zero, suc, ◌+◌, ◌-◌, ◌*◌, ◌/◌, ◌%◌, ◌^◌, ◌≤◌, ◌<◌}
use native.Mathlib.Nat.{pow-suc, div-lt_iff_lt-mul}
use native.Mathlib.Decide.{dec_lt}
use native.Mathlib.Omega.{arith}
use borrow.Author.Tests.{le-leb, ne_eqb}
use lib.Dec.{lit<}
use lib.ListN.{length, get_or}
use Rattle.lines.specs.Lines.{is_digit, every, unled, is_number, value_from, value_of}
use Rattle.lines.proofs.FieldLaws.{unled-short, unled-long}
use Rattle.listing.specs.Text.{digits_onto, decimal}
use Rattle.listing.proofs.TextLaws.{digits_last, digits_step}

-- one place fewer for a number's front
front_less : (k n : ℕ) → n < 10 ^ suc k → n / 10 < 10 ^ k
front_less k n fits =
    let p : 10 ^ suc k ≡ 10 ^ k * 10 = pow-suc 10 k in
    let g : n < 10 ^ k * 10 = omega arith in
    (div-lt_iff_lt-mul (lit< tt)).1 g

pub digits_value : (k n : ℕ) (ds : List ℕ) → n < 10 ^ k → value_from 0 (digits_onto k n ds) ≡ value_from n ds
unfolding digits_onto
digits_value zero n ds fits = let z : 0 ≡ n = omega arith in ap (λ (v : ℕ). value_from v ds) z
digits_value (suc k) n ds fits = elim (dec_lt n 10) [
  | yes low ↦ (let v : 0 * 10 + (48 + n - 48) ≡ n = omega arith in ap (value_from 0) (digits_last k n ds low) ∙ ap (λ (v : ℕ). value_from v ds) v)
  | no high ↦ (let v : n / 10 * 10 + (48 + n % 10 - 48) ≡ n = omega arith in
      ap (value_from 0) (digits_step k n ds (omega arith))
      ∙ (digits_value k (n / 10) ((48 + n % 10) ∷ ds) (front_less k n fits) ∙ ap (λ (v : ℕ). value_from v ds) v))
]

digit-is : (d : ℕ) → d < 10 → is_digit (48 + d) ≡ true
digit-is d low = simp (le-leb 48 (48 + d) (omega arith), le-leb (48 + d) 57 (omega arith))

pub digits-kind : (k n : ℕ) (ds : List ℕ) → every is_digit ds ≡ true → every is_digit (digits_onto k n ds) ≡ true
unfolding digits_onto
digits-kind zero n ds ok = ok
digits-kind (suc k) n ds ok = elim (dec_lt n 10) [
  | yes low ↦ rw (digits_last k n ds low, digit-is n low) ok
  | no high ↦ rw (digits_step k n ds (omega arith)) (digits-kind k (n / 10) ((48 + n % 10) ∷ ds) (rw (digit-is (n % 10) (omega arith)) ok))
]

digits-kept : (k n : ℕ) (ds : List ℕ) → length ds ≤ length (digits_onto k n ds)
unfolding digits_onto
digits-kept zero n ds = omega arith
digits-kept (suc k) n ds = elim (dec_lt n 10) [
  | yes low ↦ rw (digits_last k n ds low) (omega arith)
  | no high ↦ rw (digits_step k n ds (omega arith)) (omega (arith, digits-kept k (n / 10) ((48 + n % 10) ∷ ds)))
]

pub digits-some : (k n : ℕ) (ds : List ℕ) → 1 + length ds ≤ length (digits_onto (suc k) n ds)
digits-some k n ds = elim (dec_lt n 10) [
  | yes low ↦ rw (digits_last k n ds low) (omega arith)
  | no high ↦ rw (digits_step k n ds (omega arith)) (omega (arith, digits-kept k (n / 10) ((48 + n % 10) ∷ ds)))
]

pub digits-most : (k j n : ℕ) (ds : List ℕ) → n < 10 ^ suc j → length (digits_onto k n ds) ≤ suc j + length ds
unfolding digits_onto
digits-most zero j n ds fits = omega arith
digits-most (suc k) zero n ds fits = rw (digits_last k n ds (omega arith)) (omega arith)
digits-most (suc k) (suc j) n ds fits = elim (dec_lt n 10) [
  | yes low ↦ rw (digits_last k n ds low) (omega arith)
  | no high ↦ rw (digits_step k n ds (omega arith)) (omega (arith, digits-most k j (n / 10) ((48 + n % 10) ∷ ds) (front_less (suc j) n fits)))
]

pub digits-lead : (k n : ℕ) (ds : List ℕ) → 1 ≤ n → n < 10 ^ k → get_or (digits_onto k n ds) 0 0 ≡ 48 → ⊥
digits-lead zero n ds some fits e = omega arith
digits-lead (suc k) n ds some fits e = elim (dec_lt n 10) [
  | yes low ↦ (let h : 48 + n ≡ 48 = rw (digits_last k n ds low) at e in omega arith)
  | no high ↦ digits-lead k (n / 10) ((48 + n % 10) ∷ ds) (omega arith) (front_less k n fits) (rw (digits_step k n ds (omega arith)) at e)
]

-- ---- all digits of a number

pub decimal-value : (n : ℕ) → n < 2 ^ 64 → value_of (decimal n) ≡ n
decimal-value n fits = digits_value 20 n [] (omega arith)

pub decimal-digits : (n : ℕ) → every is_digit (decimal n) ≡ true
decimal-digits n = digits-kind 20 n [] refl

decimal-unled : (n : ℕ) → n < 2 ^ 64 → unled (decimal n) ≡ true
unfolding digits_onto
decimal-unled zero fits = refl
decimal-unled (suc n) fits = elim (dec_lt (length (decimal (suc n))) 2) [
  | yes short ↦ unled-short (decimal (suc n)) short
  | no long ↦ rw (unled-long (decimal (suc n)) (omega arith), ne_eqb (get_or (decimal (suc n)) 0 0) 48 (digits-lead 20 (suc n) [] (omega arith) (omega arith)))
]

pub decimal-number : (n : ℕ) → n < 10 ^ 7 → is_number (decimal n) ≡ true
unfolding is_number
decimal-number n fits =
    let some : 1 ≤ length (decimal n) = omega (arith, digits-some 19 n []) in
    let most : length (decimal n) ≤ 7 = omega (arith, digits-most 20 6 n [] fits) in
    rw (le-leb 1 (length (decimal n)) some, le-leb (length (decimal n)) 7 most, decimal-unled n (omega arith)) (decimal-digits n)

pub decimal-one : (n m : ℕ) → n < 2 ^ 64 → m < 2 ^ 64 → decimal n ≡ decimal m → n ≡ m
decimal-one n m small less e = sym (decimal-value n small) ∙ (ap value_of e ∙ decimal-value m less)
