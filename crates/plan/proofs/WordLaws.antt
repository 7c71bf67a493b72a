-- The bits of a core's word are its tasks.
-- Assumes nothing.
--
--   bit_kept             another bit of a word with one set
--   word-bits            bit k of a word is the number of pieces of the task at place k
--   word_ones            each task adds a one
--   word-shows           what a core's word shows
--   words-alike          a word is settled by the bits that it has
use mathlib.Core.Path.{◌≡◌, refl, sym, ap, ◌∙◌, subst}
use mathlib.Core.Bool.{Bool, true, false}
use mathlib.Core.Logic.{◌↔◌}
use mathlib.Core.List.{List, [], ◌∷◌}
use Prim.Native.Nat.{ℕ, zero, suc, ◌+◌, ◌-◌, ◌/◌, ◌%◌, ◌^◌, ◌≤◌}
use native.Mathlib.Nat.{zero-div}
use native.Mathlib.Decide.{dec_lt}
use native.Mathlib.Omega.{arith}
use borrow.Author.Tests.{eqb-true, eqb-false}
use lib.Dec.{eqb}
use lib.Bits.{bit_or}
use lib.Pow.{shr-shr}
use lib.Count.{ones, ones-le}
use lib.ListN.{length}
use Rattle.demand.specs.Sizes.{Each}
use Rattle.walks.specs.Lists.{Lacks, Apart, keep}
use Rattle.walks.specs.Way.{Placed}
use Rattle.plan.specs.Places.{of_task}
use Rattle.plan.specs.Shows.{bit_of, WordShows}
use Rattle.plan.proofs.Ones.{ones-or-fresh, bit-set, bit-kept-high, bit-kept-low}
use Rattle.plan.proofs.ShowLaws.{word_on}

-- ---- a bit for each piece

pub bit_kept : (w k j : ℕ) → (k ≡ j → ⊥) → bit_of (bit_or w (2 ^ k)) j ≡ bit_of w j
bit_kept w k j h = elim (dec_lt k j) [
  | yes g ↦ bit-kept-high w k j g
  | no g ↦ (let e : k ≡ j + 1 + (k - (j + 1)) = omega (arith, h) in ap (λ (n : ℕ). bit_or w (2 ^ n) / 2 ^ j % 2) e ∙ bit-kept-low w j (k - (j + 1)))
]

bit-fresh : (w k : ℕ) → bit_of w k ≡ 0 → bit_of (bit_or w (2 ^ k)) k ≡ 1
bit-fresh w k h = bit-set w k ∙ ap (λ (b : ℕ). bit_or b 1) h

-- no piece of l has its bit in the word w
abbrev Fresh : ℕ → List (Placed ℕ) → Type 0
Fresh w l = Each (λ e. bit_of w e.item ≡ 0) l

fresh_kept : (w k : ℕ) (l : List (Placed ℕ)) → Lacks (λ e. e.item) k l → Fresh w l → Fresh (bit_or w (2 ^ k)) l
fresh_kept w k [] h g = tt
fresh_kept w k (e ∷ l) h g = (bit_kept w k e.item (λ same. h.0 (sym same)) ∙ g.0, fresh_kept w k l h.1 g.1)

pub word-bits : (w : ℕ) (l : List (Placed ℕ)) → Apart (λ e. e.item) l → Fresh w l → (k : ℕ) → bit_of (word_on w l) k ≡ bit_of w k + length (of_task k l)
word-bits w [] h g k = omega arith
word-bits w (e ∷ l) h g k = by (eqb e.item k) refl (word-bits (bit_or w (2 ^ e.item)) l h.1 (fresh_kept w e.item l h.0 g.1) k)
  where
    by : (t : Bool) → eqb e.item k ≡ t → bit_of (word_on (bit_or w (2 ^ e.item)) l) k ≡ bit_of (bit_or w (2 ^ e.item)) k + length (of_task k l)
        → bit_of (word_on (bit_or w (2 ^ e.item)) l) k ≡ bit_of w k + length (keep t e (of_task k l))
    by true f r =
        let same = eqb-true e.item k f in
        let old : bit_of w k ≡ 0 = subst (λ (j : ℕ). bit_of w j ≡ 0) same g.0 in
        let new : bit_of (bit_or w (2 ^ e.item)) k ≡ 1 = subst (λ (j : ℕ). bit_of (bit_or w (2 ^ e.item)) j ≡ 1) same (bit-fresh w e.item g.0) in
        r ∙ omega arith
    by false f r = r ∙ omega (arith, bit_kept w e.item k (eqb-false e.item k f))

pub word_ones : (w : ℕ) (l : List (Placed ℕ)) → Apart (λ e. e.item) l → Fresh w l → ones (word_on w l) ≡ ones w + length l
word_ones w [] h g = omega arith
word_ones w (e ∷ l) h g = omega (arith, word_ones (bit_or w (2 ^ e.item)) l h.1 (fresh_kept w e.item l h.0 g.1), ones-or-fresh w e.item g.0)

-- ---- what a word shows

zero_bit : (k : ℕ) → bit_of 0 k ≡ 0
zero_bit k = ap (λ (n : ℕ). n % 2) (zero-div (2 ^ k))

zero_bits : (l : List (Placed ℕ)) → Fresh 0 l
zero_bits [] = tt
zero_bits (e ∷ l) = (zero_bit e.item, zero_bits l)

small : (n : ℕ) → n % 2 ≤ 1
small n = omega arith

pub word-shows : (w : ℕ) (l : List (Placed ℕ)) → w ≡ word_on 0 l → Apart (λ e. e.item) l → WordShows w l
word-shows w l e apart =
    let bit : (k : ℕ) → bit_of w k ≡ length (of_task k l) =
    (λ k. ap (λ (v : ℕ). bit_of v k) e ∙ (word-bits 0 l apart (zero_bits l) k ∙ omega (arith, zero_bit k))) in
    let single : (k : ℕ) → length (of_task k l) ≤ 1 = (λ k. omega (arith, bit k, small (w / 2 ^ k))) in
    record {
      bit = bit;
      set = λ k. ((λ on. omega (arith, bit k)), (λ some. omega (arith, bit k, single k)));
      single = single;
      count = ap ones e ∙ (word_ones 0 l apart (zero_bits l) ∙ omega (arith, ones-le 0 0 (omega arith)));
    }

-- ---- a word by its bits

-- the bits of half a word are those of the word, one further up
half-bit : (w k : ℕ) → bit_of (w / 2) k ≡ bit_of w (1 + k)
half-bit w k = ap (λ (x : ℕ). x % 2) (shr-shr w 1 k)

bits_below : (f w v : ℕ) → w + v ≤ f → ((k : ℕ) → bit_of w k ≡ bit_of v k) → w ≡ v
bits_below zero w v small same = omega arith
bits_below (suc f) w v small same =
    let halves : w / 2 ≡ v / 2 = bits_below f (w / 2) (v / 2) (omega arith) (λ k. half-bit w k ∙ (same (1 + k) ∙ sym (half-bit v k))) in
    let last : w % 2 ≡ v % 2 = (let h : w / 1 % 2 ≡ v / 1 % 2 = same 0 in omega arith) in
    omega arith

pub words-alike : (w v : ℕ) → ((k : ℕ) → (bit_of w k ≡ 1) ↔ (bit_of v k ≡ 1)) → w ≡ v
words-alike w v same = bits_below (w + v) w v (omega arith) (λ k. by k (eqb (bit_of w k) 1) refl (eqb (bit_of v k) 1) refl)
  where
    by : (k : ℕ) (a : Bool) → eqb (bit_of w k) 1 ≡ a → (b : Bool) → eqb (bit_of v k) 1 ≡ b → bit_of w k ≡ bit_of v k
    by k true on b z = let e = eqb-true (bit_of w k) 1 on in e ∙ sym ((same k).0 e)
    by k false off true on = absurd (eqb-false (bit_of w k) 1 off ((same k).1 (eqb-true (bit_of v k) 1 on)))
    by k false off false dark =
        omega (arith, eqb-false (bit_of w k) 1 off, eqb-false (bit_of v k) 1 dark, small (w / 2 ^ k), small (v / 2 ^ k))
