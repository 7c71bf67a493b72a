-- Laws of names.
-- Assumes nothing.
--
--   formed-exact          the test of a name's form holds exactly where the name has its form
--   same-bytes-exact, same-name-exact     the test of two names holds exactly where they are equal: lengths and all bytes
--   spelt-long, spelt-tested                        a length past the bytes; the form as two tests, of the name bytes and of the zeros
--   pointwise_same                                  std's test of two lists is that of two names' bytes
use mathlib.Core.Path.{◌≡◌, refl, sym, subst, ◌∙◌}
use mathlib.Core.Bool.{true, false, ◌&&◌, and-false, and_assoc}
use mathlib.Core.Logic.{◌↔◌}
use mathlib.Core.List.{List, [], ◌∷◌}
use Prim.Native.Nat.{ℕ, zero, suc, ◌+◌, ◌≤◌, ◌<◌}
use native.Mathlib.Omega.{arith}
use borrow.Author.Tests.{eq-eqb, eqb-true, leb-true, le-leb, lt-leb, lt-ltb, le-ltb}
use lib.Dec.{leb, eqb}
use lib.Pointwise.{pointwise}
use lib.ListN.{length, take, drop}
use Rattle.std.specs.List.{list_all}
use Rattle.demand.specs.Sizes.{Each}
use Rattle.demand.proofs.Tests.{both_left, both_right}
use Rattle.task.specs.declared.Name.{Name}
use Rattle.task.specs.Names.{name_byte, Formed, fits_at, spelt_from, spelt, formed, same_bytes, same_name}

-- ---- the form

spelt-more : (n i : ℕ) (bs : List ℕ) → i + length bs < n → spelt_from n i bs ≡ false
spelt-more n i [] h = lt-leb n i (omega arith)
spelt-more n i (b ∷ bs) h = rw (spelt-more n (i + 1) bs (omega arith)) (and-false (fits_at b i n))

pub spelt-long : (n : ℕ) (bs : List ℕ) → length bs < n → spelt n bs ≡ false
spelt-long n bs h = spelt-more n 0 bs (omega arith)

-- past the length only zeros stand
zeros-exact : (n i : ℕ) → n ≤ i → (bs : List ℕ) → (spelt_from n i bs ≡ true) ↔ Each (λ b. b ≡ 0) bs
zeros-exact n i past [] = ((λ e. tt), λ z. le-leb n i past)
zeros-exact n i past (b ∷ bs) =
    let more = zeros-exact n (i + 1) (omega arith) bs in
    let here : fits_at b i n ≡ eqb b 0 = rw (le-ltb i n past) in (
      (λ e. (
        eqb-true b 0 (sym here ∙ both_left (fits_at b i n) (spelt_from n (i + 1) bs) e),
        more.0 (both_right (fits_at b i n) (spelt_from n (i + 1) bs) e),
      )),
      λ z. rw (here, eq-eqb b 0 z.0) (more.1 z.1),
    )

-- k name bytes, and zeros behind them
abbrev Spelling : ℕ → List ℕ → Type 0
Spelling k bs = (k ≤ length bs) × Each (λ b. name_byte b ≡ true) (take k bs) × Each (λ b. b ≡ 0) (drop k bs)

spelling-exact : (n k i : ℕ) → n ≡ i + k → (bs : List ℕ) → (spelt_from n i bs ≡ true) ↔ Spelling k bs
spelling-exact n zero i is bs =
    let zeros = zeros-exact n i (omega arith) bs in
    ((λ e. (omega arith, tt, zeros.0 e)), λ s. zeros.1 s.2)
spelling-exact n (suc k) i is [] = ((λ e. absurd (omega (arith, leb-true n i e))), λ s. absurd (omega (arith, s.0)))
spelling-exact n (suc k) i is (b ∷ bs) =
    let more = spelling-exact n k (i + 1) (omega arith) bs in
    let here : fits_at b i n ≡ name_byte b = rw (lt-ltb i n (omega arith)) in (
      (λ e.
          let rest = more.0 (both_right (fits_at b i n) (spelt_from n (i + 1) bs) e) in
          (omega (arith, rest.0), (sym here ∙ both_left (fits_at b i n) (spelt_from n (i + 1) bs) e, rest.1), rest.2)),
      λ s. rw (here, s.1.0) (more.1 (omega (arith, s.0), s.1.1, s.2)),
    )

pub formed-exact : (n : Name) → (formed n ≡ true) ↔ Formed n
unfolding formed
formed-exact n =
    let spelling = spelling-exact n.len n.len 0 (omega arith) n.bytes in (
      (λ e.
          let s = spelling.0 (both_right (leb 1 n.len) (spelt n.len n.bytes) e) in
          record { some = leb-true 1 n.len (both_left (leb 1 n.len) (spelt n.len n.bytes) e); few = s.0; spells = s.1; zeros = s.2 }),
      λ f. rw (le-leb 1 n.len f.some) (spelling.1 (f.few, f.spells, f.zeros)),
    )

-- the name bytes, and then zeros, as two tests
zeros-tested : (n i : ℕ) (bs : List ℕ) → n ≤ i → spelt_from n i bs ≡ list_all (λ b. eqb b 0) bs
zeros-tested n i [] h = le-leb n i h
zeros-tested n i (b ∷ bs) h = rw (le-ltb i n h, zeros-tested n (i + 1) bs (omega arith))

parts-tested : (n k i : ℕ) (bs : List ℕ) → n ≡ i + k → k ≤ length bs
    → (list_all name_byte (take k bs) && list_all (λ b. eqb b 0) (drop k bs)) ≡ spelt_from n i bs
parts-tested n zero i bs is few = sym (zeros-tested n i bs (omega arith))
parts-tested n (suc k) i [] is few = absurd (omega arith)
parts-tested n (suc k) i (b ∷ bs) is few =
    rw (lt-ltb i n (omega arith), ← parts-tested n k (i + 1) bs (omega arith) (omega arith))
    (and_assoc (name_byte b) (list_all name_byte (take k bs)) (list_all (λ b. eqb b 0) (drop k bs)))

pub spelt-tested : (n : ℕ) (bs : List ℕ) → n ≤ length bs → (list_all name_byte (take n bs) && list_all (λ b. eqb b 0) (drop n bs)) ≡ spelt n bs
spelt-tested n bs few = parts-tested n n 0 bs (omega arith) few

-- ---- equality

-- std's test of two lists
pub pointwise_same : (a b : List ℕ) → pointwise eqb a b ≡ same_bytes a b
pointwise_same [] [] = refl
pointwise_same [] (y ∷ b) = refl
pointwise_same (x ∷ a) [] = refl
pointwise_same (x ∷ a) (y ∷ b) = rw (pointwise_same a b)

bytes-equal : (a b : List ℕ) → same_bytes a b ≡ true → a ≡ b
bytes-equal [] [] e = refl
bytes-equal [] (y ∷ b) e = let z : ◌≡◌ {A = ℕ} 0 1 = cc in absurd (omega arith)
bytes-equal (x ∷ a) [] e = let z : ◌≡◌ {A = ℕ} 0 1 = cc in absurd (omega arith)
bytes-equal (x ∷ a) (y ∷ b) e =
    cc (eqb-true x y (both_left (eqb x y) (same_bytes a b) e), bytes-equal a b (both_right (eqb x y) (same_bytes a b) e))

bytes_same : (a : List ℕ) → same_bytes a a ≡ true
bytes_same [] = refl
bytes_same (x ∷ a) = rw (eq-eqb x x refl) (bytes_same a)

pub same-bytes-exact : (a b : List ℕ) → (same_bytes a b ≡ true) ↔ (a ≡ b)
same-bytes-exact a b = (bytes-equal a b, λ e. subst (λ (c : List ℕ). same_bytes a c ≡ true) e (bytes_same a))

-- two names are the same by the test exactly where they are equal in length and in all bytes
pub same-name-exact : (a b : Name) → (same_name a b ≡ true) ↔ (a ≡ b)
unfolding same_name
same-name-exact a b = (equal, λ e. subst (λ (c : Name). same_name a c ≡ true) e (rw (eq-eqb a.len a.len refl) (bytes_same a.bytes)))
  where
    equal : same_name a b ≡ true → a ≡ b
    equal e =
        let l = eqb-true a.len b.len (both_left (eqb a.len b.len) (same_bytes a.bytes b.bytes) e) in
        let s = bytes-equal a.bytes b.bytes (both_right (eqb a.len b.len) (same_bytes a.bytes b.bytes) e) in
        let f : ◌≡◌ {A = Name} (record { len = a.len; bytes = a.bytes }) (record { len = b.len; bytes = b.bytes }) = cc (l, s) in
        f
