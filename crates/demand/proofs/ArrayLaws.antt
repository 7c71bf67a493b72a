-- Laws of what lies in an array of numbers, some to a place.
-- Assumes nothing.
--
--   firsts-length, firsts_at, firsts-take, firsts_same      f of 0 to n - 1
--   firsts-last, firsts-front       what stands behind the others, and the others
--   sets-before, sets-there         numbers written from a place on
--   sets-seven            seven numbers written one by one
use mathlib.Core.Path.{◌≡◌, refl, sym, ap, subst, ◌∙◌}
use mathlib.Core.List.{List, [], ◌∷◌, ◌++◌}
use Prim.Native.Nat.{ℕ, zero, suc, ◌+◌, ◌≤◌, ◌<◌}
use native.Mathlib.Nat.{not-suc-le-zero}
use native.Mathlib.Decide.{dec_lt}
use native.Mathlib.Omega.{arith}
use lib.ListN.{length, take, drop, get_or, set, length-append, get_or-append}
use lib.Seq.{sets, sets-eq, length-take-le, get_or-take, get_or-append-add, get_or-append_seam, take-append-le, take_all, get_or_at, take_at}
use Rattle.demand.specs.Lists.{firsts}

-- ---- the first n

module _ {A : Type 0} (f : ℕ → A) where
  pub firsts-length : (n : ℕ) → length (firsts f n) ≡ n
  firsts-length zero = refl
  firsts-length (suc n) = rw (length-append, firsts-length n) (omega arith)

  pub firsts_at : (n i : ℕ) (d : A) → i < n → get_or (firsts f n) i d ≡ f i
  firsts_at zero i d h = absurd (not-suc-le-zero h)
  firsts_at (suc n) i d h = elim (dec_lt i n) [
    | yes below ↦ get_or-append (firsts f n) (f n ∷ []) d i (omega (arith, firsts-length n)) ∙ firsts_at n i d below
    | no last ↦ (let e : i ≡ length (firsts f n) = omega (arith, firsts-length n) in
        rw e (get_or-append_seam (firsts f n) (f n) [] d ∙ ap f (sym (firsts-length n))))
  ]

  pub firsts-take : (n i : ℕ) → i ≤ n → take i (firsts f n) ≡ firsts f i
  firsts-take zero i h = let e : i ≡ 0 = omega arith in rw e
  firsts-take (suc n) i h = elim (dec_lt i (suc n)) [
    | yes below ↦ take-append-le i (firsts f n) (f n ∷ []) (omega (arith, firsts-length n)) ∙ firsts-take n i (omega arith)
    | no last ↦ (let e : i ≡ suc n = omega arith in rw e (take_all (suc n) (firsts f (suc n)) (omega (arith, firsts-length (suc n)))))
  ]

pub firsts_same : {A : Type 0} (f g : ℕ → A) (n : ℕ) → ((i : ℕ) → i < n → f i ≡ g i) → firsts f n ≡ firsts g n
firsts_same f g zero same = refl
firsts_same f g (suc n) same = rw (firsts_same f g n (λ i h. same i (omega arith)), same n (omega arith))

-- one more behind n others that are as long
module _ {A : Type 0} (f : ℕ → A) (n : ℕ) (l : List A) (x : A) (long : length l ≡ n) (e : firsts f (n + 1) ≡ l ++ (x ∷ [])) where
  pub firsts-last : f n ≡ x
  firsts-last = sym (firsts_at f (n + 1) n x (omega arith)) ∙ (ap (λ (k : List A). get_or k n x) e ∙ get_or_at l x [] x n long)

  pub firsts-front : firsts f n ≡ l
  firsts-front = sym (firsts-take f (n + 1) n (omega arith)) ∙ (ap (λ (k : List A). take n k) e ∙ take_at l (x ∷ []) n long)

-- ---- numbers written from a place on

module _ (a : List ℕ) (at : ℕ) (vs : List ℕ) (room : at + length vs ≤ length a) where
  head-long : length (take at a) ≡ at
  head-long = length-take-le at a (omega arith)

  sets-within : (k : ℕ) → k < at + length vs → get_or (sets a at vs) k 0 ≡ get_or (take at a ++ vs) k 0
  sets-within k h =
      ap (λ (l : List ℕ). get_or l k 0) (sets-eq vs a at room)
      ∙ get_or-append (take at a ++ vs) (drop (at + length vs) a) 0 k (omega (arith, head-long, length-append (take at a) vs))

  pub sets-before : (k : ℕ) → k < at → get_or (sets a at vs) k 0 ≡ get_or a k 0
  sets-before k h = sets-within k (omega arith) ∙ (get_or-append (take at a) vs 0 k (omega (arith, head-long)) ∙ get_or-take at a k 0 h)

  pub sets-there : (k : ℕ) → k < length vs → get_or (sets a at vs) (at + k) 0 ≡ get_or vs k 0
  sets-there k h =
      sets-within (at + k) (omega arith) ∙ subst (λ (m : ℕ). get_or (take at a ++ vs) (m + k) 0 ≡ get_or vs k 0) head-long (get_or-append-add (take at a) vs k 0)

-- seven numbers written one by one
pub sets-seven : (a : List ℕ) (at u v w x y z o : ℕ)
    → set (set (set (set (set (set (set a at u) (at + 1) v) (at + 2) w) (at + 3) x) (at + 4) y) (at + 5) z) (at + 6) o
    ≡ sets a at (u ∷ v ∷ w ∷ x ∷ y ∷ z ∷ o ∷ [])
sets-seven a at u v w x y z o =
    let e1 : at + 1 ≡ suc at = omega arith in
    let e2 : at + 2 ≡ suc (suc at) = omega arith in
    let e3 : at + 3 ≡ suc (suc (suc at)) = omega arith in
    let e4 : at + 4 ≡ suc (suc (suc (suc at))) = omega arith in
    let e5 : at + 5 ≡ suc (suc (suc (suc (suc at)))) = omega arith in
    let e6 : at + 6 ≡ suc (suc (suc (suc (suc (suc at))))) = omega arith in
    rw (e1, e2, e3, e4, e5, e6)
