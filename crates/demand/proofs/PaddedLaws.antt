-- Laws of a list in so many places, with one thing in those that are left.
-- Assumes nothing.
--
--   padded-none, padded-length, padded-at, padded-take, padded-cut, padded-put
--   padded-append         it is the list and the others behind it
use mathlib.Core.Path.{◌≡◌, refl, ap}
use mathlib.Core.List.{List, [], ◌∷◌, ◌++◌}
use Prim.Native.Nat.{ℕ, zero, suc, ◌-◌, ◌≤◌, ◌<◌}
use native.Mathlib.Omega.{arith}
use lib.ListN.{length, take, get_or, set, replicate}
use Rattle.demand.specs.Lists.{padded}

module _ {A : Type 0} (z : A) where
  pub padded-none : (n : ℕ) → padded n z [] ≡ replicate n z
  unfolding padded
  padded-none zero = refl
  padded-none (suc n) = ap (λ (l : List A). z ∷ l) (padded-none n)

  pub padded-length : (n : ℕ) (xs : List A) → length (padded n z xs) ≡ n
  unfolding padded
  padded-length zero xs = refl
  padded-length (suc n) [] = ap suc (padded-length n [])
  padded-length (suc n) (x ∷ xs) = ap suc (padded-length n xs)

  pub padded-at : (n : ℕ) (xs : List A) (i : ℕ) → i < n → get_or (padded n z xs) i z ≡ get_or xs i z
  unfolding padded
  padded-at zero xs i low = absurd (omega arith)
  padded-at (suc n) [] zero low = refl
  padded-at (suc n) [] (suc i) low = padded-at n [] i (omega arith)
  padded-at (suc n) (x ∷ xs) zero low = refl
  padded-at (suc n) (x ∷ xs) (suc i) low = padded-at n xs i (omega arith)

  pub padded-take : (n : ℕ) (xs : List A) → length xs ≤ n → take (length xs) (padded n z xs) ≡ xs
  unfolding padded
  padded-take zero [] fits = refl
  padded-take zero (x ∷ xs) fits = absurd (omega arith)
  padded-take (suc n) [] fits = refl
  padded-take (suc n) (x ∷ xs) fits = ap (λ (l : List A). x ∷ l) (padded-take n xs (omega arith))

  -- what stands past the places is left out
  pub padded-cut : (n : ℕ) (xs : List A) → padded n z (take n xs) ≡ padded n z xs
  unfolding padded
  padded-cut zero xs = refl
  padded-cut (suc n) [] = refl
  padded-cut (suc n) (x ∷ xs) = ap (λ (l : List A). x ∷ l) (padded-cut n xs)

  -- one more in the first free place
  pub padded-put : (n : ℕ) (xs : List A) (y : A) → length xs < n → set (padded n z xs) (length xs) y ≡ padded n z (xs ++ (y ∷ []))
  unfolding padded
  padded-put zero xs y low = absurd (omega arith)
  padded-put (suc n) [] y low = refl
  padded-put (suc n) (x ∷ xs) y low = ap (λ (l : List A). x ∷ l) (padded-put n xs y (omega arith))

  pub padded-append : (n : ℕ) (xs : List A) → length xs ≤ n → padded n z xs ≡ xs ++ replicate (n - length xs) z
  unfolding padded
  padded-append zero [] fits = refl
  padded-append zero (x ∷ xs) fits = absurd (omega arith)
  padded-append (suc n) [] fits = let e : suc n - 0 ≡ suc n = omega arith in rw e (padded-none (suc n))
  padded-append (suc n) (x ∷ xs) fits =
      let e : suc n - suc (length xs) ≡ n - length xs = omega arith in
      rw e (ap (λ (l : List A). x ∷ l) (padded-append n xs (omega arith)))
