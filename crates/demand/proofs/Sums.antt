-- Laws of sums and of `Each` over a list of pieces: each stated once, for any figure.
-- Assumes nothing.
--
--   total_mono, total-add    a bound of each piece's figure is one of the sums
--   total-snoc               one piece more
--   total-same               equal figures have equal sums
--   each_at, each_snoc, each-front, each_last, each_map, each-imp
use mathlib.Core.Path.{◌≡◌, refl}
use mathlib.Core.List.{List, [], ◌∷◌, ◌++◌, map}
use Prim.Native.Nat.{ℕ, zero, suc, ◌+◌, ◌≤◌, ◌<◌, zero-le}
use native.Mathlib.Nat.{not-suc-le-zero, le_of_suc-le-suc}
use lib.ListN.{length, take, get_or}
use native.Mathlib.Omega.{arith}
use Rattle.demand.specs.declared.Charged.{Charged}
use Rattle.demand.specs.Sizes.{Each}
use Rattle.demand.specs.Demand.{total}

module _ (P : Charged → Type 0) (f g h : Charged → ℕ) (step : (q : Charged) → P q → f q ≤ g q + h q) where
  pub total-add : (qs : List Charged) → Each P qs → total f qs ≤ total g qs + total h qs
  total-add [] ok = zero-le
  total-add (q ∷ qs) ok = omega (arith, step q ok.0, total-add qs ok.1)

module _ (f g : Charged → ℕ) (step : (q : Charged) → f q ≤ g q) where
  pub total_mono : (qs : List Charged) → total f qs ≤ total g qs
  total_mono [] = zero-le
  total_mono (q ∷ qs) = omega (arith, step q, total_mono qs)

pub total-same : (f g : Charged → ℕ) → ((q : Charged) → f q ≡ g q) → (qs : List Charged) → total f qs ≡ total g qs
total-same f g same [] = refl
total-same f g same (q ∷ qs) = omega (arith, same q, total-same f g same qs)

pub total-snoc : (f : Charged → ℕ) (qs : List Charged) (q : Charged) → total f (qs ++ (q ∷ [])) ≡ total f qs + f q
total-snoc f [] q = omega arith
total-snoc f (p ∷ qs) q = omega (arith, total-snoc f qs q)

module _ {A : Type 0} (P : A → Type 0) where
  pub each_at : (n : ℕ) (l : List A) → Each P (take n l) → (i : ℕ) (d : A) → i < n → i < length l → P (get_or l i d)
  each_at zero l ok i d h k = absurd (not-suc-le-zero h)
  each_at (suc n) [] ok i d h k = absurd (not-suc-le-zero k)
  each_at (suc n) (a ∷ l) ok zero d h k = ok.0
  each_at (suc n) (a ∷ l) ok (suc i) d h k = each_at n l ok.1 i d (le_of_suc-le-suc h) (le_of_suc-le-suc k)

  pub each_snoc : (ps : List A) (p : A) → Each P ps → P p → Each P (ps ++ (p ∷ []))
  each_snoc [] p ok h = (h, tt)
  each_snoc (q ∷ ps) p ok h = (ok.0, each_snoc ps p ok.1 h)

  pub each-front : (ps : List A) (p : A) → Each P (ps ++ (p ∷ [])) → Each P ps
  each-front [] p ok = tt
  each-front (q ∷ ps) p ok = (ok.0, each-front ps p ok.1)

  pub each_last : (ps : List A) (p : A) → Each P (ps ++ (p ∷ [])) → P p
  each_last [] p ok = ok.0
  each_last (q ∷ ps) p ok = each_last ps p ok.1

module _ {A B : Type 0} (P : A → Type 0) (Q : B → Type 0) (f : A → B) (step : (a : A) → P a → Q (f a)) where
  pub each_map : (ps : List A) → Each P ps → Each Q (map f ps)
  each_map [] ok = tt
  each_map (p ∷ ps) ok = (step p ok.0, each_map ps ok.1)

module _ {A : Type 0} (P Q : A → Type 0) (step : (a : A) → P a → Q a) where
  pub each-imp : (ps : List A) → Each P ps → Each Q ps
  each-imp [] ok = tt
  each-imp (p ∷ ps) ok = (step p ok.0, each-imp ps ok.1)
