-- Laws of `Each`, `Apart`, `Chain`, `only` and `sum_by`.
-- Assumes nothing.
--
--   each-join, each-parts, each-only, each-middle     what holds of each, of two lists, of those that pass a test, of one
--   apart-end, apart_snoc, apart-less      keys that are apart, of a list's end, with one more, with one less
--   chain_snoc                 one more at the end
--   only-append, only_none, only-all, only-map     those that pass a test, of two lists, none, all, and of what a list is made into
--   sum-append, sum-map        a sum over two lists, and over what a list is made into
use mathlib.Core.Path.{◌≡◌, refl, sym, ap}
use mathlib.Core.Bool.{Bool, true, false}
use mathlib.Core.List.{List, [], ◌∷◌, ◌++◌, map}
use Prim.Native.Nat.{ℕ, ◌+◌}
use native.Mathlib.Omega.{arith}
use Rattle.demand.specs.Sizes.{Each}
use Rattle.demand.proofs.Sums.{each_snoc}
use Rattle.walks.specs.Lists.{Lacks, Apart, Chain, keep, only, sum_by}

-- ---- Each

module _ {A : Type 0} (P : A → Type 0) where
  pub each-join : (k l : List A) → Each P k → Each P l → Each P (k ++ l)
  each-join [] l h g = g
  each-join (a ∷ k) l h g = (h.0, each-join k l h.1 g)

  pub each-parts : (k l : List A) → Each P (k ++ l) → Each P k × Each P l
  each-parts [] l h = (tt, h)
  each-parts (a ∷ k) l h = let r = each-parts k l h.1 in ((h.0, r.0), r.1)

  pub each-middle : (k : List A) (a : A) (l : List A) → Each P (k ++ (a ∷ l)) → P a
  each-middle k a l h = (each-parts k (a ∷ l) h).1.0

  pub each-only : (test : A → Bool) (l : List A) → Each P l → Each P (only test l)
  each-only test [] h = tt
  each-only test (a ∷ l) h = by (test a) (each-only test l h.1)
    where
      by : (t : Bool) → Each P (only test l) → Each P (keep t a (only test l))
      by true r = (h.0, r)
      by false r = r

-- ---- Apart

module _ {A K : Type 0} (key : A → K) where
  pub apart-end : (k l : List A) → Apart key (k ++ l) → Apart key l
  apart-end [] l h = h
  apart-end (a ∷ k) l h = apart-end k l h.1

  pub apart_snoc : (l : List A) (a : A) → Apart key l → Lacks key (key a) l → Apart key (l ++ (a ∷ []))
  apart_snoc [] a h new = (tt, tt)
  apart_snoc (b ∷ l) a h new = (each_snoc (λ c. key c ≡ key b → ⊥) l a h.0 (λ same. new.0 (sym same)), apart_snoc l a h.1 new.1)

  pub apart-less : (k : List A) (a : A) (l : List A) → Apart key (k ++ (a ∷ l)) → Apart key (k ++ l)
  apart-less [] a l h = h.1
  apart-less (b ∷ k) a l h =
      let parts = each-parts (λ c. key c ≡ key b → ⊥) k (a ∷ l) h.0 in
      (each-join (λ c. key c ≡ key b → ⊥) k l parts.0 parts.1.1, apart-less k a l h.1)

-- ---- Chain

pub chain_snoc : {A : Type 0} (R : A → A → Type 0) (l : List A) (b : A) → Chain R l → Each (λ a. R a b) l → Chain R (l ++ (b ∷ []))
chain_snoc R [] b h new = (tt, tt)
chain_snoc R (a ∷ l) b h new = (each_snoc (R a) l b h.0 new.0, chain_snoc R l b h.1 new.1)

-- ---- only

module _ {A : Type 0} (test : A → Bool) where
  pub only-append : (k l : List A) → only test (k ++ l) ≡ only test k ++ only test l
  only-append [] l = refl
  only-append (a ∷ k) l = by (test a) (only-append k l)
    where
      by : (t : Bool) → only test (k ++ l) ≡ only test k ++ only test l → keep t a (only test (k ++ l)) ≡ keep t a (only test k) ++ only test l
      by true h = ap (λ (z : List A). a ∷ z) h
      by false h = h

  pub only_none : (l : List A) → Each (λ a. test a ≡ false) l → only test l ≡ []
  only_none [] h = refl
  only_none (a ∷ l) h = rw h.0 (only_none l h.1)

  pub only-all : (l : List A) → Each (λ a. test a ≡ true) l → only test l ≡ l
  only-all [] h = refl
  only-all (a ∷ l) h = rw (h.0, only-all l h.1)

pub only-map : {A B : Type 0} (test : B → Bool) (f : A → B) (l : List A) → only test (map f l) ≡ map f (only (λ a. test (f a)) l)
only-map test f [] = refl
only-map {A} {B} test f (a ∷ l) = by (test (f a)) (only-map test f l)
  where
    by : (t : Bool) → only test (map f l) ≡ map f (only (λ a. test (f a)) l) → keep t (f a) (only test (map f l)) ≡ map f (keep t a (only (λ a. test (f a)) l))
    by true h = ap (λ (z : List B). f a ∷ z) h
    by false h = h

-- ---- sum_by

pub sum-append : {A : Type 0} (f : A → ℕ) (k l : List A) → sum_by f (k ++ l) ≡ sum_by f k + sum_by f l
sum-append f [] l = omega arith
sum-append f (a ∷ k) l = omega (arith, sum-append f k l)

pub sum-map : {A B : Type 0} (f : B → ℕ) (g : A → B) (l : List A) → sum_by f (map g l) ≡ sum_by (λ a. f (g a)) l
sum-map f g [] = refl
sum-map f g (a ∷ l) = omega (arith, sum-map f g l)
