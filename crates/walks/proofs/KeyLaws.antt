-- Items that are known by a key: the test of keys, and keys among items.
-- Assumes nothing.
--
--   Exact N                   the test of keys tells equal keys from others
--   same-other, same-own      what it tells
--   among-key, among-middle, among_first, among-end      a key that is among items
--   apart-first, apart-last   a key of one part of a list is not in the other, where keys are apart
use mathlib.Core.Path.{◌≡◌, refl, sym, ◌∙◌, subst}
use mathlib.Core.Bool.{Bool, true, false}
use mathlib.Core.Logic.{inl, inr}
use mathlib.Core.List.{List, [], ◌∷◌, ◌++◌}
use Rattle.demand.specs.Sizes.{Each}
use Rattle.demand.proofs.Sums.{each-imp}
use Rattle.walks.specs.Lists.{Lacks, Apart}
use Rattle.walks.specs.Edits.{Keyed}
use Rattle.walks.specs.Kept.{Among}
use Rattle.walks.proofs.ListLaws.{each-parts}

pub record Exact {A K : Type 0} (N : Keyed A K) : Type 0 where
  pub told : (k j : K) → N.same k j ≡ true → k ≡ j
  pub untold : (k j : K) → N.same k j ≡ false → k ≡ j → ⊥

-- ---- the test of keys

module _ {A K : Type 0} (N : Keyed A K) (exact : Exact N) (k j : K) where
  pub same-other : (k ≡ j → ⊥) → N.same k j ≡ false
  same-other never = by (N.same k j) refl
    where
      by : (t : Bool) → N.same k j ≡ t → t ≡ false
      by true h = absurd (never (exact.told k j h))
      by false h = refl

  pub same-own : k ≡ j → N.same k j ≡ true
  same-own own = by (N.same k j) refl
    where
      by : (t : Bool) → N.same k j ≡ t → t ≡ true
      by true h = refl
      by false h = absurd (exact.untold k j h own)

-- ---- keys among items

module _ {A K : Type 0} (N : Keyed A K) where
  pub among-key : (Q : K → Type 0) {b : K} (l : List A) → Among N b l → Each (λ a. Q (N.key a)) l → Q b
  among-key Q [] m all = absurd m
  among-key Q (a ∷ l) (inl e) all = subst Q e all.0
  among-key Q (a ∷ l) (inr m) all = among-key Q l m all.1

  pub among-middle : (k : List A) (a : A) (l : List A) → Among N (N.key a) (k ++ (a ∷ l))
  among-middle [] a l = inl refl
  among-middle (b ∷ k) a l = inr (among-middle k a l)

  pub among_first : (b : K) (k l : List A) → Among N b k → Among N b (k ++ l)
  among_first b [] l m = absurd m
  among_first b (a ∷ k) l (inl e) = inl e
  among_first b (a ∷ k) l (inr m) = inr (among_first b k l m)

  pub among-end : (b : K) (k l : List A) → Among N b l → Among N b (k ++ l)
  among-end b [] l m = m
  among-end b (a ∷ k) l m = inr (among-end b k l m)

  pub apart-first : (b : K) (k l : List A) → Apart N.key (k ++ l) → Among N b k → Lacks N.key b l
  apart-first b [] l apart m = absurd m
  apart-first b (a ∷ k) l apart (inl e) =
      each-imp (λ u. N.key u ≡ N.key a → ⊥) (λ u. N.key u ≡ b → ⊥) (λ u never same. never (same ∙ sym e)) l
      (each-parts (λ u. N.key u ≡ N.key a → ⊥) k l apart.0).1
  apart-first b (a ∷ k) l apart (inr m) = apart-first b k l apart.1 m

  pub apart-last : (b : K) (k l : List A) → Apart N.key (k ++ l) → Among N b l → Lacks N.key b k
  apart-last b [] l apart m = tt
  apart-last b (a ∷ k) l apart m = (
    (λ same. among-key (λ n. n ≡ N.key a → ⊥) (k ++ l) (among-end b k l m) apart.0 (sym same)),
    apart-last b k l apart.1 m,
  )
