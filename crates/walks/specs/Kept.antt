-- What demand 3's second and third sentences speak of, for any walk. Items are known by a key: a task by its name.
--
--   of_key N k log         what is placed of the item with the key k, in placement order
--   Among N k l           an item of l has the key k
--   Before N k b l        b comes before each item in l with the key k
--   Behind N k l p b r    l is p, then b, then r, and no item with the key k is one of b and r: where l holds k, it comes before
--   Meet W p p'           the walks over p and p' come to the same state
use Rattle.std.specs.Prelude.{◌≡◌, List, ◌∷◌, ◌++◌}
use Rattle.demand.specs.Sizes.{SomeOf}
use Rattle.walks.specs.Lists.{only}
use Rattle.walks.specs.Way.{Placed, Way, fine, walk_over}
use Rattle.walks.specs.Edits.{Keyed}

module _ {A K : Type 0} (N : Keyed A K) where
  abbrev pub of_key : K → List (Placed A) → List (Placed A)
  of_key k log = only (λ e. N.same k (N.key e.item)) log

  abbrev pub Among : K → List A → Type 0
  Among k l = SomeOf (λ a. N.key a ≡ k) l

  abbrev pub Before : K → K → List A → Type 0
  Before k b l = (p q : List A) (a : A) → l ≡ p ++ (a ∷ q) → N.key a ≡ k → Among b p

pub record Behind {A K : Type 0} (N : Keyed A K) (k : K) (l p : List A) (b : A) (r : List A) : Type 0 where
  pub order : l ≡ p ++ (b ∷ r)
  pub later : Among N k (b ∷ r) → ⊥

pub record Meet {A : Type 0} (W : Way A) (p p' : List A) : Type 0 where
  pub at : W.State
  pub old-log : List (Placed A)
  pub new-log : List (Placed A)
  pub old-walk : walk_over W p ≡ fine at old-log
  pub new-walk : walk_over W p' ≡ fine at new-log
