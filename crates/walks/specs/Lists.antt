-- Words about lists that the other files use.
--
--   Lacks key k l     no element of l has the key k
--   Apart key l       no two elements have one key
--   Chain R l         each element has R with all that stand behind it
--   keep t a l        a in front of l, where t is true
--   only test l       the elements that pass the test, in order
--   sum_by f l         f summed over l
use Rattle.std.specs.Prelude.{◌≡◌, Bool, true, false, List, [], ◌∷◌, ℕ, ◌+◌}
use Rattle.demand.specs.Sizes.{Each}

abbrev pub Lacks : {A K : Type 0} → (A → K) → K → List A → Type 0
Lacks key k l = Each (λ a. key a ≡ k → ⊥) l

abbrev pub Apart : {A K : Type 0} → (A → K) → List A → Type 0
Apart key [] = Unit {0}
Apart key (a ∷ l) = Lacks key (key a) l × Apart key l

abbrev pub Chain : {A : Type 0} → (A → A → Type 0) → List A → Type 0
Chain R [] = Unit {0}
Chain R (a ∷ l) = Each (R a) l × Chain R l

abbrev pub keep : {A : Type 0} → Bool → A → List A → List A
keep true a l = a ∷ l
keep false a l = l

abbrev pub only : {A : Type 0} → (A → Bool) → List A → List A
only test [] = []
only test (a ∷ l) = keep (test a) a (only test l)

abbrev pub sum_by : {A : Type 0} → (A → ℕ) → List A → ℕ
sum_by f [] = 0
sum_by f (a ∷ l) = f a + sum_by f l
