-- Words about lists that the other files use.
--
--   firsts f n           f of 0 to n - 1
--   padded n z xs        xs in n places, with z in those that are left
use Rattle.std.specs.Prelude.{List, [], ◌∷◌, ◌++◌, ℕ, zero, suc}

abbrev pub firsts : {A : Type 0} → (ℕ → A) → ℕ → List A
firsts f zero = []
firsts f (suc n) = firsts f n ++ (f n ∷ [])

unfoldable pub padded : {A : Type 0} → ℕ → A → List A → List A
padded zero z xs = []
padded (suc n) z [] = z ∷ padded n z []
padded (suc n) z (x ∷ xs) = x ∷ padded n z xs
