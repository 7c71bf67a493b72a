-- Names: document 01, "Sizes". A name has 1..24 bytes from ASCII letters, digits, hyphen and full stop. Names are equal when their lengths and
-- all their bytes are equal; case counts. In a struct a name is its length, its bytes, and zeros to 24.
--
--   no_name             no byte: what a struct has where nothing is named
--   name_byte b         b may stand in a name
--   spelt n bs         n name bytes, and zeros behind them
--   Formed n           the name n has its form
--   formed n           the same as a test; `proofs/NameLaws.antt` has that it holds exactly where the name has its form
--   same_name a b       the names are equal; `proofs/NameLaws.antt` has that this is equality of the names
use Rattle.std.specs.Prelude.{Bool, true, false, cond, ◌&&◌, ◌||◌, List, [], ◌∷◌, ◌≡◌, ℕ, ◌+◌, ◌≤◌, leb, ltb, eqb, length, take, drop, replicate}
use Rattle.demand.specs.Sizes.{Each}
use Rattle.task.specs.declared.Name.{Name}

abbrev pub name_most : ℕ
name_most = 24

abbrev pub no_name : Name
no_name = record { len = 0; bytes = replicate name_most 0 }

abbrev pub between : ℕ → ℕ → ℕ → Bool
between low high b = leb low b && leb b high

-- a to z, A to Z, 0 to 9, hyphen, full stop
unfoldable pub name_byte : ℕ → Bool
name_byte b = between 97 122 b || between 65 90 b || between 48 57 b || eqb b 45 || eqb b 46

-- In a struct there are 24 bytes, so a length within them is 24 at the most.
pub record Formed (n : Name) : Type 0 where
  pub some : 1 ≤ n.len
  pub few : n.len ≤ length n.bytes
  pub spells : Each (λ b. name_byte b ≡ true) (take n.len n.bytes)
  pub zeros : Each (λ b. b ≡ 0) (drop n.len n.bytes)

-- b may stand at place i of a name of length n in its 24 bytes
abbrev pub fits_at : ℕ → ℕ → ℕ → Bool
fits_at b i n = cond (ltb i n) (name_byte b) (eqb b 0)

-- the bytes from place i on
abbrev pub spelt_from : ℕ → ℕ → List ℕ → Bool
spelt_from n i [] = leb n i
spelt_from n i (b ∷ bs) = fits_at b i n && spelt_from n (i + 1) bs

abbrev pub spelt : ℕ → List ℕ → Bool
spelt n bs = spelt_from n 0 bs

unfoldable pub formed : Name → Bool
formed n = leb 1 n.len && spelt n.len n.bytes

abbrev pub same_bytes : List ℕ → List ℕ → Bool
same_bytes [] [] = true
same_bytes [] (b ∷ bs) = false
same_bytes (a ∷ as') [] = false
same_bytes (a ∷ as') (b ∷ bs) = eqb a b && same_bytes as' bs

unfoldable pub same_name : Name → Name → Bool
same_name a b = eqb a.len b.len && same_bytes a.bytes b.bytes
