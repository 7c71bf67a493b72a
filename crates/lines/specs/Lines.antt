-- Lines, fields, numbers and names: document 01, "Sheet" and "Sizes". All is said of lists of bytes.
--
--   bytes_of "text"          the bytes of an ASCII text
--   up_to b s, beyond b s    the run of s up to its first byte b, and the runs beyond it: lines by newlines, fields by tabs
--   runs b s, fields s       all runs of s; its fields
--   rest_of b s              what stands beyond the first byte b of s, if it is there
--   until_of b s             the run of s up to its first byte b, and what stands beyond it
--   until_shown a            the bytes of the two slices that `until` answers with
--   runs_in b r              the runs of what stands beyond a run, if anything does
--   is_number f              1 to 7 decimal digits, no leading zero but for 0 itself
--   value_of f               the number that they stand for
--   name_of f                the name with the bytes f: their number, the bytes, and zeros to 24
--   is_name f                the rule of names, crate `task`'s `formed`, holds of it
--   name_in f                the name that the field f is, if it is one
use Rattle.std.specs.Prelude.{Bool, true, cond, not, ◌&&◌, List, [], ◌∷◌, ℕ, ◌+◌, ◌-◌, ◌*◌, eqb, length, Option, Some, None}
use Rattle.std.specs.Option.{option_map}
use Rattle.std.specs.Borrow.{Bor}
use Prim.Native.Char.{code}
use Prim.Native.String.{String, [] as done, ◌∷◌ as ◌then◌}
use Rattle.task.specs.declared.Name.{Name}
use Rattle.demand.specs.Lists.{padded}
use Rattle.task.specs.Names.{name_most, between, formed}

-- ---- lines and fields

abbrev pub bytes_of : String → List ℕ
bytes_of done = []
bytes_of (c then s) = code c ∷ bytes_of s

abbrev pub newline : ℕ
newline = 10

abbrev pub tab : ℕ
tab = 9

unfoldable pub up_to : ℕ → List ℕ → List ℕ
up_to b [] = []
up_to b (x ∷ s) = cond (eqb x b) [] (x ∷ up_to b s)

-- as many as there are bytes b: what stands behind the last is a run too, if only an empty one
unfoldable pub beyond : ℕ → List ℕ → List (List ℕ)
beyond b [] = []
beyond b (x ∷ s) = cond (eqb x b) (up_to b s ∷ beyond b s) (beyond b s)

abbrev pub runs : ℕ → List ℕ → List (List ℕ)
runs b s = up_to b s ∷ beyond b s

-- an empty rest, where b stands last, is no absence: a line that ends in a tab has one field more, and it is empty
unfoldable pub rest_of : ℕ → List ℕ → Option (List ℕ)
rest_of b [] = None
rest_of b (x ∷ s) = cond (eqb x b) (Some s) (rest_of b s)

abbrev pub until_of : ℕ → List ℕ → List ℕ × Option (List ℕ)
until_of b s = (up_to b s, rest_of b s)

abbrev pub until_shown : Bor (List ℕ) × Option (Bor (List ℕ)) → List ℕ × Option (List ℕ)
until_shown a = (a.0.now, option_map (λ r. r.now) a.1)

-- those that stand beyond the first byte b, if it is there
abbrev pub runs_in : ℕ → Option (Bor (List ℕ)) → List (List ℕ)
runs_in b None = []
runs_in b (Some r) = runs b r.now

abbrev pub fields : List ℕ → List (List ℕ)
fields s = runs tab s

-- ---- numbers

abbrev pub digits_most : ℕ
digits_most = 7

abbrev pub is_digit : ℕ → Bool
is_digit b = between 48 57 b

abbrev pub every : {A : Type 0} → (A → Bool) → List A → Bool
every ok [] = true
every ok (x ∷ xs) = ok x && every ok xs

-- no zero leads, but for 0 itself
abbrev pub unled : List ℕ → Bool
unled [] = true
unled (d ∷ []) = true
unled (d ∷ e ∷ f) = not (eqb d 48)

unfoldable pub is_number : List ℕ → Bool
is_number f = between 1 digits_most (length f) && unled f && every is_digit f

-- the number v with the digits f behind it
abbrev pub value_from : ℕ → List ℕ → ℕ
value_from v [] = v
value_from v (d ∷ f) = value_from (v * 10 + (d - 48)) f

abbrev pub value_of : List ℕ → ℕ
value_of f = value_from 0 f

-- ---- names

-- more than 24 bytes give a length that `formed` refuses
unfoldable pub name_of : List ℕ → Name
name_of f = record { len = length f; bytes = padded name_most 0 f }

unfoldable pub is_name : List ℕ → Bool
is_name f = formed (name_of f)

abbrev pub name_in : List ℕ → Option Name
name_in f = cond (is_name f) (Some (name_of f)) None
