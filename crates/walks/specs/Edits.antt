-- Edits of a list: document 01, "Edits on a held plan". Items are known by a key: a task by its name.
--
--   Keyed A K           items of A, their keys, and the test that two keys are equal
--   Edit A K            an item to add, a key to withdraw, an item to put in the place of the one with its key
--   edited N e items    the items after it: one more at the end, one less, or one in the place of another
--   edited_key N e       the key that it is about
use Rattle.std.specs.Prelude.{Bool, cond, List, [], ◌∷◌, ◌++◌}

pub record Keyed (A K : Type 0) : Type 0 where
  pub key : A → K
  pub same : K → K → Bool

pub data Edit (A K : Type 0) : Type 0 where
  add : A → Edit A K
  withdraw : K → Edit A K
  retime : A → Edit A K

module _ {A K : Type 0} (N : Keyed A K) where
  abbrev pub without : K → List A → List A
  without k [] = []
  without k (a ∷ l) = cond (N.same k (N.key a)) l (a ∷ without k l)

  abbrev pub replaced : A → List A → List A
  replaced b [] = []
  replaced b (a ∷ l) = cond (N.same (N.key b) (N.key a)) (b ∷ l) (a ∷ replaced b l)

  abbrev pub edited : Edit A K → List A → List A
  edited (add a) items = items ++ (a ∷ [])
  edited (withdraw k) items = without k items
  edited (retime a) items = replaced a items

  abbrev pub edited_key : Edit A K → K
  edited_key (add a) = N.key a
  edited_key (withdraw k) = k
  edited_key (retime a) = N.key a
