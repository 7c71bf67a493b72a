-- Text as bytes, and what a writer leaves in a lent buffer: document 01, "Sheet".
--
--   ended_by b f             the bytes f, ended by the byte b
--   text_line fs             the fields fs, parted by tabs, ended by a newline
--   decimal n             the digits of n, as far as 64 bits go
--   Wrote old at vs r new vs is written from the place `at` on, as far as the buffer goes, and r is the place behind it
--   Writes post text most a writer, known by its calls: each writes the text at the front of whatever it is lent, and the text has at most `most` bytes
--   over text old         what a buffer holds after a text: the text and then what it held, or what it held where it is too short
use Rattle.std.specs.Prelude.{◌≡◌, cond, List, [], ◌∷◌, ◌++◌, ℕ, zero, suc, ◌+◌, ◌/◌, ◌%◌, ◌≤◌, ltb, leb, length, drop}
use Rattle.std.specs.Borrow.{MutBor}
use Rattle.std.proofs.lemmas.List.Edits.{sets}
use Rattle.lines.specs.Lines.{newline, tab}

abbrev pub ended_by : ℕ → List ℕ → List ℕ
ended_by b f = f ++ (b ∷ [])

abbrev pub text_line : List (List ℕ) → List ℕ
text_line [] = newline ∷ []
text_line (f ∷ []) = ended_by newline f
text_line (f ∷ g ∷ fs) = ended_by tab f ++ text_line (g ∷ fs)

-- the digits of n, at most k of them, in front of those that stand
unfoldable pub digits_onto : ℕ → ℕ → List ℕ → List ℕ
digits_onto zero n ds = ds
digits_onto (suc k) n ds = cond (ltb n 10) ((48 + n) ∷ ds) (digits_onto k (n / 10) ((48 + n % 10) ∷ ds))

abbrev pub decimal : ℕ → List ℕ
decimal n = digits_onto 20 n []

pub record Wrote (old : List ℕ) (at : ℕ) (vs : List ℕ) (r : ℕ) (new : List ℕ) : Type 0 where
  pub place : r ≡ at + length vs
  pub bytes : new ≡ sets old at vs

abbrev pub Writes : (MutBor (List ℕ) → ℕ → MutBor (List ℕ) → Type 0) → List ℕ → ℕ → Type 0
Writes post text most = (lent left : MutBor (List ℕ)) (r : ℕ) → post lent r left → Wrote lent.now 0 text r left.now × (r ≤ most)

unfoldable pub over : List ℕ → List ℕ → List ℕ
over text old = cond (leb (length text) (length old)) (text ++ drop (length text) old) old
