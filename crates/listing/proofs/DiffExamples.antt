-- The difference listing of two small plans whole, by the definitions: document 02, E3. So the words, the fields and their order are as docs/LISTINGS.md has them.
-- Assumes nothing.
use mathlib.Core.Path.{◌≡◌, refl}
use mathlib.Core.List.{List, [], ◌∷◌}
use Prim.Native.Nat.{ℕ}
use Rattle.demand.specs.declared.Kind.{Kind}
use Rattle.demand.specs.declared.Kind.TheVariants.{Whole, First, Last}
use Rattle.walks.specs.Way.{Placed}
use Rattle.lines.specs.Lines.{bytes_of}
use Rattle.listing.specs.Text.{digits_onto}
use Rattle.listing.specs.Diff.{same_piece, moved_names, diff_line, diff_head, diff_text}

-- a piece on a core, from 0, of a task of that name, with eight figures of which no two are equal
piece : ℕ → List ℕ → Kind → ℕ → Placed (List ℕ)
piece q n k x = record { on = q; item = n; piece = record { kind = k; budget = x; window = 20; period = 30; jitter = 4; preempt = 5; migrate = 6 } }

-- `stays` is placed alike by both, on a core that has another order; `cut` was split and is whole now; `ab` went, and `abc` came
was : List (Placed (List ℕ))
was = piece 0 (bytes_of "stays") Whole 1 ∷ piece 0 (bytes_of "cut") First 2 ∷ piece 1 (bytes_of "cut") Last 3 ∷ piece 1 (bytes_of "ab") Whole 7 ∷ []

now : List (Placed (List ℕ))
now = piece 0 (bytes_of "abc") Whole 8 ∷ piece 0 (bytes_of "stays") Whole 1 ∷ piece 0 (bytes_of "cut") Whole 9 ∷ []

moved_listed : diff_text 3 3 was now
    ≡ bytes_of "diff\t3\t3\nonly1\tab\t2\twhole\t7\t20\t30\t4\t5\t6\nonly2\tabc\t1\twhole\t8\t20\t30\t4\t5\t6\nwas\tcut\t1\tfirst\t2\t20\t30\t4\t5\t6\nwas\tcut\t2\tlast\t3\t20\t30\t4\t5\t6\nnow\tcut\t1\twhole\t9\t20\t30\t4\t5\t6\n"
unfolding diff_text diff_head diff_line moved_names same_piece digits_onto was now piece
moved_listed = refl

none-listed : diff_text 0 0 [] [] ≡ bytes_of "diff\t0\t0\n"
unfolding diff_text diff_head moved_names digits_onto
none-listed = refl
