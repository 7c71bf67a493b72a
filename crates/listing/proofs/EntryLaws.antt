-- Laws of entries and rows of a listing.
-- Assumes nothing.
--
--   piece-line             a piece's line, from the fields as they are worked out
--   entry-line             it is the line of the piece's entry
--   entry-lines-append     the lines of two runs of entries
--   row_numbers s q         the piece numbers that are listed on core q; row-long, row-few: how many, and at most
--   row_next               one more of them
--   row_run p q i           the entries of the first i of them
--   seat-more, row-over    one more; and where all that are listed are there, behind the cores before it, the core is
--   listing-with           a plan's listing does not tell its machine
--   listed-none, -more, -few      how many places are listed on no core, on one more, and at most
use mathlib.Core.Path.{◌≡◌, refl, sym, ap, ◌∙◌}
use mathlib.Core.List.{List, [], ◌∷◌, ◌++◌, map, map-map, append_assoc, append-nil}
use Prim.Native.Nat.{ℕ, zero, suc, ◌+◌, ◌*◌, ◌≤◌, ◌<◌, min}
use native.Mathlib.Numerals.{add-one}
use native.Mathlib.Omega.{arith}
use lib.ListN.{length, take, drop, get_or, length-take, length-drop}
use lib.Seq.{take_all}
use Rattle.demand.specs.declared.Piece.{Piece}
use Rattle.demand.specs.declared.Costs.{Costs}
use Rattle.demand.specs.Answer.{charged_time}
use Rattle.task.specs.Tasks.{task_at, cores_most}
use Rattle.plan.specs.declared.Stored.{Stored}
use Rattle.plan.specs.declared.Layout.{Layout}
use Rattle.plan.specs.declared.Plan.{Plan}
use Rattle.plan.specs.Layout.{kept_piece, blank}
use Rattle.plan.proofs.Lists.{map_more}
use Rattle.lines.specs.Lines.{bytes_of, tab}
use Rattle.listing.specs.Text.{ended_by, decimal}
use Rattle.listing.specs.Listing.{Entry, spelling, kind_word, figures_line, row_pieces, entry_of, row_entries, entries_on}
use Rattle.listing.specs.Listing.{entry_with, entry_line, entry_lines, header, listing_of, plan_with, listed_on}

pub piece-line : (c : Costs) (q : ℕ) (name : List ℕ) (s : Stored) (n : ℕ) (a : Piece) (charged : ℕ) → n ≡ q + 1 → a ≡ kept_piece s → charged ≡ charged_time c a
    → ended_by tab (bytes_of "piece") ++ (ended_by tab (decimal n) ++ (ended_by tab name
    ++ (ended_by tab (kind_word a.kind) ++ figures_line s.budget s.window s.jitter charged))) ≡ entry_line (entry_with c q name s)
unfolding entry_line
piece-line c q name s n a charged core piece time = rw (core, time, piece)

entry-line : (p : Plan) (q : ℕ) (s : Stored) (name : List ℕ) → name ≡ spelling (task_at p.tasks.list s.task).name
    → entry_line (entry_with p.costs q name s) ≡ entry_line (entry_of p q s)
unfolding entry_of
entry-line p q s name is = rw is

pub entry-lines-append : (es fs : List Entry) → entry_lines (es ++ fs) ≡ entry_lines es ++ entry_lines fs
entry-lines-append [] fs = refl
entry-lines-append (e ∷ es) fs = ap (λ (l : List ℕ). entry_line e ++ l) (entry-lines-append es fs)
    ∙ sym (append_assoc (entry_line e) (entry_lines es) (entry_lines fs))

-- one core more
cores-more : (p : Plan) (q : ℕ) → entry_lines (entries_on p (q + 1)) ≡ entry_lines (entries_on p q) ++ entry_lines (row_entries p q)
cores-more p q = rw (add-one q) (entry-lines-append (entries_on p q) (row_entries p q))

-- ---- the piece numbers of a row

-- as many as are listed
abbrev pub row_numbers : Layout → ℕ → List ℕ
row_numbers s q = take (get_or s.lens q 0) (take 64 (drop (q * 64) s.rows))

pub row-long : (s : Layout) (q : ℕ) → length s.rows ≡ 1024 → q < 16 → length (row_numbers s q) ≡ min (get_or s.lens q 0) 64
row-long s q long low = simp (length-take, length-drop) (omega arith)

pub row-few : (s : Layout) (q : ℕ) (row : List ℕ) → row ≡ row_numbers s q → length row ≤ 64
row-few s q row is =
    rw is (simp length-take (omega arith))

-- ---- the entries of a row

abbrev pub row_run : Plan → ℕ → ℕ → List Entry
row_run p q i = map (λ j. entry_of p q (get_or p.layout.pieces j blank)) (take i (row_numbers p.layout q))

-- what the first i and one more of a core's row come to
pub row_next : {A : Type 0} (f : Stored → A) (s : Layout) (q : ℕ) (row : List ℕ) → row ≡ row_numbers s q → (i : ℕ) (t : Stored) → i < length row
    → t ≡ get_or s.pieces (get_or row i 0) blank
    → map (λ j. f (get_or s.pieces j blank)) (take (i + 1) (row_numbers s q)) ≡ map (λ j. f (get_or s.pieces j blank)) (take i (row_numbers s q)) ++ (f t ∷ [])
row_next f s q row is i t low here = rw (← is, here) (map_more (λ j. f (get_or s.pieces j blank)) row i 0 low)

module _ (p : Plan) (q : ℕ) (row : List ℕ) (is : row ≡ row_numbers p.layout q) where
  -- one place more of the row is written
  pub seat-more : (i : ℕ) (s : Stored) (name : List ℕ) → i < length row → s ≡ get_or p.layout.pieces (get_or row i 0) blank
      → name ≡ spelling (task_at p.tasks.list s.task).name
      → entry_lines (row_run p q i) ++ entry_line (entry_with p.costs q name s) ≡ entry_lines (row_run p q (i + 1))
  seat-more i s name low here named =
      let e : Entry = entry_of p q s in
      ap (λ (l : List ℕ). entry_lines (row_run p q i) ++ l) (entry-line p q s name named ∙ sym (append-nil (entry_line e)))
      ∙ (sym (entry-lines-append (row_run p q i) (e ∷ [])) ∙ ap entry_lines (sym (row_next (entry_of p q) p.layout q row is i s low here)))

  -- and where all its places are, the core is
  pub row-over : (i : ℕ) → length row ≤ i → entry_lines (entries_on p q) ++ entry_lines (row_run p q i) ≡ entry_lines (entries_on p (q + 1))
  unfolding row_pieces
  row-over i all =
      let f : ℕ → Entry = (λ j. entry_of p q (get_or p.layout.pieces j blank)) in
      let row : row_run p q i ≡ row_entries p q =
      ap (map f) (take_all i (row_numbers p.layout q) (omega (arith, ap length is))) ∙ sym (map-map (entry_of p q) (λ j. get_or p.layout.pieces j blank) (row_numbers p.layout q)) in
      ap (λ (es : List Entry). entry_lines (entries_on p q) ++ entry_lines es) row ∙ sym (cores-more p q)

-- a plan's listing does not tell its machine
entries-on-with : (p : Plan) (n : ℕ) → entries_on (plan_with p.costs p.tasks p.layout) n ≡ entries_on p n
unfolding entry_of
entries-on-with p zero = refl
entries-on-with p (suc q) = ap (λ (es : List Entry). es ++ row_entries p q) (entries-on-with p q)

pub listing-with : (p : Plan) → listing_of (plan_with p.costs p.tasks p.layout) ≡ listing_of p
unfolding listing_of header
listing-with p = ap (λ (es : List Entry). header p.tasks.count p.layout.count ++ entry_lines es) (entries-on-with p cores_most)

-- ---- how many places are listed

pub listed-none : (lens : List ℕ) → listed_on lens 0 ≡ 0
unfolding listed_on
listed-none lens = refl

pub listed-more : (lens : List ℕ) (q : ℕ) → listed_on lens (q + 1) ≡ listed_on lens q + min (get_or lens q 0) 64
unfolding listed_on
listed-more lens q = rw (add-one q)

pub listed-few : (lens : List ℕ) (n : ℕ) → listed_on lens n ≤ 64 * n
unfolding listed_on
listed-few lens zero = omega arith
listed-few lens (suc q) = omega (arith, listed-few lens q)
