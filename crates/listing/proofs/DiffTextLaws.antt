-- Laws of the listing of two plans, as the code comes to it.
-- Assumes nothing.
--
--   diff-line                               the line of a piece, field by field
--   lines_of w s r l                         the lines of what l has of the rank r, under the word w and the name s
--   lines_more, lines_stay                  one piece more of the rank, and one of another
--   of-more, of-stay, of-few                how many have the rank: one more, as many, and at most as many as there are
--   block-second, block-first, block-both   the lines of a rank that is in the second plan alone, in the first alone, in both
--   blocks-alike, blocks_more               one rank more, alike or not
--   lesser-none, lesser-more, lesser-few    how many have a lesser rank: none, with one rank more, and at most as many as there are
use mathlib.Core.Path.{◌≡◌, refl, sym, ap, ◌∙◌}
use mathlib.Core.Bool.{Bool, true, false}
use mathlib.Core.List.{List, [], ◌∷◌, ◌++◌, append-nil, append_assoc}
use Prim.Native.Nat.{ℕ, suc, ◌+◌, ◌≤◌}
use native.Mathlib.Numerals.{add-one}
use native.Mathlib.Decide.{dec_lt}
use native.Mathlib.Omega.{arith}
use borrow.Author.Tests.{lt-ltb, le-ltb, eq-eqb, ne_eqb}
use lib.Dec.{ltb, eqb}
use lib.ListN.{length, length-append, length-map}
use Rattle.demand.specs.declared.Piece.{Piece}
use Rattle.walks.specs.Lists.{keep, only}
use Rattle.walks.specs.Way.{Placed, relabel}
use Rattle.walks.proofs.ListLaws.{only-append}
use Rattle.plan.proofs.Lists.{map_snoc}
use Rattle.lines.specs.Lines.{bytes_of, tab}
use Rattle.listing.specs.declared.Ranked.{Ranked}
use Rattle.listing.specs.Text.{ended_by, text_line, decimal}
use Rattle.listing.specs.Listing.{kind_word}
use Rattle.listing.specs.Diff.{of_item, alike, diff_line, diff_lines, side_by_side}
use Rattle.listing.specs.Ways.RankArrays.{figures_of, under, rank_block, rank_blocks, ranked_below, seat, placed}

pub diff-line : (word name : List ℕ) (core n : ℕ) (p : Piece) → n ≡ core + 1
    → ended_by tab word ++ (ended_by tab name ++ (ended_by tab (decimal n) ++ (ended_by tab (kind_word p.kind) ++ text_line (figures_of p))))
    ≡ diff_line word (record { on = core; item = name; piece = p })
unfolding diff_line
diff-line word name core n p is = rw is

-- ---- the lines of one rank

lines-append : (w : List ℕ) (es fs : List (Placed (List ℕ))) → diff_lines w (es ++ fs) ≡ diff_lines w es ++ diff_lines w fs
lines-append w [] fs = refl
lines-append w (e ∷ es) fs = ap (λ (l : List ℕ). diff_line w e ++ l) (lines-append w es fs)
    ∙ sym (append_assoc (diff_line w e) (diff_lines w es) (diff_lines w fs))

abbrev pub lines_of : (word name : List ℕ) → ℕ → List (Placed ℕ) → List ℕ
lines_of w s r l = diff_lines w (under s (of_item eqb r l))

-- one piece more
module _ (r : ℕ) (l : List (Placed ℕ)) (e : Placed ℕ) where
  of_one : e.item ≡ r → of_item eqb r (l ++ (e ∷ [])) ≡ of_item eqb r l ++ (e ∷ [])
  of_one same = only-append (λ e. eqb e.item r) l (e ∷ []) ∙ rw (eq-eqb e.item r same)

  of-same : (e.item ≡ r → ⊥) → of_item eqb r (l ++ (e ∷ [])) ≡ of_item eqb r l
  of-same other = only-append (λ e. eqb e.item r) l (e ∷ []) ∙ rw (ne_eqb e.item r other) (append-nil (of_item eqb r l))

  pub of-more : e.item ≡ r → length (of_item eqb r (l ++ (e ∷ []))) ≡ length (of_item eqb r l) + 1
  of-more same = ap (length {A = Placed ℕ}) (of_one same) ∙ length-append (of_item eqb r l) (e ∷ [])

  pub of-stay : (e.item ≡ r → ⊥) → length (of_item eqb r (l ++ (e ∷ []))) ≡ length (of_item eqb r l)
  of-stay other = ap (length {A = Placed ℕ}) (of-same other)

  pub lines_more : (w s : List ℕ) → e.item ≡ r → lines_of w s r l ++ diff_line w (relabel (λ k. s) e) ≡ lines_of w s r (l ++ (e ∷ []))
  lines_more w s same =
      let there = relabel (λ (k : ℕ). s) e in
      sym (ap (λ (l : List (Placed ℕ)). diff_lines w (under s l)) (of_one same)
      ∙ (ap (diff_lines w) (map_snoc (relabel (λ (k : ℕ). s)) (of_item eqb r l) e)
      ∙ (lines-append w (under s (of_item eqb r l)) (there ∷ [])
      ∙ ap (λ (k : List ℕ). lines_of w s r l ++ k) (append-nil (diff_line w there)))))

  pub lines_stay : (w s : List ℕ) → (e.item ≡ r → ⊥) → lines_of w s r l ≡ lines_of w s r (l ++ (e ∷ []))
  lines_stay w s other = sym (ap (λ (l : List (Placed ℕ)). diff_lines w (under s l)) (of-same other))

-- ---- at most as many as there are

pub only-few : {A : Type 0} (test : A → Bool) (l : List A) → length (only test l) ≤ length l
only-few test [] = omega arith
only-few test (a ∷ l) = by (test a) (only-few test l)
  where
    by : (t : Bool) → length (only test l) ≤ length l → length (keep t a (only test l)) ≤ suc (length l)
    by true h = omega arith
    by false h = omega arith

pub of-few : (r : ℕ) (es : List Ranked) → length (of_item eqb r (placed es)) ≤ length es
of-few r es = omega (arith, only-few (λ e. eqb e.item r) (placed es), length-map es seat)

-- ---- the lines of one name

module _ (s : List ℕ) where
  second-alone : (es fs : List (Placed ℕ)) → length es ≡ 0 → side_by_side (under s es) (under s fs) ≡ diff_lines (bytes_of "only2") (under s fs)
  second-alone [] fs none = refl
  second-alone (e ∷ es) fs none = absurd (omega (arith, none))

  first_alone : (es fs : List (Placed ℕ)) → (length es ≡ 0 → ⊥) → length fs ≡ 0
      → side_by_side (under s es) (under s fs) ≡ diff_lines (bytes_of "only1") (under s es)
  first_alone [] fs some none = absurd (some refl)
  first_alone (e ∷ es) [] some none = refl
  first_alone (e ∷ es) (f ∷ fs) some none = absurd (omega (arith, none))

  in_both : (es fs : List (Placed ℕ)) → (length es ≡ 0 → ⊥) → (length fs ≡ 0 → ⊥)
      → side_by_side (under s es) (under s fs) ≡ diff_lines (bytes_of "was") (under s es) ++ diff_lines (bytes_of "now") (under s fs)
  in_both [] fs some more = absurd (some refl)
  in_both (e ∷ es) [] some more = absurd (more refl)
  in_both (e ∷ es) (f ∷ fs) some more = refl

  module _ (r : ℕ) (l k : List (Placed ℕ)) where
    pub block-second : length (of_item eqb r l) ≡ 0 → lines_of (bytes_of "only2") s r k ≡ rank_block s r l k
    block-second none = sym (second-alone (of_item eqb r l) (of_item eqb r k) none)

    pub block-first : (length (of_item eqb r l) ≡ 0 → ⊥) → length (of_item eqb r k) ≡ 0 → lines_of (bytes_of "only1") s r l ≡ rank_block s r l k
    block-first some none = sym (first_alone (of_item eqb r l) (of_item eqb r k) some none)

    pub block-both : (length (of_item eqb r l) ≡ 0 → ⊥) → (length (of_item eqb r k) ≡ 0 → ⊥)
        → lines_of (bytes_of "was") s r l ++ lines_of (bytes_of "now") s r k ≡ rank_block s r l k
    block-both some more = sym (in_both (of_item eqb r l) (of_item eqb r k) some more)

-- ---- all lines

module _ (name : ℕ → List ℕ) (l k : List (Placed ℕ)) (r : ℕ) where
  pub blocks-alike : alike eqb r l k ≡ true → rank_blocks name l k r ≡ rank_blocks name l k (r + 1)
  blocks-alike same = sym (rw (add-one r, same) (append-nil (rank_blocks name l k r)))

  pub blocks_more : alike eqb r l k ≡ false → (s : List ℕ) → s ≡ name r
      → rank_blocks name l k r ++ rank_block s r l k ≡ rank_blocks name l k (r + 1)
  blocks_more other s is = sym (rw (add-one r, other, is))

-- ---- how many have a lesser rank

pub lesser-none : (l : List (Placed ℕ)) → ranked_below 0 l ≡ 0
lesser-none [] = refl
lesser-none (e ∷ l) = rw (le-ltb e.item 0 (omega arith)) (lesser-none l)

pub lesser-few : (r : ℕ) (es : List Ranked) → ranked_below r (placed es) ≤ length es
lesser-few r es = omega (arith, only-few (λ e. ltb e.item r) (placed es), length-map es seat)

pub lesser-more : (r : ℕ) (l : List (Placed ℕ)) → ranked_below (r + 1) l ≡ ranked_below r l + length (of_item eqb r l)
lesser-more r [] = refl
lesser-more r (e ∷ l) = elim (dec_lt e.item r) [
  | yes low ↦ rw (lt-ltb e.item (r + 1) (omega arith), lt-ltb e.item r low, ne_eqb e.item r (λ z. omega arith)) (omega (arith, lesser-more r l))
  | no high ↦ elim (dec_lt r e.item) [
    | yes over ↦ rw (le-ltb e.item (r + 1) (omega arith), le-ltb e.item r (omega arith), ne_eqb e.item r (λ z. omega arith)) (lesser-more r l)
    | no here ↦
        rw (lt-ltb e.item (r + 1) (omega arith), le-ltb e.item r (omega arith), eq-eqb e.item r (omega arith)) (omega (arith, lesser-more r l))
  ]
]
