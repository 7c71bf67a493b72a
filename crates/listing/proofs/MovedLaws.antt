-- Which names are told of where two plans stand side by side: those that are not placed alike, in byte order.
-- Assumes nothing.
--
--   Covered ns l             each name of l is one of ns
--   moved-chain, moved-exactly      picked from names ns that cover both plans, they stand in byte order, and are those that are not placed alike
--   moved-one, names-are     whichever names they are picked from
--   names-chain, names-exactly      so they are in the listing
--   unlike-means             which are those that are not placed alike
--   nothing-moved            nothing stands behind the first line exactly where every name is placed alike
use mathlib.Core.Path.{◌≡◌, refl, sym, ap, ◌∙◌, subst}
use mathlib.Core.Bool.{Bool, true, false, not}
use mathlib.Core.Logic.{inl, inr, ◌↔◌}
use mathlib.Core.List.{List, [], ◌∷◌, ◌++◌, append-nil}
use Prim.Native.Nat.{ℕ, ◌+◌, ◌<◌}
use native.Mathlib.Decide.{dec_lt}
use native.Mathlib.Omega.{arith}
use lib.ListN.{length, length-append}
use Rattle.demand.specs.Sizes.{Each, SomeOf}
use Rattle.demand.specs.Tables.{Not}
use Rattle.task.specs.Names.{same_bytes}
use Rattle.task.proofs.NameLaws.{same-bytes-exact}
use Rattle.walks.specs.Lists.{Chain, keep, only}
use Rattle.walks.specs.Way.{Placed}
use Rattle.walks.proofs.ListLaws.{each-only}
use Rattle.lines.specs.Lines.{bytes_of, tab}
use Rattle.listing.specs.Text.{text_line, ended_by, decimal}
use Rattle.listing.specs.Listing.{kind_word}
use Rattle.listing.specs.ByteOrder.{comes_before, byte_ordered}
use Rattle.listing.specs.Diff.{of_item, alike, Alike, names_of, moved_of, moved_names, diff_line, diff_lines, side_by_side, diff_blocks, diff_head, diff_text}
use Rattle.listing.proofs.TextLaws.{ended-length}
use Rattle.listing.proofs.ByteOrderLaws.{never, below-itself, below_on, rank-few, only-each, only-has, each-some, some-join, some-behind, order-chain, order-has, chains-one}
use Rattle.listing.proofs.AlikeLaws.{each-with, found, alike-means}

-- ---- which names are told of

chain-only : {A : Type 0} (R : A → A → Type 0) (t : A → Bool) (l : List A) → Chain R l → Chain R (only t l)
chain-only R t [] h = tt
chain-only {A} R t (a ∷ l) h = by (t a) (each-only (R a) t l h.0) (chain-only R t l h.1)
  where
    by : (b : Bool) → Each (R a) (only t l) → Chain R (only t l) → Chain R (keep b a (only t l))
    by true e c = (e, c)
    by false e c = c

not-true : (b : Bool) → not b ≡ true → b ≡ false
not-true true e = sym e
not-true false e = refl

none-there : {A : Type 0} (l : List A) → (0 < length l → ⊥) → l ≡ []
none-there [] h = refl
none-there (a ∷ l) h = absurd (h (omega arith))

abbrev pub Covered : List (List ℕ) → List (Placed (List ℕ)) → Type 0
Covered ns l = Each (λ e. SomeOf (λ x. x ≡ e.item) ns) l

module _ (l k : List (Placed (List ℕ))) where
  abbrev pub moves : List ℕ → Bool
  moves n = not (alike same_bytes n l k)

  pub moved-chain : (ns : List (List ℕ)) → Chain (λ m n. comes_before m n ≡ true) (moved_of ns l k)
  moved-chain ns = chain-only (λ m n. comes_before m n ≡ true) moves (byte_ordered ns (length ns)) (order-chain ns (length ns))

  -- a name of which something is placed is one of ns
  name-there : (ns : List (List ℕ)) (n : List ℕ) (k : List (Placed (List ℕ))) → Covered ns k → 0 < length (of_item same_bytes n k) → SomeOf (λ x. x ≡ n) ns
  name-there ns n k cover some =
      let e = found (λ (f : Placed (List ℕ)). same_bytes f.item n) k some in
      subst (λ (m : List ℕ). SomeOf (λ x. x ≡ m) ns) ((same-bytes-exact e.0.item n).0 e.1.0)
      (each-some (λ f. SomeOf (λ x. x ≡ f.item) ns) k e.0 cover e.1.1)

  pub unlike-there : (ns : List (List ℕ)) → Covered ns l → Covered ns k → (n : List ℕ) → alike same_bytes n l k ≡ false → SomeOf (λ x. x ≡ n) ns
  unlike-there ns first second n unlike = elim (dec_lt 0 (length (of_item same_bytes n l))) [
    | yes some ↦ name-there ns n l first some
    | no none ↦ elim (dec_lt 0 (length (of_item same_bytes n k))) [
      | yes some ↦ name-there ns n k second some
      | no neither ↦ (let e : alike same_bytes n l k ≡ true =
          rw (none-there (of_item same_bytes n l) (λ h. omega arith), none-there (of_item same_bytes n k) (λ h. omega arith)) in never (sym e ∙ unlike))
    ]
  ]

  pub moved-exactly : (ns : List (List ℕ)) → Covered ns l → Covered ns k → (n : List ℕ) → SomeOf (λ x. x ≡ n) (moved_of ns l k) ↔ (alike same_bytes n l k ≡ false)
  moved-exactly ns first second n = (
    (λ h. not-true (alike same_bytes n l k)
        (each-some (λ m. (moves m ≡ true) × SomeOf (λ x. x ≡ m) (byte_ordered ns (length ns))) (moved_of ns l k) n
        (only-each moves (byte_ordered ns (length ns))) h).0),
    λ unlike.
        let here = unlike-there ns first second n unlike in
        only-has moves n (rw unlike) (byte_ordered ns (length ns)) (order-has ns (length ns) n here (rank-few ns n here)),
  )

  pub moved-one : (ns ms : List (List ℕ)) → Covered ns l → Covered ns k → Covered ms l → Covered ms k → moved_of ns l k ≡ moved_of ms l k
  moved-one ns ms f g h i =
      chains-one (λ m n. comes_before m n ≡ true) (λ n e. never (sym e ∙ below-itself n)) below_on (moved_of ns l k) (moved_of ms l k) (moved-chain ns) (moved-chain ms)
      (λ n. (
        (λ m. (moved-exactly ms h i n).1 ((moved-exactly ns f g n).0 m)),
        λ m. (moved-exactly ns f g n).1 ((moved-exactly ms h i n).0 m),
      ))

some-named : (l : List (Placed (List ℕ))) (e : Placed (List ℕ)) → SomeOf (λ x. x ≡ e) l → SomeOf (λ x. x ≡ e.item) (names_of l)
some-named (f ∷ l) e (inl is) = inl (ap (λ (g : Placed (List ℕ)). g.item) is)
some-named (f ∷ l) e (inr h) = inr (some-named l e h)
some-named [] e x' = elim x' [ ]

-- their own names are all that two plans need
module _ (l k : List (Placed (List ℕ))) where
  first-covered : Covered (names_of (l ++ k)) l
  first-covered = each-with (λ e. SomeOf (λ x. x ≡ e.item) (names_of (l ++ k))) l (λ e h. some-named (l ++ k) e (some-join (λ x. x ≡ e) l k h))

  second-covered : Covered (names_of (l ++ k)) k
  second-covered = each-with (λ e. SomeOf (λ x. x ≡ e.item) (names_of (l ++ k))) k (λ e h. some-named (l ++ k) e (some-behind (λ x. x ≡ e) l k h))

  pub names-chain : Chain (λ m n. comes_before m n ≡ true) (moved_names l k)
  unfolding moved_names
  names-chain = moved-chain l k (names_of (l ++ k))

  pub names-exactly : (n : List ℕ) → SomeOf (λ x. x ≡ n) (moved_names l k) ↔ (alike same_bytes n l k ≡ false)
  unfolding moved_names
  names-exactly n = moved-exactly l k (names_of (l ++ k)) first-covered second-covered n

  pub names-are : (ns : List (List ℕ)) → Covered ns l → Covered ns k → moved_of ns l k ≡ moved_names l k
  unfolding moved_names
  names-are ns f g = moved-one l k ns (names_of (l ++ k)) f g first-covered second-covered

  pub unlike-means : (n : List ℕ) → SomeOf (λ x. x ≡ n) (moved_names l k) ↔ Not (Alike n l k)
  unlike-means n = (
    (λ there same. never (sym ((alike-means n l k).1 same) ∙ (names-exactly n).0 there)),
    λ differs. (names-exactly n).1 (by differs (alike same_bytes n l k) refl),
  )
    where
      by : Not (Alike n l k) → (b : Bool) → alike same_bytes n l k ≡ b → b ≡ false
      by differs true e = absurd (differs ((alike-means n l k).0 e))
      by differs false e = refl

-- ---- nothing behind the first line

-- no run of bytes that has some is empty, whatever stands behind it
bytes-some : (a b : List ℕ) → 0 < length a → a ++ b ≡ [] → ⊥
bytes-some a b some none = let z : length (a ++ b) ≡ 0 = ap (λ (l : List ℕ). length l) none in omega (arith, length-append a b)

ended_some : (w r : List ℕ) → 0 < length (ended_by tab w ++ r)
ended_some w r = omega (arith, length-append (ended_by tab w) r, ended-length tab w)

line-some : (w : List ℕ) (e : Placed (List ℕ)) → 0 < length (diff_line w e)
unfolding diff_line
line-some w e = ended_some w (text_line (e.item ∷ fields))
  where
    fields : List (List ℕ)
    fields =
        decimal (e.on + 1) ∷ kind_word e.piece.kind ∷ decimal e.piece.budget ∷ decimal e.piece.window
        ∷ decimal e.piece.period ∷ decimal e.piece.jitter ∷ decimal e.piece.preempt ∷ decimal e.piece.migrate ∷ []

lines-some : (w : List ℕ) (e : Placed (List ℕ)) (es : List (Placed (List ℕ))) → 0 < length (diff_lines w (e ∷ es))
lines-some w e es = omega (arith, length-append (diff_line w e) (diff_lines w es), line-some w e)

-- a name of which either plan has something has a line
block_none : (es fs : List (Placed (List ℕ))) (r : List ℕ) → side_by_side es fs ++ r ≡ [] → (es ≡ []) × (fs ≡ [])
block_none [] [] r none = (refl, refl)
block_none [] (f ∷ fs) r none = absurd (bytes-some (diff_lines (bytes_of "only2") (f ∷ fs)) r (lines-some (bytes_of "only2") f fs) none)
block_none (e ∷ es) [] r none = absurd (bytes-some (diff_lines (bytes_of "only1") (e ∷ es)) r (lines-some (bytes_of "only1") e es) none)
block_none (e ∷ es) (f ∷ fs) r none =
    let was = diff_lines (bytes_of "was") (e ∷ es) in
    let now = diff_lines (bytes_of "now") (f ∷ fs) in
    absurd (bytes-some (was ++ now) r (omega (arith, length-append was now, lines-some (bytes_of "was") e es)) none)

module _ (l k : List (Placed (List ℕ))) where
  blocks-none : (ns : List (List ℕ)) → Each (λ n. alike same_bytes n l k ≡ false) ns → diff_blocks l k ns ≡ [] → ns ≡ []
  blocks-none [] unlike none = refl
  blocks-none (n ∷ ns) unlike none =
      let both = block_none (of_item same_bytes n l) (of_item same_bytes n k) (diff_blocks l k ns) none in
      let e : alike same_bytes n l k ≡ true = rw (both.0, both.1) in
      never (sym e ∙ unlike.0)

  names-none : moved_names l k ≡ [] → (n : List ℕ) → alike same_bytes n l k ≡ true
  names-none none n = by (alike same_bytes n l k) refl
    where
      by : (b : Bool) → alike same_bytes n l k ≡ b → b ≡ true
      by true e = refl
      by false e = absurd (subst (λ (ns : List (List ℕ)). SomeOf (λ x. x ≡ n) ns) none ((names-exactly l k n).1 e))

  none-names : ((n : List ℕ) → alike same_bytes n l k ≡ true) → moved_names l k ≡ []
  none-names all = by (moved_names l k) (λ n h. (names-exactly l k n).0 h)
    where
      by : (ns : List (List ℕ)) → ((n : List ℕ) → SomeOf (λ x. x ≡ n) ns → alike same_bytes n l k ≡ false) → ns ≡ []
      by [] h = refl
      by (n ∷ ns) h = never (sym (all n) ∙ h n (inl refl))

  pub nothing-moved : (t u : ℕ) → (diff_text t u l k ≡ diff_head t u) ↔ ((n : List ℕ) → Alike n l k)
  unfolding diff_text
  nothing-moved t u = (
    (λ same.
        let rest = diff_blocks l k (moved_names l k) in
        let long : length (diff_head t u ++ rest) ≡ length (diff_head t u) = ap (λ (b : List ℕ). length b) same in
        let none : rest ≡ [] = none-there rest (λ some. omega (arith, length-append (diff_head t u) rest)) in
        let unlike = each-with (λ n. alike same_bytes n l k ≡ false) (moved_names l k) (λ n h. (names-exactly l k n).0 h) in
        λ n. (alike-means n l k).0 (names-none (blocks-none (moved_names l k) unlike none) n)),
    λ all.
        ap (λ (ns : List (List ℕ)). diff_head t u ++ diff_blocks l k ns) (none-names (λ n. (alike-means n l k).1 (all n))) ∙ append-nil (diff_head t u),
  )
