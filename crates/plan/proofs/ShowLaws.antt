-- A layout shows what was placed: its pieces by number, its rows by core, and its words as the bits of one piece after another.
-- Assumes nothing.
--
--   word_on w l           the word w with a bit for each piece of l
--   Core s q x           core q of the layout s has the pieces x
--   Size, Kept           the arrays' lengths; the layout has a log
--   Room l               there is room for all that is placed
--   kept                 what was put is what the layout has
--   kept-shows           and so shows
use mathlib.Core.Path.{◌≡◌, refl, sym, ap, ◌∙◌, subst}
use mathlib.Core.Bool.{Bool, true, false}
use mathlib.Core.List.{List, [], ◌∷◌, ◌++◌, map, map-append, map-map, append_assoc, append-nil}
use Prim.Native.Nat.{ℕ, ◌+◌, ◌*◌, ◌^◌, ◌<◌, ◌≤◌}
use native.Mathlib.Omega.{arith}
use native.Mathlib.Decide.{dec_lt}
use borrow.Author.Tests.{eqb-true, eqb-false, eq-eqb}
use lib.Dec.{eqb}
use lib.Bits.{bit_or}
use lib.ListN.{length, take, drop, set, get_or, length-set, length-append, length-map, length-drop, get_or-append, get_or-map}
use lib.Seq.{get_or-set_other, get_or-set_same, get_or-take, get_or-drop, length-take-le, ext_get_or}
use Rattle.demand.specs.declared.Piece.{Piece}
use Rattle.demand.specs.Sizes.{Each}
use Rattle.plan.specs.declared.Stored.{Stored}
use Rattle.plan.specs.declared.Layout.{Layout}
use Rattle.walks.specs.Way.{Placed, on_core}
use Rattle.walks.proofs.ListLaws.{each-middle}
use Rattle.walks.proofs.SoundLaws.{on-here, on-other, on-append}
use Rattle.plan.specs.Layout.{put_of, layout_on, none, blank, kept_piece}
use Rattle.plan.specs.Shows.{stored_of, numbers_on, LayoutShows}
use Rattle.std.proofs.lemmas.List.{take_more_set}
use Rattle.plan.proofs.Lists.{map_snoc}
use Rattle.plan.proofs.LayoutLaws.{put_count, zeros}
use Rattle.plan.proofs.GoingLaws.{piece-stored}

abbrev pub word_on : ℕ → List (Placed ℕ) → ℕ
word_on w [] = w
word_on w (e ∷ l) = word_on (bit_or w (2 ^ e.item)) l

-- the j-th number of core q
abbrev pub number_at : Layout → ℕ → ℕ → ℕ
number_at s q j = get_or s.rows (q * 64 + j) 0

pub record Core (s : Layout) (q : ℕ) (x : List (Placed ℕ)) (d : Stored) : Type 0 where
  pub len : get_or s.lens q 0 ≡ length x
  pub word : get_or s.words q 0 ≡ word_on 0 x
  pub num : (j : ℕ) → j < length x → number_at s q j < s.count
  pub row : (j : ℕ) → j < length x → get_or s.pieces (number_at s q j) blank ≡ get_or (map stored_of x) j d

pub record Size (s : Layout) : Type 0 where
  pub of-pieces : length s.pieces ≡ 79
  pub of-rows : length s.rows ≡ 1024
  pub of-lens : length s.lens ≡ 16
  pub of_words : length s.words ≡ 16

-- ---- one piece more

flat-apart : (p q i j : ℕ) → i < 64 → j < 64 → (p ≡ q → ⊥) → p * 64 + i ≡ q * 64 + j → ⊥
flat-apart p q i j a b h e = elim (dec_lt p q) [
  | yes g ↦ omega arith
  | no g ↦ (elim (dec_lt q p) [ yes f ↦ omega arith | no f ↦ h (omega arith) ])
]

get_d-end : {B : Type 0} (x : List B) (b d : B) → get_or (x ++ (b ∷ [])) (length x) d ≡ b
get_d-end [] b d = refl
get_d-end (a ∷ x) b d = get_d-end x b d

word-append : (w : ℕ) (x y : List (Placed ℕ)) → word_on w (x ++ y) ≡ word_on (word_on w x) y
word-append w [] y = refl
word-append w (e ∷ x) y = word-append (bit_or w (2 ^ e.item)) x y

put-sizes : (s : Layout) (p k : ℕ) (q : Piece) → Size s → Size (put_of s p k q)
unfolding put_of
put-sizes s p k q z = record {
  of-pieces = simp length-set z.of-pieces;
  of-rows = simp length-set z.of-rows;
  of-lens = simp length-set z.of-lens;
  of_words = simp length-set z.of_words;
}

put-pieces : (s : Layout) (e : Placed ℕ) → s.count < length s.pieces
    → take (put_of s e.on e.item e.piece).count (put_of s e.on e.item e.piece).pieces
    ≡ take s.count s.pieces ++ (stored_of e ∷ [])
unfolding put_of
put-pieces s e room = take_more_set s.pieces s.count (stored_of e) room

module _ (s : Layout) (z : Size s) (e : Placed ℕ) (d : Stored) (room : s.count < 79) (low : e.on < 16) where
  -- the core that it is put on
  core-here : (x : List (Placed ℕ)) → Core s e.on x d → length x < 64 → Core (put_of s e.on e.item e.piece) e.on (x ++ (e ∷ [])) d
  unfolding put_of
  core-here x c short =
      let at : ℕ = e.on * 64 + get_or s.lens e.on 0 in
      let new : (j : ℕ) → (j < length x → ⊥) → j < length (x ++ (e ∷ [])) → j ≡ length x = λ j f h. omega (arith, length-append x (e ∷ [])) in
      let here : (j : ℕ) → j ≡ length x → number_at (put_of s e.on e.item e.piece) e.on j ≡ s.count = λ j h.
      ap (λ (n : ℕ). get_or (set s.rows at s.count) (e.on * 64 + n) 0) (h ∙ sym c.len)
      ∙ get_or-set_same s.rows at s.count 0 (omega (arith, z.of-rows, c.len)) in
      let old : (j : ℕ) → j < length x → number_at (put_of s e.on e.item e.piece) e.on j ≡ number_at s e.on j = λ j h.
      get_or-set_other s.rows at (e.on * 64 + j) s.count 0 (λ y. omega (arith, c.len)) in
      record {
        len = get_or-set_same s.lens e.on (get_or s.lens e.on 0 + 1) 0 (omega (arith, z.of-lens)) ∙ simp length-append (omega (arith, c.len));
        word = get_or-set_same s.words e.on (bit_or (get_or s.words e.on 0) (2 ^ e.item)) 0 (omega (arith, z.of_words))
            ∙ ap (λ (w : ℕ). bit_or w (2 ^ e.item)) c.word ∙ sym (word-append 0 x (e ∷ []));
        num = λ j h. elim (dec_lt j (length x)) [
          | yes f ↦ rw (old j f) (omega (arith, c.num j f))
          | no f ↦ rw (here j (new j f h)) (omega arith)
        ];
        row = λ j h. elim (dec_lt j (length x)) [
          | yes f ↦ ap (λ (n : ℕ). get_or (set s.pieces s.count (stored_of e)) n blank) (old j f)
              ∙ get_or-set_other s.pieces s.count (number_at s e.on j) (stored_of e) blank (λ y. omega (arith, c.num j f)) ∙ c.row j f
              ∙ sym (ap (λ (y : List Stored). get_or y j d) (map-append stored_of x (e ∷ []))
              ∙ get_or-append (map stored_of x) (stored_of e ∷ []) d j (simp length-map f))
          | no f ↦ ap (λ (n : ℕ). get_or (set s.pieces s.count (stored_of e)) n blank) (here j (new j f h))
              ∙ get_or-set_same s.pieces s.count (stored_of e) blank (omega (arith, z.of-pieces))
              ∙ sym (ap (λ (y : List Stored). get_or y j d) (map-append stored_of x (e ∷ []))
              ∙ ap (λ (n : ℕ). get_or (map stored_of x ++ (stored_of e ∷ [])) n d) (new j f h ∙ sym (length-map x stored_of))
              ∙ get_d-end (map stored_of x) (stored_of e) d)
        ];
      }

  -- any other core
  core-other : (q : ℕ) (x : List (Placed ℕ)) → (e.on ≡ q → ⊥) → get_or s.lens e.on 0 < 64 → length x ≤ 64 → Core s q x d
      → Core (put_of s e.on e.item e.piece) q x d
  unfolding put_of
  core-other q x apart free short c =
      let same : (j : ℕ) → j < length x → number_at (put_of s e.on e.item e.piece) q j ≡ number_at s q j =
      λ j h. get_or-set_other s.rows (e.on * 64 + get_or s.lens e.on 0) (q * 64 + j) s.count 0
      (λ y. flat-apart e.on q (get_or s.lens e.on 0) j free (omega arith) apart (sym y)) in
      record {
        len = get_or-set_other s.lens e.on q (get_or s.lens e.on 0 + 1) 0 (λ y. apart (sym y)) ∙ c.len;
        word = get_or-set_other s.words e.on q (bit_or (get_or s.words e.on 0) (2 ^ e.item)) 0 (λ y. apart (sym y)) ∙ c.word;
        num = λ j h. rw (same j h) (omega (arith, c.num j h));
        row = λ j h. ap (λ (n : ℕ). get_or (set s.pieces s.count (stored_of e)) n blank) (same j h)
            ∙ get_or-set_other s.pieces s.count (number_at s q j) (stored_of e) blank (λ y. omega (arith, c.num j h)) ∙ c.row j h;
      }

-- ---- all that was placed

pub record Kept (s : Layout) (log : List (Placed ℕ)) : Type 0 where
  pub size : Size s
  pub count : s.count ≡ length log
  pub pieces : take s.count s.pieces ≡ map stored_of log
  pub core : (q : ℕ) → q < 16 → (d : Stored) → Core s q (on_core q log) d

pub record Room (log : List (Placed ℕ)) : Type 0 where
  pub pieces : length log ≤ 79
  pub seats : (q : ℕ) → length (on_core q log) ≤ 64
  pub cores : Each (λ e. e.on < 16) log

module _ (s : Layout) (k : List (Placed ℕ)) (e : Placed ℕ) (l : List (Placed ℕ)) (room : Room (k ++ (e ∷ l))) (old : Kept s k) where
  low : e.on < 16
  low = each-middle (λ (b : Placed ℕ). b.on < 16) k e l room.cores

  free : s.count < 79
  free = omega (arith, room.pieces, length-append k (e ∷ l), old.count)

  seats : (q : ℕ) → length (on_core q k) + length (on_core q (e ∷ l)) ≤ 64
  seats q = omega (arith, room.seats q, ap length (on-append q k (e ∷ l)), length-append (on_core q k) (on_core q (e ∷ l)))

  seat : length (on_core e.on k) < 64
  seat = (let h : on_core e.on (e ∷ l) ≡ e ∷ on_core e.on l = simp (eq-eqb e.on e.on refl) in omega (arith, seats e.on, ap length h))

  kept_put : Kept (put_of s e.on e.item e.piece) (k ++ (e ∷ []))
  kept_put = record {
    size = put-sizes s e.on e.item e.piece old.size;
    count = put_count s e.on e.item e.piece ∙ omega (arith, old.count, length-append k (e ∷ []));
    pieces = put-pieces s e (omega (arith, free, old.size.of-pieces))
        ∙ (ap (λ (z : List Stored). z ++ (stored_of e ∷ [])) old.pieces ∙ sym (map_snoc stored_of k e));
    core = λ q h d. by q h d (eqb e.on q) refl;
  }
    where
      by : (q : ℕ) → q < 16 → (d : Stored) (t : Bool) → eqb e.on q ≡ t → Core (put_of s e.on e.item e.piece) q (on_core q (k ++ (e ∷ []))) d
      by q h d true f =
          subst (λ (r : ℕ). Core (put_of s e.on e.item e.piece) r (on_core r (k ++ (e ∷ []))) d) (eqb-true e.on q f)
          (rw (on-here k e e.on refl) (core-here s old.size e d free low (on_core e.on k) (old.core e.on low d) seat))
      by q h d false f =
          rw (on-other k e q (eqb-false e.on q f))
          (core-other s old.size e d free low q (on_core q k) (eqb-false e.on q f) (omega (arith, (old.core e.on low d).len, seat))
          (omega (arith, seats q)) (old.core q h d))

kept_on : (l : List (Placed ℕ)) (s : Layout) (k : List (Placed ℕ)) → Room (k ++ l) → Kept s k → Kept (layout_on s l) (k ++ l)
kept_on [] s k room h = rw append-nil h
kept_on (e ∷ l) s k room h =
    let z : k ++ (e ∷ l) ≡ (k ++ (e ∷ [])) ++ l = sym (append_assoc k (e ∷ []) l) in
    rw z (kept_on l (put_of s e.on e.item e.piece) (k ++ (e ∷ [])) (rw z at room) (kept_put s k e l room h))

kept-none : Kept none []
unfolding none
kept-none = record {
  size = record { of-pieces = refl; of-rows = refl; of-lens = refl; of_words = refl };
  count = refl;
  pieces = refl;
  core = λ q h d. record { len = zeros 16 q; word = zeros 16 q; num = λ j i. absurd (omega arith); row = λ j i. absurd (omega arith) };
}

pub kept : (l : List (Placed ℕ)) → Room l → Kept (layout_on none l) l
kept l room = kept_on l none [] room kept-none

-- ---- as lists

module _ (s : Layout) (l : List (Placed ℕ)) (room : Room l) (has : Kept s l) where
  numbers-long : (q : ℕ) → q < 16 → length (numbers_on s q) ≡ length (on_core q l)
  numbers-long q low =
      let c = has.core q low blank in
      length-take-le (get_or s.lens q 0) (drop (q * 64) s.rows)
      (omega (arith, c.len, room.seats q, length-drop (q * 64) s.rows, has.size.of-rows)) ∙ c.len

  numbers-show : (q : ℕ) → q < 16 → map (λ i. get_or s.pieces i blank) (numbers_on s q) ≡ map stored_of (on_core q l)
  numbers-show q low =
      let at : ℕ → Stored = λ i. get_or s.pieces i blank in
      let c = has.core q low (at 0) in
      let long : length (map at (numbers_on s q)) ≡ length (on_core q l) = length-map (numbers_on s q) at ∙ numbers-long q low in
      ext_get_or (at 0) (map at (numbers_on s q)) (map stored_of (on_core q l)) (long ∙ sym (length-map (on_core q l) stored_of)) (λ j inside.
      let below : j < length (on_core q l) = omega (arith, long) in
      get_or-map at (numbers_on s q) j 0
      ∙ (ap at (get_or-take (get_or s.lens q 0) (drop (q * 64) s.rows) j 0 (omega (arith, c.len)) ∙ get_or-drop (q * 64) s.rows j 0)
      ∙ c.row j below))

  same-pieces : (x : List (Placed ℕ)) → map kept_piece (map stored_of x) ≡ map (λ e. e.piece) x
  same-pieces [] = refl
  same-pieces (e ∷ x) = cc (piece-stored e.item e.piece, same-pieces x)

  pub kept-shows : LayoutShows s l
  kept-shows = record {
    count = has.count;
    pieces = has.pieces;
    lens = λ q low. (has.core q low blank).len ∙ sym (length-map (on_core q l) (λ (e : Placed ℕ). e.piece));
    numbers = numbers-show;
    rows = λ q low. sym (map-map kept_piece (λ (i : ℕ). get_or s.pieces i blank) (numbers_on s q))
        ∙ (ap (map kept_piece) (numbers-show q low) ∙ same-pieces (on_core q l));
  }
