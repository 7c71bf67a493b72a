-- What a layout says of the pieces that were put.
-- Assumes nothing.
--
--   layout-append      one log after another
--   count-is           the count of pieces
--   lens-is            a core's length is the number of pieces put there
--   seat-room, layout-more      of an array of seats, one more: there is room for it where there is for all, and the layout with it
use mathlib.Core.Path.{◌≡◌, refl, sym, ap, ◌∙◌, subst}
use mathlib.Core.Bool.{Bool, true, false}
use mathlib.Core.List.{List, [], ◌∷◌, ◌++◌}
use Prim.Native.Nat.{ℕ, zero, suc, ◌+◌, ◌<◌, ◌≤◌}
use native.Mathlib.Omega.{arith}
use borrow.Author.Tests.{eqb-true, eqb-false, eq-eqb}
use lib.Dec.{eqb}
use lib.ListN.{length, get_or, length-set, replicate, take, drop, length-append, take-append-drop}
use lib.Seq.{get_or-set_other, get_or-set_same, drop-cons}
use Rattle.std.proofs.lemmas.List.{map-append}
use Rattle.demand.specs.declared.Piece.{Piece}
use Rattle.demand.specs.Sizes.{Each}
use Rattle.plan.specs.declared.Layout.{Layout}
use Rattle.plan.specs.Layout.{put_of, layout_on, none}
use Rattle.walks.specs.Lists.{keep}
use Rattle.walks.specs.Way.{Placed, on_core}
use Rattle.walks.proofs.SoundLaws.{on-append}
use Rattle.plan.specs.declared.seats.Seat.{Seat}
use Rattle.plan.specs.Ways.PlacedArray.{seated_as, placed_in, HasRoom}
use Rattle.plan.proofs.Lists.{map_more}

pub layout-append : (s : Layout) (k l : List (Placed ℕ)) → layout_on s (k ++ l) ≡ layout_on (layout_on s k) l
layout-append s [] l = refl
layout-append s (e ∷ k) l = layout-append (put_of s e.on e.item e.piece) k l

module _ (s : Layout) (p k : ℕ) (q : Piece) where
  pub put_count : (put_of s p k q).count ≡ s.count + 1
  unfolding put_of
  put_count = refl

  put-size : length (put_of s p k q).lens ≡ length s.lens
  unfolding put_of
  put-size = length-set s.lens p (get_or s.lens p 0 + 1)

  put-here : p < length s.lens → get_or (put_of s p k q).lens p 0 ≡ get_or s.lens p 0 + 1
  unfolding put_of
  put-here h = get_or-set_same s.lens p (get_or s.lens p 0 + 1) 0 h

  put_other : (r : ℕ) → (p ≡ r → ⊥) → get_or (put_of s p k q).lens r 0 ≡ get_or s.lens r 0
  unfolding put_of
  put_other r h = get_or-set_other s.lens p r (get_or s.lens p 0 + 1) 0 (λ same. h (sym same))

pub count-is : (s : Layout) (l : List (Placed ℕ)) → (layout_on s l).count ≡ s.count + length l
count-is s [] = omega arith
count-is s (e ∷ l) = omega (arith, count-is (put_of s e.on e.item e.piece) l, put_count s e.on e.item e.piece)

pub lens-is : (l : List (Placed ℕ)) (s : Layout) → length s.lens ≡ 16 → Each (λ e. e.on < 16) l → (q : ℕ)
    → get_or (layout_on s l).lens q 0 ≡ get_or s.lens q 0 + length (on_core q l)
lens-is [] s z h q = omega arith
lens-is (e ∷ l) s z h q = by (eqb e.on q) refl (lens-is l (put_of s e.on e.item e.piece) (put-size s e.on e.item e.piece ∙ z) h.1 q)
  where
    by : (t : Bool) → eqb e.on q ≡ t → get_or (layout_on (put_of s e.on e.item e.piece) l).lens q 0
        ≡ get_or (put_of s e.on e.item e.piece).lens q 0 + length (on_core q l)
        → get_or (layout_on (put_of s e.on e.item e.piece) l).lens q 0 ≡ get_or s.lens q 0 + length (keep t e (on_core q l))
    by true f r =
        let g = subst (λ (x : ℕ). get_or (put_of s e.on e.item e.piece).lens x 0 ≡ get_or s.lens x 0 + 1) (eqb-true e.on q f)
        (put-here s e.on e.item e.piece (omega (arith, h.0))) in omega arith
    by false f r = omega (arith, put_other s e.on e.item e.piece q (eqb-false e.on q f))

pub zeros : (n i : ℕ) → ◌≡◌ {A = ℕ} (get_or (replicate n 0) i 0) 0
zeros zero i = refl
zeros (suc n) zero = refl
zeros (suc n) (suc i) = zeros n i

pub none-size : length none.lens ≡ 16
unfolding none
none-size = refl

pub none-zero : (q : ℕ) → get_or none.lens q 0 ≡ 0
unfolding none
none-zero q = zeros 16 q

pub none-count : none.count ≡ 0
unfolding none
none-count = refl

-- ---- there is room for the next, where there is for all

each-middle : {A : Type 0} (P : A → Type 0) (l : List A) (a : A) (rest : List A) → Each P (l ++ (a ∷ rest)) → Each P l × P a
each-middle P [] a rest ok = (tt, ok.0)
each-middle P (b ∷ l) a rest ok = let more = each-middle P l a rest ok.1 in ((ok.0, more.0), more.1)

module _ (l : List (Placed ℕ)) (e : Placed ℕ) (rest : List (Placed ℕ)) (fits : HasRoom (l ++ (e ∷ rest))) where
  row_short : length (on_core e.on l) < 64
  row_short =
      let own : length (on_core e.on (e ∷ rest)) ≡ length (on_core e.on rest) + 1 = rw (eq-eqb e.on e.on refl) (omega arith) in
      omega (arith, fits.rows e.on, ap length (on-append e.on l (e ∷ rest)), length-append (on_core e.on l) (on_core e.on (e ∷ rest)), own)

  next-room : length (l ++ (e ∷ rest)) ≤ 79 → (s : Layout) → s ≡ layout_on none l
      → (s.count < 79) × (e.on < 16) × (e.item < 64) × (get_or s.lens e.on 0 < 64)
  next-room few s is =
      let cores = each-middle (λ e. e.on < 16) l e rest fits.cores in
      let len : get_or s.lens e.on 0 ≡ get_or none.lens e.on 0 + length (on_core e.on l) =
      ap (λ (z : Layout). get_or z.lens e.on 0) is ∙ lens-is l none none-size cores.0 e.on in
      let count : s.count ≡ none.count + length l = ap (λ (z : Layout). z.count) is ∙ count-is none l in (
        omega (arith, count, none-count, few, length-append l (e ∷ rest)),
        cores.1,
        (each-middle (λ e. e.item < 64) l e rest fits.places).1,
        omega (arith, len, none-zero e.on, row_short),
      )

-- ---- an array of seats, at one of them

module _ (seats : List Seat) (i : ℕ) (d : Seat) (low : i < length seats) where
  abbrev Before : List (Placed ℕ)
  Before = placed_in (take i seats)

  abbrev Here : Placed ℕ
  Here = seated_as (get_or seats i d)

  seat-more : placed_in (take (i + 1) seats) ≡ Before ++ (Here ∷ [])
  seat-more = map_more seated_as seats i d low

  seat-parts : placed_in seats ≡ Before ++ (Here ∷ placed_in (drop (suc i) seats))
  seat-parts =
      ap placed_in (sym (take-append-drop i seats) ∙ ap (λ (z : List Seat). take i seats ++ z) (drop-cons seats i d low))
      ∙ map-append seated_as (take i seats) (get_or seats i d ∷ drop (suc i) seats)

  pub seat-room : {placed : List (Placed ℕ)} → placed_in seats ≡ placed → HasRoom placed → length placed ≤ 79 → {s : Layout} → s ≡ layout_on none Before
      → (s.count < 79) × (Here.on < 16) × (Here.item < 64) × (get_or s.lens Here.on 0 < 64)
  seat-room is fits few {s} laid =
      let parts = sym is ∙ seat-parts in
      next-room Before Here (placed_in (drop (suc i) seats)) (rw parts at fits) (rw parts at few) s laid

  pub layout-more : (s t : Layout) → s ≡ layout_on none Before → t ≡ put_of s Here.on Here.item Here.piece → t ≡ layout_on none (placed_in (take (i + 1) seats))
  layout-more s t is put = put ∙ rw (seat-more, layout-append none Before (Here ∷ []), ← is)
