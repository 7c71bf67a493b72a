-- The code's way by ranks comes to the lines of the names that moved: two plans side by side.
-- Assumes nothing.
--
--   blocks-append            the lines of two runs of names
--   blocks-by-rank           rank after rank, under a name for each, the lines are those of the names that moved
use mathlib.Core.Path.{◌≡◌, refl, sym, ap, ◌∙◌, subst}
use mathlib.Core.Bool.{Bool, true, false, ◌&&◌, not, cond}
use mathlib.Core.List.{List, [], ◌∷◌, ◌++◌, map, map-map, append_assoc, append-nil}
use Prim.Native.Nat.{ℕ, zero, suc}
use borrow.Author.Tests.{eq-eqb, eqb-true}
use lib.Dec.{eqb}
use lib.ListN.{length, take, length-map}
use Rattle.demand.specs.Sizes.{Each, SomeOf}
use Rattle.task.specs.Names.{same_bytes}
use Rattle.task.proofs.NameLaws.{same-bytes-exact}
use Rattle.walks.specs.Lists.{keep, only}
use Rattle.walks.specs.Way.{Placed, relabel}
use Rattle.walks.proofs.ListLaws.{each-only, only-append, only-map, only_none}
use Rattle.lines.specs.Lines.{every}
use Rattle.listing.specs.ByteOrder.{rank_in, byte_ordered}
use Rattle.listing.specs.Diff.{same_piece, same_placed, how_often, of_item, as_often, alike, moved_names, side_by_side, diff_blocks}
use Rattle.listing.specs.Ways.RankArrays.{under, rank_block, rank_blocks}
use Rattle.listing.proofs.ByteOrderLaws.{never, rank-one, only-each, only-has, with_rank}
use Rattle.listing.proofs.AlikeLaws.{only_same, every-same, every_map, of-each}
use Rattle.listing.proofs.MovedLaws.{Covered, moves, names-are}

-- ---- by ranks

pub blocks-append : (l k : List (Placed (List ℕ))) (ms ns : List (List ℕ)) → diff_blocks l k (ms ++ ns) ≡ diff_blocks l k ms ++ diff_blocks l k ns
blocks-append l k [] ns = refl
blocks-append l k (m ∷ ms) ns =
    ap (λ (t : List ℕ). side_by_side (of_item same_bytes m l) (of_item same_bytes m k) ++ t) (blocks-append l k ms ns)
    ∙ sym (append_assoc (side_by_side (of_item same_bytes m l) (of_item same_bytes m k)) (diff_blocks l k ms) (diff_blocks l k ns))

map-own : {A : Type 0} (f : A → A) (l : List A) → Each (λ a. f a ≡ a) l → map f l ≡ l
map-own f [] h = refl
map-own f (a ∷ l) h = cc (h.0, map-own f l h.1)

module _ (ns : List (List ℕ)) where
  abbrev ranked : List (Placed (List ℕ)) → List (Placed ℕ)
  ranked l = map (relabel (rank_in ns)) l

  -- ranks tell names of ns apart
  agree : (m n : List ℕ) → SomeOf (λ x. x ≡ m) ns → SomeOf (λ x. x ≡ n) ns → eqb (rank_in ns m) (rank_in ns n) ≡ same_bytes m n
  agree m n here there = by (eqb (rank_in ns m) (rank_in ns n)) (same_bytes m n) refl refl
    where
      by : (s t : Bool) → eqb (rank_in ns m) (rank_in ns n) ≡ s → same_bytes m n ≡ t → s ≡ t
      by true true e f = refl
      by false false e f = refl
      by true false e f =
          never (sym ((same-bytes-exact m n).1 (rank-one ns m n here there (eqb-true (rank_in ns m) (rank_in ns n) e))) ∙ f)
      by false true e f = never (sym (eq-eqb (rank_in ns m) (rank_in ns n) (ap (rank_in ns) ((same-bytes-exact m n).0 f))) ∙ e)

  of-rank : (n : List ℕ) → SomeOf (λ x. x ≡ n) ns → (l : List (Placed (List ℕ))) → Covered ns l
      → of_item eqb (rank_in ns n) (ranked l) ≡ map (relabel (rank_in ns)) (of_item same_bytes n l)
  of-rank n here l cover =
      only-map (λ e. eqb e.item (rank_in ns n)) (relabel (rank_in ns)) l
      ∙ ap (map (relabel (rank_in ns))) (only_same (λ e. eqb (rank_in ns e.item) (rank_in ns n)) (λ e. same_bytes e.item n) l (each l cover))
    where
      each : (l : List (Placed (List ℕ))) → Covered ns l → Each (λ e. eqb (rank_in ns e.item) (rank_in ns n) ≡ same_bytes e.item n) l
      each [] h = tt
      each (e ∷ l) h = (agree e.item n h.0 here, each l h.1)

  often-rank : (e : Placed (List ℕ)) → SomeOf (λ x. x ≡ e.item) ns → (l : List (Placed (List ℕ))) → Covered ns l
      → how_often eqb (relabel (rank_in ns) e) (ranked l) ≡ how_often same_bytes e l
  often-rank e here l cover =
      let labelled : Placed ℕ = relabel (rank_in ns) e in
      ap (λ (k : List (Placed ℕ)). length k) (only-map (same_placed eqb labelled) (relabel (rank_in ns)) l)
      ∙ (length-map (only (λ f. same_placed eqb labelled (relabel (rank_in ns) f)) l) (relabel (rank_in ns))
      ∙ ap (λ (k : List (Placed (List ℕ))). length k)
      (only_same (λ f. same_placed eqb labelled (relabel (rank_in ns) f)) (same_placed same_bytes e) l (each l cover)))
    where
      each : (l : List (Placed (List ℕ))) → Covered ns l
          → Each (λ f. same_placed eqb (relabel (rank_in ns) e) (relabel (rank_in ns) f) ≡ same_placed same_bytes e f) l
      each [] h = tt
      each (f ∷ l) h =
          (ap (λ (b : Bool). b && eqb e.on f.on && same_piece e.piece f.piece) (agree e.item f.item here h.0), each l h.1)

  every-rank : (n : List ℕ) → SomeOf (λ x. x ≡ n) ns → (l k : List (Placed (List ℕ))) → Covered ns l → Covered ns k
      → every (as_often eqb (ranked l) (ranked k)) (of_item eqb (rank_in ns n) (ranked l)) ≡ every (as_often same_bytes l k) (of_item same_bytes n l)
  every-rank n here l k first second =
      ap (every (as_often eqb (ranked l) (ranked k))) (of-rank n here l first)
      ∙ (every_map (as_often eqb (ranked l) (ranked k)) (relabel (rank_in ns)) (of_item same_bytes n l)
      ∙ every-same (λ e. as_often eqb (ranked l) (ranked k) (relabel (rank_in ns) e)) (as_often same_bytes l k) (of_item same_bytes n l)
      (each (of_item same_bytes n l) (each-only (λ e. SomeOf (λ x. x ≡ e.item) ns) (λ e. same_bytes e.item n) l first)))
    where
      each : (m : List (Placed (List ℕ))) → Covered ns m
          → Each (λ e. as_often eqb (ranked l) (ranked k) (relabel (rank_in ns) e) ≡ as_often same_bytes l k e) m
      each [] h = tt
      each (e ∷ m) h = (cc (often-rank e h.0 l first, often-rank e h.0 k second), each m h.1)

  under-own : (n : List ℕ) (l : List (Placed (List ℕ))) → under n (map (relabel (rank_in ns)) (of_item same_bytes n l)) ≡ of_item same_bytes n l
  under-own n l =
      map-map (relabel (λ r. n)) (relabel (rank_in ns)) (of_item same_bytes n l)
      ∙ map-own (λ e. relabel (λ r. n) (relabel (rank_in ns) e)) (of_item same_bytes n l) (each (of_item same_bytes n l) (of-each same_bytes same-bytes-exact n l))
    where
      own : (e : Placed (List ℕ)) → e.item ≡ n → relabel (λ r. n) (relabel (rank_in ns) e) ≡ e
      own e is =
          let z : ◌≡◌ {A = Placed (List ℕ)} (record { on = e.on; item = n; piece = e.piece }) (record { on = e.on; item = e.item; piece = e.piece }) =
          cc is in
          z

      each : (m : List (Placed (List ℕ))) → Each (λ e. e.item ≡ n) m → Each (λ e. relabel (λ r. n) (relabel (rank_in ns) e) ≡ e) m
      each [] h = tt
      each (e ∷ m) h = (own e h.0, each m h.1)

  -- a rank that no name has is no piece's
  none-ranked : (r : ℕ) → with_rank ns r ≡ [] → (l : List (Placed (List ℕ))) → Covered ns l → of_item eqb r (ranked l) ≡ []
  none-ranked r none l cover =
      only-map (λ e. eqb e.item r) (relabel (rank_in ns)) l ∙ ap (map (relabel (rank_in ns))) (only_none (λ e. eqb (rank_in ns e.item) r) l (each l cover))
    where
      other : (n : List ℕ) → SomeOf (λ x. x ≡ n) ns → (b : Bool) → eqb (rank_in ns n) r ≡ b → b ≡ false
      other n here true e = absurd (subst (λ (m : List (List ℕ)). SomeOf (λ x. x ≡ n) m) none (only-has (λ m. eqb (rank_in ns m) r) n e ns here))
      other n here false e = refl

      each : (l : List (Placed (List ℕ))) → Covered ns l → Each (λ e. eqb (rank_in ns e.item) r ≡ false) l
      each [] h = tt
      each (e ∷ l) h = (other e.item h.0 (eqb (rank_in ns e.item) r) refl, each l h.1)

  module _ (l k : List (Placed (List ℕ))) (first : Covered ns l) (second : Covered ns k) (name : ℕ → List ℕ)
      (names : (n : List ℕ) → SomeOf (λ x. x ≡ n) ns → name (rank_in ns n) ≡ n) where
    at_name : (n : List ℕ) → SomeOf (λ x. x ≡ n) ns
        → cond (alike eqb (rank_in ns n) (ranked l) (ranked k)) [] (rank_block (name (rank_in ns n)) (rank_in ns n) (ranked l) (ranked k))
        ≡ diff_blocks l k (only (moves l k) (n ∷ []))
    at_name n here =
        let tells : alike eqb (rank_in ns n) (ranked l) (ranked k) ≡ alike same_bytes n l k =
        cc (every-rank n here l k first second, every-rank n here k l second first) in
        let left : under (name (rank_in ns n)) (of_item eqb (rank_in ns n) (ranked l)) ≡ of_item same_bytes n l =
        rw (names n here, of-rank n here l first) (under-own n l) in
        let right : under (name (rank_in ns n)) (of_item eqb (rank_in ns n) (ranked k)) ≡ of_item same_bytes n k =
        rw (names n here, of-rank n here k second) (under-own n k) in
        let block : rank_block (name (rank_in ns n)) (rank_in ns n) (ranked l) (ranked k) ≡ side_by_side (of_item same_bytes n l) (of_item same_bytes n k) = cc (left, right) in
        ap (λ (b : Bool). cond b [] (rank_block (name (rank_in ns n)) (rank_in ns n) (ranked l) (ranked k))) tells
        ∙ (ap (λ (t : List ℕ). cond (alike same_bytes n l k) [] t) block ∙ by (alike same_bytes n l k))
      where
        by : (b : Bool) → cond b [] (side_by_side (of_item same_bytes n l) (of_item same_bytes n k)) ≡ diff_blocks l k (keep (not b) n [])
        by true = refl
        by false = sym (append-nil (side_by_side (of_item same_bytes n l) (of_item same_bytes n k)))

    at-rank : (r : ℕ) → cond (alike eqb r (ranked l) (ranked k)) [] (rank_block (name r) r (ranked l) (ranked k))
        ≡ diff_blocks l k (only (moves l k) (take 1 (with_rank ns r)))
    at-rank r = by (with_rank ns r) refl (only-each (λ n. eqb (rank_in ns n) r) ns)
      where
        by : (m : List (List ℕ)) → with_rank ns r ≡ m → Each (λ n. (eqb (rank_in ns n) r ≡ true) × SomeOf (λ x. x ≡ n) ns) m
            → cond (alike eqb r (ranked l) (ranked k)) [] (rank_block (name r) r (ranked l) (ranked k)) ≡ diff_blocks l k (only (moves l k) (take 1 m))
        by [] none h = rw (none-ranked r none l first, none-ranked r none k second)
        by (n ∷ m) some h =
            subst (λ (q : ℕ). cond (alike eqb q (ranked l) (ranked k)) [] (rank_block (name q) q (ranked l) (ranked k)) ≡ diff_blocks l k (only (moves l k) (n ∷ [])))
            (eqb-true (rank_in ns n) r h.0.0) (at_name n h.0.1)

    to-rank : (r : ℕ) → rank_blocks name (ranked l) (ranked k) r ≡ diff_blocks l k (only (moves l k) (byte_ordered ns r))
    to-rank zero = refl
    to-rank (suc r) =
        cc (to-rank r, at-rank r)
        ∙ (sym (blocks-append l k (only (moves l k) (byte_ordered ns r)) (only (moves l k) (take 1 (with_rank ns r))))
        ∙ ap (diff_blocks l k) (sym (only-append (moves l k) (byte_ordered ns r) (take 1 (with_rank ns r)))))

    pub blocks-by-rank : rank_blocks name (ranked l) (ranked k) (length ns) ≡ diff_blocks l k (moved_names l k)
    blocks-by-rank = to-rank (length ns) ∙ ap (diff_blocks l k) (names-are l k ns first second)
