-- What the test `alike` tells of two plans: that each piece of a name is on its core as often in the one as in the other.
-- Assumes nothing.
--
--   same-piece-exact, same-placed-exact      the tests tell equal pieces, and equal pieces on equal cores, from others
--   only_same, every-same, every-each, every_some, every_map      tests on lists, and what they tell of their elements
--   each-with, found         what holds of all that a list has; and where something passes a test, one that does
--   of-each                  what is told of an item is of that item
--   alike-says, alike-found, alike-means     the test holds exactly where each piece is on its core as often
use mathlib.Core.Path.{◌≡◌, refl, sym, ap, subst}
use mathlib.Core.Bool.{Bool, true, false, ◌&&◌}
use mathlib.Core.Logic.{inl, inr, ◌↔◌}
use mathlib.Core.List.{List, [], ◌∷◌, map}
use Prim.Native.Nat.{ℕ, ◌<◌}
use native.Mathlib.Decide.{dec_lt}
use native.Mathlib.Omega.{arith}
use borrow.Author.Tests.{eq-eqb, eqb-true}
use lib.Dec.{eqb}
use lib.ListN.{length}
use Rattle.demand.specs.declared.Piece.{Piece}
use Rattle.demand.specs.Kinds.{kind_number}
use Rattle.demand.specs.Sizes.{Each, SomeOf}
use Rattle.demand.proofs.Tests.{both_left, both_right}
use Rattle.demand.proofs.KindLaws.{kind-one}
use Rattle.task.specs.Names.{same_bytes}
use Rattle.task.proofs.NameLaws.{same-bytes-exact}
use Rattle.walks.specs.Lists.{keep, only}
use Rattle.walks.specs.Way.{Placed}
use Rattle.lines.specs.Lines.{every}
use Rattle.listing.specs.Diff.{same_piece, same_placed, how_often, of_item, as_often, alike, Alike}
use Rattle.listing.proofs.ByteOrderLaws.{never, only-each, only-has}

-- ---- what is the same

abbrev test : Piece → Piece → Bool
test p q =
    eqb (kind_number p.kind) (kind_number q.kind) && eqb p.budget q.budget && eqb p.window q.window && eqb p.period q.period
    && eqb p.jitter q.jitter && eqb p.preempt q.preempt && eqb p.migrate q.migrate

pub same-piece-exact : (p q : Piece) → (same_piece p q ≡ true) ↔ (p ≡ q)
unfolding same_piece
same-piece-exact p q = (equal, λ e. subst (λ (r : Piece). test p r ≡ true) e own)
  where
    own : test p p ≡ true
    own =
        rw (
          eq-eqb (kind_number p.kind) (kind_number p.kind) refl,
          eq-eqb p.budget p.budget refl,
          eq-eqb p.window p.window refl,
          eq-eqb p.period p.period refl,
          eq-eqb p.jitter p.jitter refl,
          eq-eqb p.preempt p.preempt refl,
          eq-eqb p.migrate p.migrate refl,
        )

    equal : test p q ≡ true → p ≡ q
    equal e =
        let k = eqb (kind_number p.kind) (kind_number q.kind) in
        let b = eqb p.budget q.budget in
        let w = eqb p.window q.window in
        let t = eqb p.period q.period in
        let j = eqb p.jitter q.jitter in
        let u = eqb p.preempt q.preempt in
        let m = eqb p.migrate q.migrate in
        let e6 = both_left (k && b && w && t && j && u) m e in
        let e5 = both_left (k && b && w && t && j) u e6 in
        let e4 = both_left (k && b && w && t) j e5 in
        let e3 = both_left (k && b && w) t e4 in
        let e2 = both_left (k && b) w e3 in
        let all : ◌≡◌ {A = Piece} (record {
          kind = p.kind;
          budget = p.budget;
          window = p.window;
          period = p.period;
          jitter = p.jitter;
          preempt = p.preempt;
          migrate = p.migrate;
        })
        (record { kind = q.kind; budget = q.budget; window = q.window; period = q.period; jitter = q.jitter; preempt = q.preempt; migrate = q.migrate }) =
        cc (
          kind-one p.kind q.kind (eqb-true (kind_number p.kind) (kind_number q.kind) (both_left k b e2)),
          eqb-true p.budget q.budget (both_right k b e2),
          eqb-true p.window q.window (both_right (k && b) w e3),
          eqb-true p.period q.period (both_right (k && b && w) t e4),
          eqb-true p.jitter q.jitter (both_right (k && b && w && t) j e5),
          eqb-true p.preempt q.preempt (both_right (k && b && w && t && j) u e6),
          eqb-true p.migrate q.migrate (both_right (k && b && w && t && j && u) m e),
        ) in
        all

-- ---- what passes a test

module _ {A : Type 0} where
  -- tests that are equal on a list
  pub only_same : (t u : A → Bool) (l : List A) → Each (λ a. t a ≡ u a) l → only t l ≡ only u l
  only_same t u [] h = refl
  only_same t u (a ∷ l) h = by (t a) (u a) h.0 (only_same t u l h.1)
    where
      by : (s v : Bool) → s ≡ v → only t l ≡ only u l → keep s a (only t l) ≡ keep v a (only u l)
      by true true e h = ap (λ (k : List A). a ∷ k) h
      by true false e h = never e
      by false true e h = never (sym e)
      by false false e h = h

  pub every-same : (t u : A → Bool) (l : List A) → Each (λ a. t a ≡ u a) l → every t l ≡ every u l
  every-same t u [] h = refl
  every-same t u (a ∷ l) h = cc (h.0, every-same t u l h.1)

  pub every-each : (t : A → Bool) (l : List A) → Each (λ a. t a ≡ true) l → every t l ≡ true
  every-each t [] h = refl
  every-each t (a ∷ l) h = rw h.0 (every-each t l h.1)

  pub every_some : (t : A → Bool) (l : List A) (a : A) → every t l ≡ true → SomeOf (λ x. x ≡ a) l → t a ≡ true
  every_some t (b ∷ l) a h (inl e) = subst (λ (c : A). t c ≡ true) e (both_left (t b) (every t l) h)
  every_some t (b ∷ l) a h (inr i) = every_some t l a (both_right (t b) (every t l) h) i
  every_some t [] a h x'' = elim x'' [ ]

  pub each-with : (P : A → Type 0) (l : List A) → ((a : A) → SomeOf (λ x. x ≡ a) l → P a) → Each P l
  each-with P [] h = tt
  each-with P (a ∷ l) h = (h a (inl refl), each-with P l (λ b i. h b (inr i)))

  -- one passes, or none does
  pub found : (t : A → Bool) (l : List A) → 0 < length (only t l) → (a : A) × ((t a ≡ true) × SomeOf (λ x. x ≡ a) l)
  found t l some = by (only t l) (only-each t l) some
    where
      by : (k : List A) → Each (λ a. (t a ≡ true) × SomeOf (λ x. x ≡ a) l) k → 0 < length k → (a : A) × ((t a ≡ true) × SomeOf (λ x. x ≡ a) l)
      by [] h some = absurd (omega arith)
      by (a ∷ k) h some = (a, h.0)

pub every_map : {A B : Type 0} (t : B → Bool) (f : A → B) (l : List A) → every t (map f l) ≡ every (λ a. t (f a)) l
every_map t f [] = refl
every_map t f (a ∷ l) = ap (λ (b : Bool). t (f a) && b) (every_map t f l)

-- ---- as often

module _ {A : Type 0} (same : A → A → Bool) (exact : (a b : A) → (same a b ≡ true) ↔ (a ≡ b)) where
  pub same-placed-exact : (e f : Placed A) → (same_placed same e f ≡ true) ↔ (e ≡ f)
  same-placed-exact e f = (equal, λ is. subst (λ (g : Placed A). same_placed same e g ≡ true) is own)
    where
      own : same_placed same e e ≡ true
      own = rw ((exact e.item e.item).1 refl, eq-eqb e.on e.on refl) ((same-piece-exact e.piece e.piece).1 refl)

      equal : same_placed same e f ≡ true → e ≡ f
      equal h =
          let a = same e.item f.item in
          let b = eqb e.on f.on in
          let c = same_piece e.piece f.piece in
          let two = both_left (a && b) c h in
          let all : ◌≡◌ {A = Placed A} (record { on = e.on; item = e.item; piece = e.piece }) (record { on = f.on; item = f.item; piece = f.piece }) =
          cc (
            (exact e.item f.item).0 (both_left a b two),
            eqb-true e.on f.on (both_right a b two),
            (same-piece-exact e.piece f.piece).0 (both_right (a && b) c h),
          ) in
          all

  pub of-each : (n : A) (l : List (Placed A)) → Each (λ e. e.item ≡ n) (of_item same n l)
  of-each n l = by (of_item same n l) (only-each (λ e. same e.item n) l)
    where
      by : (k : List (Placed A)) → Each (λ e. (same e.item n ≡ true) × SomeOf (λ x. x ≡ e) l) k → Each (λ e. e.item ≡ n) k
      by [] h = tt
      by (e ∷ k) h = ((exact e.item n).0 h.0.0, by k h.1)

  pub alike-says : (n : A) (l k : List (Placed A)) → alike same n l k ≡ true → (e : Placed A) → e.item ≡ n → how_often same e l ≡ how_often same e k
  alike-says n l k h e is = elim (dec_lt 0 (how_often same e l)) [
    | yes some ↦ eqb-true (how_often same e l) (how_often same e k) (told l k (both_left (every (as_often same l k) (of_item same n l)) (every (as_often same k l) (of_item same n k)) h) some)
    | no none ↦ elim (dec_lt 0 (how_often same e k)) [
      | yes some ↦ sym (eqb-true (how_often same e k) (how_often same e l) (told k l (both_right (every (as_often same l k) (of_item same n l)) (every (as_often same k l) (of_item same n k)) h) some))
      | no neither ↦ omega arith
    ]
  ]
    where
      told : (l k : List (Placed A)) → every (as_often same l k) (of_item same n l) ≡ true → 0 < how_often same e l → as_often same l k e ≡ true
      told l k all some =
          let there = found (same_placed same e) l some in
          let at = (same-placed-exact e there.0).0 there.1.0 in
          let here : SomeOf (λ x. x ≡ e) l = subst (λ (f : Placed A). SomeOf (λ x. x ≡ f) l) (sym at) there.1.1 in
          every_some (as_often same l k) (of_item same n l) e all (only-has (λ f. same f.item n) e ((exact e.item n).1 is) l here)

  pub alike-found : (n : A) (l k : List (Placed A)) → ((e : Placed A) → e.item ≡ n → how_often same e l ≡ how_often same e k) → alike same n l k ≡ true
  alike-found n l k as-often = rw (all l k as-often) (all k l (λ e is. sym (as-often e is)))
    where
      all : (l k : List (Placed A)) → ((e : Placed A) → e.item ≡ n → how_often same e l ≡ how_often same e k) → every (as_often same l k) (of_item same n l) ≡ true
      all l k as-often = every-each (as_often same l k) (of_item same n l) (each (of_item same n l) (of-each n l))
        where
          each : (m : List (Placed A)) → Each (λ e. e.item ≡ n) m → Each (λ e. as_often same l k e ≡ true) m
          each [] h = tt
          each (e ∷ m) h = (eq-eqb (how_often same e l) (how_often same e k) (as-often e h.0), each m h.1)

pub alike-means : (n : List ℕ) (l k : List (Placed (List ℕ))) → (alike same_bytes n l k ≡ true) ↔ Alike n l k
alike-means n l k = (alike-says same_bytes same-bytes-exact n l k, alike-found same_bytes same-bytes-exact n l k)
