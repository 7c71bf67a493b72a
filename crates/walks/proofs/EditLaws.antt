-- The three edits as one: the items before and after are one list, with the edited item in it or without it.
-- Assumes nothing.
--
--   edit-around                     the items before and after any edit are one list, with an item of the edited key put in or not
--   without-each, replaced-each     what holds of each item, after an edit
--   without-apart, replaced-apart   keys stay apart
--   without-short, replaced-long    how many items there are
use mathlib.Core.Path.{◌≡◌, refl, sym, ap}
use mathlib.Core.Bool.{Bool, true, false, cond}
use mathlib.Core.Logic.{inl, inr}
use mathlib.Core.List.{List, [], ◌∷◌, append-nil}
use Prim.Native.Nat.{suc, ◌≤◌}
use native.Mathlib.Omega.{arith}
use lib.ListN.{length}
use Rattle.demand.specs.Sizes.{Each}
use Rattle.walks.specs.Lists.{Apart}
use Rattle.walks.specs.Edits.{Keyed, Edit, add, withdraw, retime, without, replaced, edited, edited_key}
use Rattle.walks.proofs.KeyLaws.{Exact}
use Rattle.walks.proofs.KeptLaws.{Between, Around}

module _ {A K : Type 0} (N : Keyed A K) where
  pub without-each : (P : A → Type 0) (k : K) (l : List A) → Each P l → Each P (without N k l)
  without-each P k [] h = tt
  without-each P k (a ∷ l) h = by (N.same k (N.key a)) (without-each P k l h.1)
    where
      by : (t : Bool) → Each P (without N k l) → Each P (cond t l (a ∷ without N k l))
      by true rec = h.1
      by false rec = (h.0, rec)

  pub without-apart : (k : K) (l : List A) → Apart N.key l → Apart N.key (without N k l)
  without-apart k [] h = tt
  without-apart k (a ∷ l) h = by (N.same k (N.key a)) (without-apart k l h.1)
    where
      by : (t : Bool) → Apart N.key (without N k l) → Apart N.key (cond t l (a ∷ without N k l))
      by true rec = h.1
      by false rec = (without-each (λ b. N.key b ≡ N.key a → ⊥) k l h.0, rec)

  pub replaced-each : (P : A → Type 0) (b : A) → P b → (l : List A) → Each P l → Each P (replaced N b l)
  replaced-each P b good [] h = tt
  replaced-each P b good (a ∷ l) h = by (N.same (N.key b) (N.key a)) (replaced-each P b good l h.1)
    where
      by : (t : Bool) → Each P (replaced N b l) → Each P (cond t (b ∷ l) (a ∷ replaced N b l))
      by true rec = (good, h.1)
      by false rec = (h.0, rec)

  pub without-short : (k : K) (l : List A) → length (without N k l) ≤ length l
  without-short k [] = omega arith
  without-short k (a ∷ l) = by (N.same k (N.key a)) (without-short k l)
    where
      by : (t : Bool) → length (without N k l) ≤ length l → length (cond t l (a ∷ without N k l)) ≤ suc (length l)
      by true rec = omega arith
      by false rec = omega arith

  pub replaced-long : (b : A) (l : List A) → length (replaced N b l) ≡ length l
  replaced-long b [] = refl
  replaced-long b (a ∷ l) = by (N.same (N.key b) (N.key a)) (replaced-long b l)
    where
      by : (t : Bool) → length (replaced N b l) ≡ length l → length (cond t (b ∷ l) (a ∷ replaced N b l)) ≡ suc (length l)
      by true rec = refl
      by false rec = ap suc rec

module _ {A K : Type 0} (N : Keyed A K) (exact : Exact N) where
  pub replaced-apart : (b : A) (l : List A) → Apart N.key l → Apart N.key (replaced N b l)
  replaced-apart b [] h = tt
  replaced-apart b (a ∷ l) h = by (N.same (N.key b) (N.key a)) refl (replaced-apart b l h.1)
    where
      by : (t : Bool) → N.same (N.key b) (N.key a) ≡ t → Apart N.key (replaced N b l) → Apart N.key (cond t (b ∷ l) (a ∷ replaced N b l))
      by true told rec = (rw (exact.told (N.key b) (N.key a) told) h.0, h.1)
      by false told rec = (replaced-each N (λ c. N.key c ≡ N.key a → ⊥) b (exact.untold (N.key b) (N.key a) told) l h.0, rec)

  -- ---- one list, with the edited item or without it

  between_more : (k : K) (a : A) (xs ys l : List A) → Between N k xs ys l → Between N k (a ∷ xs) ys (a ∷ l)
  between_more k a xs ys l (inl e) = inl (ap (λ (z : List A). a ∷ z) e)
  between_more k a xs ys l (inr h) = inr (h.0, h.1, ap (λ (z : List A). a ∷ z) h.2)

  around-more : (k : K) (a : A) {old new : List A} → Around N k old new → Around N k (a ∷ old) (a ∷ new)
  around-more k a {old} {new} h = record {
    xs = a ∷ h.xs;
    ys = h.ys;
    in-old = between_more k a h.xs h.ys old h.in-old;
    in-new = between_more k a h.xs h.ys new h.in-new;
  }

  without-around : (k : K) (l : List A) → Around N k l (without N k l)
  without-around k [] = record { xs = []; ys = []; in-old = inl refl; in-new = inl refl }
  without-around k (a ∷ l) = by (N.same k (N.key a)) refl (without-around k l)
    where
      by : (t : Bool) → N.same k (N.key a) ≡ t → Around N k l (without N k l) → Around N k (a ∷ l) (cond t l (a ∷ without N k l))
      by true told rec = record { xs = []; ys = l; in-old = inr (a, sym (exact.told k (N.key a) told), refl); in-new = inl refl }
      by false told rec = around-more k a rec

  replaced-around : (b : A) (l : List A) → Around N (N.key b) l (replaced N b l)
  replaced-around b [] = record { xs = []; ys = []; in-old = inl refl; in-new = inl refl }
  replaced-around b (a ∷ l) = by (N.same (N.key b) (N.key a)) refl (replaced-around b l)
    where
      by : (t : Bool) → N.same (N.key b) (N.key a) ≡ t → Around N (N.key b) l (replaced N b l)
          → Around N (N.key b) (a ∷ l) (cond t (b ∷ l) (a ∷ replaced N b l))
      by true told rec = record { xs = []; ys = l; in-old = inr (a, sym (exact.told (N.key b) (N.key a) told), refl); in-new = inr (b, refl, refl) }
      by false told rec = around-more (N.key b) a rec

  pub edit-around : (e : Edit A K) (l : List A) → Around N (edited_key N e) l (edited N e l)
  edit-around (add a) l = record { xs = l; ys = []; in-old = inl (sym (append-nil l)); in-new = inr (a, refl, refl) }
  edit-around (withdraw k) l = without-around k l
  edit-around (retime a) l = replaced-around a l
