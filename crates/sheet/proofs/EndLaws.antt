-- Where a sheet ends: nothing stands behind its last newline exactly where its last byte is one.
-- Assumes nothing.
--
--   tail_of bytes     what stands behind the last newline: nothing, or a line that was cut
--   tail-ends        that is so
use mathlib.Core.Path.{◌≡◌, refl, ap}
use mathlib.Core.Bool.{Bool, true, false, cond}
use mathlib.Core.Logic.{◌↔◌}
use mathlib.Core.List.{List, [], ◌∷◌, get_last_d}
use Prim.Native.Nat.{ℕ, suc}
use native.Mathlib.Omega.{arith}
use borrow.Author.Tests.{eqb-true, eqb-false}
use lib.Dec.{eqb}
use lib.ListN.{length}
use Rattle.demand.specs.Tables.{Not}
use Rattle.lines.specs.Lines.{newline, up_to, beyond}

unfoldable pub tail_of : List ℕ → List ℕ
tail_of bytes = get_last_d (up_to newline bytes ∷ beyond newline bytes) []

pub cons-some : {A : Type 0} (x : A) (l : List A) → Not (x ∷ l ≡ [])
cons-some x l e = let z : suc (length l) ≡ 0 = ap length e in omega arith

-- the last of the runs l and ls is nothing exactly where s ends in a newline
Ends : List ℕ → List (List ℕ) → List ℕ → Type 0
Ends l ls s = (get_last_d (l ∷ ls) [] ≡ []) ↔ (get_last_d s newline ≡ newline)

first_some : (x : ℕ) (s : List ℕ) → beyond newline (x ∷ s) ≡ [] → Not (up_to newline (x ∷ s) ≡ [])
unfolding up_to beyond
first_some x s = by (eqb x newline)
  where
    by : (b : Bool) → cond b (up_to newline s ∷ beyond newline s) (beyond newline s) ≡ [] → Not (cond b [] (x ∷ up_to newline s) ≡ [])
    by true one e = cons-some (up_to newline s) (beyond newline s) one
    by false one e = cons-some x (up_to newline s) e

ends_some : (x : ℕ) (s : List ℕ) → Ends (up_to newline (x ∷ s)) (beyond newline (x ∷ s)) (x ∷ s)
unfolding Ends get_last_d up_to beyond
ends_some x [] = by (eqb x newline) refl
  where
    by : (b : Bool) → eqb x newline ≡ b → Ends (cond b [] (x ∷ [])) (cond b ([] ∷ []) []) (x ∷ [])
    by true is = ((λ e. eqb-true x newline is), (λ e. refl))
    by false other = ((λ e. absurd (cons-some x [] e)), (λ e. absurd (eqb-false x newline other e)))
ends_some x (y ∷ s) = by (eqb x newline) (ends_some y s)
  where
    on : (l : List ℕ) (ls : List (List ℕ)) → (ls ≡ [] → Not (l ≡ [])) → Ends l ls (y ∷ s) → Ends (x ∷ l) ls (x ∷ y ∷ s)
    on l [] some h = ((λ e. absurd (cons-some x l e)), (λ e. absurd (some refl (h.1 e))))
    on l (m ∷ ls) some h = h

    by : (b : Bool) → Ends (up_to newline (y ∷ s)) (beyond newline (y ∷ s)) (y ∷ s)
        → Ends (cond b [] (x ∷ up_to newline (y ∷ s))) (cond b (up_to newline (y ∷ s) ∷ beyond newline (y ∷ s)) (beyond newline (y ∷ s))) (x ∷ y ∷ s)
    by true h = h
    by false h = on (up_to newline (y ∷ s)) (beyond newline (y ∷ s)) (first_some y s) h

pub tail-ends : (bytes : List ℕ) → (tail_of bytes ≡ []) ↔ (get_last_d bytes newline ≡ newline)
unfolding tail_of Ends get_last_d up_to beyond
tail-ends [] = ((λ e. refl), (λ e. refl))
tail-ends (x ∷ s) = ends_some x s
