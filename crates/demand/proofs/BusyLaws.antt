-- Laws of the least n ≥ 1 with f n ≤ n, where f does not fall: the busy length and the tight window.
-- Assumes nothing.
--
--   least-le, least-unique        a least number is below all others, and one
--   clear-one, clear_step         a climb passes nothing over
--   least-holding-finds           `least_holding` finds it
--   finds-unique                  what is found is one
--   busy-length-is, -within       what holds the busy sum least is the busy length, within the limit
--   busy-found, -nothing          how a climb to it ends
--   tight-of-last                 the tight window of the last of the pieces
use Rattle.std.specs.Prelude.{None, Option, Some}
use mathlib.Core.Path.{◌≡◌, refl, ap, subst}
use mathlib.Core.Bool.{Bool, true, false}
use mathlib.Core.List.{List, [], ◌∷◌, ◌++◌}
use Prim.Native.Nat.{ℕ, zero, suc, ◌+◌, ◌≤◌, ◌<◌}
use native.Mathlib.Decide.{dec_lt}
use native.Mathlib.Omega.{arith}
use borrow.Author.Tests.{leb-true, leb-false}
use lib.Dec.{leb}
use Rattle.demand.specs.declared.Charged.{Charged}
use Rattle.demand.specs.Sizes.{busy_most}
use Rattle.demand.specs.Busy.{Least, Finds, Clear, climbing, least_holding, busy_load, busy_sum, busy_length, tight_window}
use Rattle.demand.specs.Answer.{tight_of_last}
use Rattle.demand.proofs.Sums.{total_mono}
use Rattle.demand.proofs.DemandLaws.{busy-load-mono}

pub least-le : {P : ℕ → Type 0} {n : ℕ} → Least P n → (k : ℕ) → P k → n ≤ k
least-le {P} {n} m k p = elim (dec_lt k n) [ yes h ↦ absurd (m.none_below k h p) | no h ↦ omega arith ]

pub least-unique : {P : ℕ → Type 0} {m n : ℕ} → Least P m → Least P n → m ≡ n
least-unique {P} {m} {n} p q = omega (arith, least-le p n q.here, least-le q m p.here)

pub clear-one : (f : ℕ → ℕ) → Clear f 1
clear-one f k h p = omega arith

pub finds-unique : (f : ℕ → ℕ) (top : ℕ) (r s : Option ℕ) → Finds f top r → Finds f top s → r ≡ s
finds-unique f top (Some m) (Some n) p q = ap Some (least-unique p.0 q.0)
finds-unique f top (Some m) None p q = absurd (q m p.1 p.0.here)
finds-unique f top None (Some n) p q = absurd (p n q.1 q.0.here)
finds-unique f top None None p q = refl

module _ (f : ℕ → ℕ) (mono : (m n : ℕ) → m ≤ n → f m ≤ f n) where
  pub clear_step : (n : ℕ) → Clear f n → n < f n → Clear f (f n)
  clear_step n clear up k h p = elim (dec_lt k n) [ yes b ↦ clear k b p | no b ↦ omega (arith, mono n k (omega arith)) ]

  climbing-finds : (top steps n : ℕ) → 1 ≤ n → Clear f n → top < n + steps → Finds f top (climbing f top steps n)
  climbing-finds top zero n some clear far = λ k h p. clear k (omega arith) p
  climbing-finds top (suc steps) n some clear far =
      outer (leb n top) refl (λ up. climbing-finds top steps (f n) (omega arith) (clear_step n clear up) (omega arith))
    where
      inner : (b : Bool) → leb (f n) n ≡ b → n ≤ top → (n < f n → Finds f top (climbing f top steps (f n)))
          → Finds f top (elim b [ true ↦ Some n | false ↦ climbing f top steps (f n) ])
      inner true e h more = (record { here = record { some = some; fits = leb-true (f n) n e }; none_below = clear }, h)
      inner false e h more = more (leb-false (f n) n e)

      outer : (b : Bool) → leb n top ≡ b → (n < f n → Finds f top (climbing f top steps (f n)))
          → Finds f top (elim b [ true ↦ (elim (leb (f n) n) [ true ↦ Some n | false ↦ climbing f top steps (f n) ]) | false ↦ None ])
      outer true e more = inner (leb (f n) n) refl (leb-true n top e) more
      outer false e more = λ k h p. clear k (omega (arith, leb-false n top e)) p

  pub least-holding-finds : (top : ℕ) → Finds f top (least_holding f top)
  unfolding least_holding
  least-holding-finds top = climbing-finds top (suc top) 1 (omega arith) (clear-one f) (omega arith)

  pub least-holding-is : (top : ℕ) (r : Option ℕ) → Finds f top r → r ≡ least_holding f top
  least-holding-is top r found = finds-unique f top r (least_holding f top) found (least-holding-finds top)

  pub found_within : (top n : ℕ) → least_holding f top ≡ Some n → n ≤ top
  found_within top n e = (subst (λ (r : Option ℕ). Finds f top r) e (least-holding-finds top)).1

pub busy-sum-mono : (qs : List Charged) (m n : ℕ) → m ≤ n → busy_sum qs m ≤ busy_sum qs n
unfolding busy_sum
busy-sum-mono qs m n h = total_mono (busy_load m) (busy_load n) (λ q. busy-load-mono q h) qs

pub busy-length-finds : (qs : List Charged) → Finds (busy_sum qs) busy_most (busy_length qs)
unfolding busy_length
busy-length-finds qs = least-holding-finds (busy_sum qs) (busy-sum-mono qs) busy_most

pub busy-length-is : (qs : List Charged) (r : Option ℕ) → Finds (busy_sum qs) busy_most r → r ≡ busy_length qs
busy-length-is qs r found = finds-unique (busy_sum qs) busy_most r (busy_length qs) found (busy-length-finds qs)

pub busy-found : (qs : List Charged) (l : ℕ) → 1 ≤ l → l ≤ busy_most → busy_sum qs l ≤ l → Clear (busy_sum qs) l → Some l ≡ busy_length qs
busy-found qs l some near fits clear =
    busy-length-is qs (Some l) (record { here = record { some = some; fits = fits }; none_below = clear }, near)

pub busy-nothing : (qs : List Charged) (l : ℕ) → busy_most < l → Clear (busy_sum qs) l → None ≡ busy_length qs
busy-nothing qs l past clear = busy-length-is qs None (λ k h p. clear k (omega arith) p)

pub busy-length-within : (qs : List Charged) (l : ℕ) → busy_length qs ≡ Some l → l ≤ busy_most
busy-length-within qs l e = (subst (λ (r : Option ℕ). Finds (busy_sum qs) busy_most r) e (busy-length-finds qs)).1

pub busy-length-some : (qs : List Charged) (l : ℕ) → busy_length qs ≡ Some l → 1 ≤ l
busy-length-some qs l e = (subst (λ (r : Option ℕ). Finds (busy_sum qs) busy_most r) e (busy-length-finds qs)).0.here.some

-- ---- the tight window

pub tight-of-last : (b : ℕ) (all qs : List Charged) (q : Charged) → tight_of_last b all (qs ++ (q ∷ [])) ≡ tight_window b all q q.window
tight-of-last b all [] q = refl
tight-of-last b all (p ∷ []) q = refl
tight-of-last b all (p ∷ r ∷ qs) q = tight-of-last b all (r ∷ qs) q
