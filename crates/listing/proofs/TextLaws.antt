-- Laws of runs of bytes written into a buffer, and of decimal digits.
-- Assumes nothing.
--
--   wrote_none, wrote-both                 nothing written; one run behind another
--   wrote-whole, wrote-length              what a buffer that is long enough then holds; and it keeps its length
--   ended-length                           a run and its end
--   digits_last, digits_step               the first digit of a number, and any other
--   Left n d i m                           the digits of n that are left: m, for the i places in front of those in d
--   left-start, left_step, digits-whole    from the number to all its digits
--   decimal-few                            at most twenty digits
--   first-pass, second-pass, over-short, over-fits, over-whole    the writer run twice: to count, and to write
use mathlib.Core.Path.{◌≡◌, refl, sym, ap, ◌∙◌}
use Prim.Native.Nat.{ℕ, zero, suc, ◌+◌, ◌-◌, ◌*◌, ◌/◌, ◌%◌, ◌^◌, ◌≤◌, ◌<◌}
use native.Mathlib.Nat.{add-zero, zero-add, pow-suc, div-lt_iff_lt-mul}
use native.Mathlib.Omega.{arith}
use mathlib.Core.Bool.{Bool, true, false, cond}
use mathlib.Core.List.{List, [], ◌∷◌, ◌++◌}
use lib.ListN.{length, take, drop, set, length-append, length-set, length-drop, drop_of_length-le}
use lib.Seq.{sets, sets-eq, length-sets, take_all, drop-cons, drop-set-lt, get_or-set_same}
use lib.Dec.{ltb, lit<}
use borrow.Author.Tests.{lt-ltb, le-ltb, lt-leb, le-leb}
use Rattle.listing.specs.Text.{Wrote, ended_by, digits_onto, decimal, over}

-- one run after another is one run
sets-append : (l : List ℕ) (at : ℕ) (a b : List ℕ) → sets (sets l at a) (at + length a) b ≡ sets l at (a ++ b)
sets-append l at [] b = rw add-zero
sets-append l at (x ∷ a) b = let z : at + suc (length a) ≡ suc at + length a = omega arith in rw z (sets-append (set l at x) (suc at) a b)

pub wrote-both : {l a m b n : List ℕ} {at r q : ℕ} → Wrote l at a r m → Wrote m r b q n → Wrote l at (a ++ b) q n
wrote-both {l} {a} {m} {b} {n} {at} {r} {q} f g = record {
  place = g.place ∙ rw (f.place, length-append) (omega arith);
  bytes = g.bytes ∙ rw (f.bytes, f.place) (sets-append l at a b);
}

pub wrote_none : (l : List ℕ) (at : ℕ) → Wrote l at [] at l
wrote_none l at = record { place = rw add-zero; bytes = refl }

-- where the buffer is long enough it holds the text and then what it held
pub wrote-whole : (l vs m : List ℕ) (r : ℕ) → Wrote l 0 vs r m → length vs ≤ length l → m ≡ vs ++ drop (length vs) l
wrote-whole l vs m r f h = f.bytes ∙ sets-eq vs l 0 (rw zero-add h) ∙ rw zero-add

pub wrote-length : (l : List ℕ) (at : ℕ) (vs : List ℕ) (r : ℕ) (m : List ℕ) → Wrote l at vs r m → length m ≡ length l
wrote-length l at vs r m f = rw f.bytes (length-sets l at vs)

-- a run and its end
pub ended-length : (b : ℕ) (f : List ℕ) → length (ended_by b f) ≡ length f + 1
ended-length b f = length-append f (b ∷ [])

-- ---- digits

pub digits_last : (k n : ℕ) (ds : List ℕ) → n < 10 → digits_onto (suc k) n ds ≡ (48 + n) ∷ ds
unfolding digits_onto
digits_last k n ds h = simp (lt-ltb n 10 h)

pub digits_step : (k n : ℕ) (ds : List ℕ) → 10 ≤ n → digits_onto (suc k) n ds ≡ digits_onto k (n / 10) ((48 + n % 10) ∷ ds)
unfolding digits_onto
digits_step k n ds h = simp (le-ltb n 10 h)

-- i places are left for m, and the digits after them stand in d from place i on
pub record Left (n : ℕ) (d : List ℕ) (i m : ℕ) : Type 0 where
  pub one : 1 ≤ i
  pub room : i ≤ 20
  pub twenty : length d ≡ 20
  pub fits : m < 10 ^ i
  pub digits : decimal n ≡ digits_onto i m (drop i d)

pub left-start : (n : ℕ) (d : List ℕ) → length d ≡ 20 → n < 2 ^ 64 → Left n d 20 n
left-start n d h l =
    let z : length d ≤ 20 = omega arith in
    record { one = omega arith; room = omega arith; twenty = h; fits = omega arith; digits = ap (digits_onto 20 n) (sym (drop_of_length-le d z)) }

drop_set_at : (d : List ℕ) (j x : ℕ) → j < length d → drop j (set d j x) ≡ x ∷ drop (suc j) d
drop_set_at d j x h =
    let l : j < length (set d j x) = rw length-set h in
    drop-cons (set d j x) j 0 l ∙ rw (get_or-set_same d j x 0 h, drop-set-lt (suc j) d j x (omega arith))

-- one digit more
pub left_step : (n : ℕ) (d : List ℕ) (i m : ℕ) → Left n d i m → 10 ≤ m → Left n (set d (i - 1) (48 + m % 10)) (i - 1) (m / 10)
left_step n d zero m f h = absurd (omega (arith, f.one))
left_step n d (suc zero) m f h = absurd (omega (arith, f.fits))
left_step n d (suc (suc k)) m f h =
    let e : suc (suc k) - 1 ≡ suc k = omega arith in
    let p : 10 ^ suc (suc k) ≡ 10 ^ suc k * 10 = pow-suc 10 (suc k) in
    let g : m < 10 ^ suc k * 10 = omega (arith, f.fits) in
    let s : suc k < length d = omega (arith, f.room, f.twenty) in
    rw e
    (record {
      one = omega arith;
      room = omega (arith, f.room);
      twenty = length-set d (suc k) (48 + m % 10) ∙ f.twenty;
      fits = (div-lt_iff_lt-mul (lit< tt)).1 g;
      digits = f.digits ∙ digits_step (suc k) m (drop (suc (suc k)) d) h ∙ ap (digits_onto (suc k) (m / 10)) (sym (drop_set_at d (suc k) (48 + m % 10) s));
    })

-- the first digit, and then all stand in the array
left-last : (n : ℕ) (d : List ℕ) (i m : ℕ) → Left n d i m → m < 10 → drop (i - 1) (set d (i - 1) (48 + m)) ≡ decimal n
left-last n d zero m f h = absurd (omega (arith, f.one))
left-last n d (suc k) m f h =
    let e : suc k - 1 ≡ k = omega arith in
    let s : k < length d = omega (arith, f.room, f.twenty) in
    rw e (drop_set_at d k (48 + m) s ∙ sym (f.digits ∙ digits_last k m (drop (suc k) d) h))

-- what is handed on of the array is the number's digits
pub digits-whole : (n : ℕ) (d : List ℕ) (i m : ℕ) → Left n d i m → m < 10 → (x : ℕ) → x ≡ 48 + m
    → take (20 - (i - 1)) (drop (i - 1) (set d (i - 1) x)) ≡ decimal n
digits-whole n d i m f h x q =
    let b : length (drop (i - 1) (set d (i - 1) x)) ≤ 20 - (i - 1) = rw (length-drop, length-set) (omega (arith, f.twenty)) in
    take_all (20 - (i - 1)) (drop (i - 1) (set d (i - 1) x)) b ∙ rw q (left-last n d i m f h)

digits-few : (k n : ℕ) (ds : List ℕ) → length (digits_onto k n ds) ≤ k + length ds
unfolding digits_onto
digits-few zero n ds = omega arith
digits-few (suc k) n ds = by-test (ltb n 10) (digits-few k (n / 10) ((48 + n % 10) ∷ ds))
  where
    by-test : (b : Bool) → length (digits_onto k (n / 10) ((48 + n % 10) ∷ ds)) ≤ k + suc (length ds)
        → length (cond b ((48 + n) ∷ ds) (digits_onto k (n / 10) ((48 + n % 10) ∷ ds))) ≤ suc k + length ds
    by-test true h = omega arith
    by-test false h = omega arith

pub decimal-few : (n : ℕ) → length (decimal n) ≤ 20
decimal-few n = let h : length (digits_onto 20 n []) ≤ 20 + length {A = ℕ} [] = digits-few 20 n [] in omega arith

-- both passes
pub over-short : (text old : List ℕ) → length old < length text → over text old ≡ old
unfolding over
over-short text old h = simp (lt-leb _ _ h)

pub over-fits : (text old : List ℕ) → length text ≤ length old → over text old ≡ text ++ drop (length text) old
unfolding over
over-fits text old h = simp (le-leb _ _ h)

pub over-whole : (text old new : List ℕ) (r : ℕ) → Wrote old 0 text r new → length text ≤ length old → new ≡ over text old
over-whole text old new r f h = wrote-whole old text new r f h ∙ sym (over-fits text old h)

sets-none : (at : ℕ) (vs : List ℕ) → sets [] at vs ≡ []
sets-none at [] = refl
sets-none at (x ∷ vs) = sets-none (suc at) vs

-- the first pass, over none of the buffer, leaves it
pub first-pass : (text m old : List ℕ) (r : ℕ) → Wrote [] 0 text r m → m ++ old ≡ old
first-pass text m old r f = rw (f.bytes, sets-none 0 text)

pub second-pass : (text m old new : List ℕ) (q r : ℕ) → Wrote [] 0 text q m → Wrote (m ++ old) 0 text r new
    → length text ≤ length (m ++ old) → new ≡ over text old
second-pass text m old new q r f g h =
    let e : m ++ old ≡ old = first-pass text m old q f in
    over-whole text old new r (rw e at g) (rw e at h)
