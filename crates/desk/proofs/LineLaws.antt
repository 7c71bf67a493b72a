-- Laws of the line under way.
-- Assumes nothing.
--
--   Holds l q       what q holds of the bytes l of a line: all of them, or the first 201
--   holds-none      nothing has come
--   holds_more      one byte more
--   holds-order     what is held says what the whole line says, also where it is longer
use mathlib.Core.Path.{◌≡◌, refl, sym, ap, ◌∙◌}
use mathlib.Core.List.{List, [], ◌∷◌, ◌++◌}
use Prim.Native.Nat.{ℕ, zero, suc, ◌+◌, ◌≤◌, ◌<◌}
use native.Mathlib.Decide.{dec_lt, dec_le}
use native.Mathlib.Omega.{arith}
use borrow.Author.Tests.{le-leb, lt-leb}
use lib.ListN.{length, set, length-append}
use Rattle.demand.specs.Lists.{padded}
use Rattle.lines.specs.Orders.{order_of}
use Rattle.demand.proofs.PaddedLaws.{padded-none, padded-put, padded-take}
use Rattle.lines.proofs.LongLaws.{order-long}
use Rattle.desk.specs.declared.script.Pending.{Pending}
use Rattle.desk.specs.Desk.{line_room, fresh, with_byte, order_in}

pub record Holds (l : List ℕ) (q : Pending) : Type 0 where
  pub bytes : q.bytes ≡ padded line_room 0 l
  pub short : length l ≤ line_room → q.len ≡ length l
  pub long : line_room ≤ length l → q.len ≡ line_room

pub holds-none : Holds [] fresh
holds-none = record { bytes = sym (padded-none 0 line_room); short = λ _. refl; long = λ some. absurd (omega arith) }

-- what stands past the places is left out
padded-full : (n : ℕ) (xs ys : List ℕ) → n ≤ length xs → padded n 0 (xs ++ ys) ≡ padded n 0 xs
unfolding padded
padded-full zero xs ys full = refl
padded-full (suc n) [] ys full = absurd (omega arith)
padded-full (suc n) (x ∷ xs) ys full = ap (λ (l : List ℕ). x ∷ l) (padded-full n xs ys (omega arith))

module _ (l : List ℕ) (q : Pending) (h : Holds l q) where
  grown : (b : ℕ) → length (l ++ (b ∷ [])) ≡ length l + 1
  grown b = length-append l (b ∷ [])

  more_room : (b : ℕ) → length l < line_room → Holds (l ++ (b ∷ [])) (record { len = q.len + 1; bytes = set q.bytes q.len b })
  more_room b low =
      let now : q.len ≡ length l = h.short (omega arith) in
      record {
        bytes = rw (h.bytes, now) (padded-put 0 line_room l b low);
        short = λ _. omega (arith, grown b, now);
        long = λ full. omega (arith, grown b, now, full);
      }

  more-full : (b : ℕ) → line_room ≤ length l → Holds (l ++ (b ∷ [])) q
  more-full b full =
      record {
        bytes = h.bytes ∙ sym (padded-full line_room l (b ∷ []) full);
        short = λ few. absurd (omega (arith, grown b));
        long = λ _. h.long full;
      }

  pub holds_more : (b : ℕ) → Holds (l ++ (b ∷ [])) (with_byte q b)
  unfolding with_byte
  holds_more b =
      elim (dec_lt (length l) line_room) [
        | yes low ↦ rw (lt-leb line_room q.len (omega (arith, h.short (omega arith)))) (more_room b low)
        | no full ↦ rw (le-leb line_room q.len (omega (arith, h.long (omega arith)))) (more-full b (omega arith))
      ]

  pub holds-order : order_in q ≡ order_of l
  unfolding order_in
  holds-order =
      elim (dec_le (length l) 200) [
        | yes few ↦
            let now : q.len ≡ length l = h.short (omega arith) in
            rw (le-leb q.len 200 (omega arith), now, h.bytes, padded-take 0 line_room l (omega arith))
        | no many ↦
            let now : q.len ≡ line_room = h.long (omega arith) in
            rw (lt-leb q.len 200 (omega arith), order-long l (omega arith))
      ]
