-- A line of a script that is longer than any form says nothing, whatever stands in it.
-- Assumes nothing.
--
--   order_most       the bytes of the longest line that says something: `retime`, a name of 24 bytes and six numbers of 7 digits
--   order-long      a longer line is of no form
use mathlib.Core.Path.{◌≡◌, refl, ap}
use mathlib.Core.Bool.{Bool, true, false, cond, ◌&&◌}
use mathlib.Core.List.{List, [], ◌∷◌}
use Prim.Native.Nat.{ℕ, ◌+◌, ◌*◌, ◌≤◌, ◌<◌}
use native.Mathlib.Omega.{arith}
use borrow.Author.Tests.{eqb-true, leb-true}
use lib.Dec.{leb, eqb}
use lib.ListN.{length}
use Rattle.task.specs.Names.{between, same_bytes}
use Rattle.task.proofs.NameLaws.{same-bytes-exact}
use Rattle.std.proofs.Common.{Some, None}
use Rattle.std.specs.Option.{option_map}
use Rattle.demand.proofs.Tests.{both_left, both_right}
use Rattle.lines.specs.declared.orders.Deed.{Deed}
use Rattle.lines.specs.declared.Order.{Order}
use Rattle.lines.specs.Lines.{bytes_of, tab, up_to, beyond, is_digit, every, unled, is_number, digits_most, name_of, is_name}
use Rattle.lines.specs.Forms.{times_of, numbered, values, part_form}
use Rattle.lines.specs.Orders.{named_as, timed_form, withdraw_form, list_form, deed_of, order_form, order_of}
use Rattle.lines.proofs.FieldLaws.{name-short, name-long}

abbrev pub order_most : ℕ
order_most = 79

-- ---- how long fields are

-- the bytes of the fields beyond the first: each has its tab
abbrev span : List (List ℕ) → ℕ
span [] = 0
span (f ∷ fs) = 1 + length f + span fs

line-span : (l : List ℕ) → length l ≡ length (up_to tab l) + span (beyond tab l)
unfolding up_to beyond
line-span [] = refl
line-span (x ∷ l) = by-test (eqb x tab) (line-span l)
  where
    by-test : (t : Bool) → length l ≡ length (up_to tab l) + span (beyond tab l)
        → length (x ∷ l) ≡ length (cond t [] (x ∷ up_to tab l)) + span (cond t (up_to tab l ∷ beyond tab l) (beyond tab l))
    by-test true e = omega arith
    by-test false e = omega arith

number-few : (f : List ℕ) → is_number f ≡ true → length f ≤ digits_most
unfolding is_number
number-few f good =
    let sized = both_left (between 1 digits_most (length f)) (unled f) (both_left (between 1 digits_most (length f) && unled f) (every is_digit f) good) in
    leb-true (length f) digits_most (both_right (leb 1 (length f)) (leb (length f) digits_most) sized)

numbers-span : (fs : List (List ℕ)) → every is_number fs ≡ true → span fs ≤ 8 * length fs
numbers-span [] good = omega arith
numbers-span (f ∷ fs) good =
    omega (
      arith,
      number-few f (both_left (is_number f) (every is_number fs) good),
      numbers-span fs (both_right (is_number f) (every is_number fs) good),
    )

-- ---- the forms

timed-long : (fs : List (List ℕ)) → 73 < span fs → timed_form fs ≡ None
unfolding timed_form part_form
timed-long [] long = refl
timed-long (f ∷ fs) long = by-test (is_name f && numbered 6 fs) refl
  where
    by-test : (t : Bool) → (is_name f && numbered 6 fs) ≡ t
        → option_map named_as (cond t (Some (record { name = name_of f; times = times_of (values fs) })) None) ≡ None
    by-test true e =
        let six = both_right (is_name f) (numbered 6 fs) e in
        let many : length fs ≡ 6 = eqb-true (length fs) 6 (both_left (eqb (length fs) 6) (every is_number fs) six) in
        absurd (omega (
          arith,
          name-short f (both_left (is_name f) (numbered 6 fs) e),
          numbers-span fs (both_right (eqb (length fs) 6) (every is_number fs) six),
          many,
        ))
    by-test false e = refl

withdraw-long : (fs : List (List ℕ)) → 25 < span fs → withdraw_form fs ≡ None
unfolding withdraw_form
withdraw-long [] long = refl
withdraw-long (f ∷ []) long = name-long f (omega arith)
withdraw-long (f ∷ g ∷ fs) long = refl

list-long : (fs : List (List ℕ)) → 0 < span fs → list_form fs ≡ None
unfolding list_form
list-long [] long = absurd (omega arith)
list-long (f ∷ fs) long = refl

-- ---- a line

pub order-long : (l : List ℕ) → order_most < length l → order_of l ≡ None
unfolding order_of deed_of
order-long l long =
    by_word (same_bytes (up_to tab l) (bytes_of "add")) (same_bytes (up_to tab l) (bytes_of "withdraw"))
    (same_bytes (up_to tab l) (bytes_of "retime")) (same_bytes (up_to tab l) (bytes_of "list")) refl refl refl refl
  where
    by_word : (a w r s : Bool)
        → same_bytes (up_to tab l) (bytes_of "add") ≡ a
        → same_bytes (up_to tab l) (bytes_of "withdraw") ≡ w
        → same_bytes (up_to tab l) (bytes_of "retime") ≡ r
        → same_bytes (up_to tab l) (bytes_of "list") ≡ s
        → order_form (cond a (Some Deed.Add) (cond w (Some Deed.Withdraw) (cond r (Some Deed.Retime) (cond s (Some Deed.List) None)))) (beyond tab l) ≡ None
    by_word true w r s e ew er es =
        let word : length (up_to tab l) ≡ 3 = ap length ((same-bytes-exact (up_to tab l) (bytes_of "add")).0 e) in
        ap (option_map Order.Add) (timed-long (beyond tab l) (omega (arith, line-span l, word)))
    by_word false true r s ea e er es =
        let word : length (up_to tab l) ≡ 8 = ap length ((same-bytes-exact (up_to tab l) (bytes_of "withdraw")).0 e) in
        ap (option_map Order.Withdraw) (withdraw-long (beyond tab l) (omega (arith, line-span l, word)))
    by_word false false true s ea ew e es =
        let word : length (up_to tab l) ≡ 6 = ap length ((same-bytes-exact (up_to tab l) (bytes_of "retime")).0 e) in
        ap (option_map Order.Retime) (timed-long (beyond tab l) (omega (arith, line-span l, word)))
    by_word false false false true ea ew er e =
        let word : length (up_to tab l) ≡ 4 = ap length ((same-bytes-exact (up_to tab l) (bytes_of "list")).0 e) in
        list-long (beyond tab l) (omega (arith, line-span l, word))
    by_word false false false false ea ew er es = refl
