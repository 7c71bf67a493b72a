-- Laws of a script's lines and bytes.
-- Assumes nothing.
--
--   after-line                                   the plan after a line, by the answers of those who read it and did it
--   played-newline, played-other, played-end     the desk after the bytes from a place on
use mathlib.Core.Path.{◌≡◌, refl, ap, ◌∙◌}
use mathlib.Core.List.{List}
use Prim.Native.Nat.{ℕ, ◌+◌, ◌≤◌, ◌<◌}
use native.Mathlib.Numerals.{add-one}
use borrow.Author.Tests.{eq-eqb, ne_eqb}
use lib.ListN.{length, drop, get_or, drop_of_length-le}
use lib.Seq.{drop-cons}
use Rattle.std.proofs.Common.{Option, Result, Ok, Err}
use Rattle.task.specs.declared.faults.Refused.{Refused}
use Rattle.edits.specs.Edits.{edit_reply}
use Rattle.plan.specs.declared.Plan.{Plan}
use Rattle.plan.specs.Reply.{Reply}
use Rattle.lines.specs.declared.Order.{Order}
use Rattle.lines.specs.Lines.{newline}
use Rattle.desk.specs.declared.script.Pending.{Pending}
use Rattle.desk.specs.declared.Desk.{Desk}
use Rattle.desk.specs.Desk.{fresh, with_byte, order_in, reply_to, after_line, after_byte, played_bytes}

pub after-line : (l : Pending) (s t : Plan) (o : Option Order) (r : Result (Unit {0}) Refused) → o ≡ order_in l → edit_reply r t ≡ reply_to o s → t ≡ after_line l s
unfolding after_line
after-line l s t o r order reply = plan-of r ∙ ap (λ (x : Reply). x.plan) reply ∙ ap (λ (x : Option Order). (reply_to x s).plan) order
  where
    plan-of : (q : Result (Unit {0}) Refused) → t ≡ (edit_reply q t).plan
    plan-of (Ok done) = refl
    plan-of (Err f) = refl

abbrev pub desk : Plan → Pending → Desk
desk p l = record { plan = p; line = l }

module _ (p q : Plan) (l m : Pending) (b : ℕ) where
  pub after-newline : b ≡ newline → q ≡ after_line l p → m ≡ fresh → after_byte (desk p l) b ≡ desk q m
  unfolding after_byte
  after-newline ends after none = rw (eq-eqb b newline ends, after, none)

  pub after-other : (b ≡ newline → ⊥) → q ≡ p → m ≡ with_byte l b → after_byte (desk p l) b ≡ desk q m
  unfolding after_byte
  after-other other same more = rw (ne_eqb b newline other, same, more)

module _ (p : Plan) (l : Pending) (bs : List ℕ) (i : ℕ) where
  pub played-end : length bs ≤ i → played_bytes (desk p l) (drop i bs) ≡ desk p l
  unfolding played_bytes
  played-end short = rw (drop_of_length-le bs {i = i} short)

  module _ (low : i < length bs) where
    played-more : played_bytes (desk p l) (drop i bs) ≡ played_bytes (after_byte (desk p l) (get_or bs i 0)) (drop (i + 1) bs)
    unfolding played_bytes
    played-more = rw (add-one, drop-cons bs i 0 low)

    module _ (q : Plan) (m : Pending) where
      pub played-newline : get_or bs i 0 ≡ newline → q ≡ after_line l p → m ≡ fresh
          → played_bytes (desk p l) (drop i bs) ≡ played_bytes (desk q m) (drop (i + 1) bs)
      played-newline ends after none = played-more ∙ ap (λ (d : Desk). played_bytes d (drop (i + 1) bs)) (after-newline p q l m (get_or bs i 0) ends after none)

      pub played-other : (get_or bs i 0 ≡ newline → ⊥) → q ≡ p → m ≡ with_byte l (get_or bs i 0)
          → played_bytes (desk p l) (drop i bs) ≡ played_bytes (desk q m) (drop (i + 1) bs)
      played-other other same more = played-more ∙ ap (λ (d : Desk). played_bytes d (drop (i + 1) bs)) (after-other p q l m (get_or bs i 0) other same more)
