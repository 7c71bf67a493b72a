-- What playing a script does, whatever its length and wherever the bytes that are read at once end.
-- Assumes nothing.
--
--   chunks-join       bytes in two parts are played as they are in one
--   script-plays      the plan after a script is the one that its lines' edits give, one after the other
--   cut-plan          a last line without its newline leaves the plan as it is
--   cut-told          and something of it is held, unless there is none
use mathlib.Core.Path.{◌≡◌, refl, sym, ap, ◌∙◌}
use mathlib.Core.List.{List, [], ◌∷◌, ◌++◌, append_assoc, append-nil}
use Prim.Native.Nat.{ℕ}
use native.Mathlib.Decide.{dec_le}
use native.Mathlib.Omega.{arith}
use lib.ListN.{length}
use Rattle.plan.specs.declared.Plan.{Plan}
use Rattle.edits.specs.Edits.{TaskEdit, played}
use Rattle.std.proofs.Common.{Option, Some, None}
use Rattle.lines.specs.declared.Order.{Order}
use Rattle.lines.specs.Lines.{newline}
use Rattle.lines.specs.Orders.{order_of}
use Rattle.desk.specs.declared.script.Pending.{Pending}
use Rattle.desk.specs.declared.Desk.{Desk}
use Rattle.desk.specs.Desk.{line_room, fresh, with_byte, reply_to, after_line, after_byte, played_bytes}
use Rattle.desk.specs.Script.{Unbroken, AllUnbroken, written, edits_by, asked}
use Rattle.desk.proofs.DeskLaws.{desk, after-newline, after-other}
use Rattle.desk.proofs.LineLaws.{Holds, holds-none, holds_more, holds-order}

pub chunks-join : (d : Desk) (bs cs : List ℕ) → played_bytes d (bs ++ cs) ≡ played_bytes (played_bytes d bs) cs
unfolding played_bytes
chunks-join d [] cs = refl
chunks-join d (b ∷ bs) cs = chunks-join (after_byte d b) bs cs

-- ---- one line

-- the plan is p still, and the bytes l of a line have come
record Going (p : Plan) (l : List ℕ) (d : Desk) : Type 0 where
  pub plan : d.plan ≡ p
  pub line : Holds l d.line

played-on : (p : Plan) (q : Pending) (b : ℕ) (bs : List ℕ) → (b ≡ newline → ⊥) → played_bytes (desk p q) (b ∷ bs) ≡ played_bytes (desk p (with_byte q b)) bs
unfolding played_bytes
played-on p q b bs other = ap (λ (d : Desk). played_bytes d bs) (after-other p p q (with_byte q b) b other refl refl)

go-on : (p : Plan) (m l : List ℕ) (q : Pending) → Holds m q → Unbroken l → Going p (m ++ l) (played_bytes (desk p q) l)
unfolding played_bytes
go-on p m [] q h u = record { plan = refl; line = rw (append-nil m) h }
go-on p m (b ∷ l) q h u =
    rw (played-on p q b l u.0, ← append_assoc m (b ∷ []) l) (go-on p (m ++ (b ∷ [])) l (with_byte q b) (holds_more m q h b) u.1)

module _ (p : Plan) (l : List ℕ) (u : Unbroken l) where
  come : Going p l (played_bytes (desk p fresh) l)
  come = go-on p [] l fresh holds-none u

  ended : (d : Desk) → Going p l d → after_byte d newline ≡ desk (reply_to (order_of l) p).plan fresh
  unfolding after_line
  ended d g =
      after-newline d.plan (after_line d.line d.plan) d.line fresh newline refl refl refl
      ∙ ap (λ (o : Option Order). desk (reply_to o d.plan).plan fresh) (holds-order l d.line g.line)
      ∙ ap (λ (s : Plan). desk (reply_to (order_of l) s).plan fresh) g.plan

  line-plays : (rest : List ℕ) → played_bytes (desk p fresh) (l ++ (newline ∷ rest)) ≡ played_bytes (desk (reply_to (order_of l) p).plan fresh) rest
  unfolding played_bytes
  line-plays rest = chunks-join (desk p fresh) l (newline ∷ rest) ∙ ap (λ (d : Desk). played_bytes d rest) (ended (played_bytes (desk p fresh) l) come)

  pub cut-plan : (played_bytes (desk p fresh) l).plan ≡ p
  cut-plan = come.plan

  pub cut-told : (played_bytes (desk p fresh) l).line.len ≡ 0 → length l ≡ 0
  cut-told none =
      elim (dec_le (length l) line_room) [
        | yes few ↦ omega (arith, come.line.short few)
        | no many ↦ absurd (omega (arith, come.line.long (omega arith)))
      ]

-- ---- a script

reply-asked : (o : Option Order) (p : Plan) → (reply_to o p).plan ≡ played (edits_by o) p
reply-asked (Some (Order.Add t)) p = refl
reply-asked (Some (Order.Withdraw n)) p = refl
reply-asked (Some (Order.Retime t)) p = refl
reply-asked (Some Order.List) p = refl
reply-asked None p = refl

played-append : (es fs : List TaskEdit) (p : Plan) → played (es ++ fs) p ≡ played fs (played es p)
played-append [] fs p = refl
played-append (e ∷ es) fs p = played-append es fs _

pub script-plays : (ls : List (List ℕ)) (p : Plan) → AllUnbroken ls → played_bytes (desk p fresh) (written ls) ≡ desk (played (asked ls) p) fresh
unfolding played_bytes
script-plays [] p u = refl
script-plays (l ∷ ls) p u =
    let es = edits_by (order_of l) in
    line-plays p l u.0 (written ls)
    ∙ ap (λ (s : Plan). played_bytes (desk s fresh) (written ls)) (reply-asked (order_of l) p)
    ∙ script-plays ls (played es p) u.1
    ∙ ap (λ (s : Plan). desk s fresh) (sym (played-append es (asked ls) p))
