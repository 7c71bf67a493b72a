-- A held plan, and a script of edits that is played on it: document 01, "Edits on a held plan". No contract can say what is read or written; these
-- say what each line is taken for and which plan is held after it.
--
--   line_most             the most bytes of a line that are looked at
--   with_byte l b         the line l with the byte b behind it
--   order_in l            what the line l says
--   reply_to o s          what comes of the order o on the plan s
--   after_line l s        the plan that is held after the line l
--   played_bytes d bs     the desk after the bytes bs
use Rattle.std.specs.Prelude.{cond, List, [], ◌∷◌, ℕ, ◌+◌, leb, eqb, take, set, replicate, Option, Some, None}
use Rattle.plan.specs.declared.Plan.{Plan}
use Rattle.plan.specs.Reply.{Reply}
use Rattle.walks.specs.Edits.{Edit}
use Rattle.edits.specs.Edits.{accepted, given_back, edit_of}
use Rattle.lines.specs.declared.Order.{Order}
use Rattle.lines.specs.Lines.{newline}
use Rattle.lines.specs.Orders.{order_of}
use Rattle.desk.specs.declared.script.Pending.{Pending}
use Rattle.desk.specs.declared.Desk.{Desk}

-- ---- a line

abbrev pub line_most : ℕ
line_most = 200

-- one byte more tells that a line is longer
abbrev pub line_room : ℕ
line_room = 201

abbrev pub fresh : Pending
fresh = record { len = 0; bytes = replicate line_room 0 }

unfoldable pub with_byte : Pending → ℕ → Pending
with_byte l b = cond (leb line_room l.len) l (record { len = l.len + 1; bytes = set l.bytes l.len b })

unfoldable pub order_in : Pending → Option Order
order_in l = cond (leb l.len line_most) (order_of (take l.len l.bytes)) None

-- ---- what it does

abbrev pub reply_to : Option Order → Plan → Reply
reply_to (Some (Order.Add t)) s = edit_of (Edit.add t) s
reply_to (Some (Order.Withdraw n)) s = edit_of (Edit.withdraw n) s
reply_to (Some (Order.Retime t)) s = edit_of (Edit.retime t) s
reply_to (Some Order.List) s = accepted s
reply_to None s = given_back s 8 0

unfoldable pub after_line : Pending → Plan → Plan
after_line l s = (reply_to (order_in l) s).plan

-- ---- the bytes of a script

unfoldable pub after_byte : Desk → ℕ → Desk
after_byte d b = cond (eqb b newline) (record { plan = after_line d.line d.plan; line = fresh }) (record { plan = d.plan; line = with_byte d.line b })

unfoldable pub played_bytes : Desk → List ℕ → Desk
played_bytes d [] = d
played_bytes d (b ∷ bs) = played_bytes (after_byte d b) bs
