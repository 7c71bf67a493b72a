-- What one line of a script of edits says by its form alone: document 01, "Edits on a held plan". A line of no form says nothing: `None`.
--
--   deed_of f              what the first field asks for
--   timed_form fs          name, C, D, T, J, P, M, as in a `part` line: a task to add, or other times for one
--   withdraw_form fs       task name
--   list_form fs           nothing beyond the word
--   order_of l             the line l: its word, and the fields beyond it
use Rattle.std.specs.Prelude.{cond, List, [], ◌∷◌, ℕ, Option, Some, None}
use Rattle.std.specs.Option.{option_map}
use Rattle.task.specs.declared.Name.{Name}
use Rattle.task.specs.declared.Part.{Part}
use Rattle.task.specs.declared.Task.{Task}
use Rattle.task.specs.Names.{same_bytes}
use Rattle.task.specs.Tasks.{task_of}
use Rattle.lines.specs.declared.orders.Deed.{Deed}
use Rattle.lines.specs.declared.Order.{Order}
use Rattle.lines.specs.Lines.{bytes_of, tab, up_to, beyond, name_in}
use Rattle.lines.specs.Forms.{part_form}

-- ---- the forms

-- the task that is fitted with the part of a `part` line, and named as it
abbrev pub named_as : Part → Task
named_as p = task_of p.name p

unfoldable pub timed_form : List (List ℕ) → Option Task
timed_form fs = option_map named_as (part_form fs)

unfoldable pub withdraw_form : List (List ℕ) → Option Name
withdraw_form [] = None
withdraw_form (f ∷ []) = name_in f
withdraw_form (f ∷ g ∷ fs) = None

unfoldable pub list_form : List (List ℕ) → Option Order
list_form [] = Some Order.List
list_form (f ∷ fs) = None

-- ---- a line

unfoldable pub deed_of : List ℕ → Option Deed
deed_of f =
    cond (same_bytes f (bytes_of "add")) (Some Deed.Add)
    (cond (same_bytes f (bytes_of "withdraw")) (Some Deed.Withdraw)
    (cond (same_bytes f (bytes_of "retime")) (Some Deed.Retime)
    (cond (same_bytes f (bytes_of "list")) (Some Deed.List) None)))

abbrev pub order_form : Option Deed → List (List ℕ) → Option Order
order_form (Some Deed.Add) fs = option_map Order.Add (timed_form fs)
order_form (Some Deed.Withdraw) fs = option_map Order.Withdraw (withdraw_form fs)
order_form (Some Deed.Retime) fs = option_map Order.Retime (timed_form fs)
order_form (Some Deed.List) fs = list_form fs
order_form None fs = None

unfoldable pub order_of : List ℕ → Option Order
order_of l = order_form (deed_of (up_to tab l)) (beyond tab l)
