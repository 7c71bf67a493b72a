-- A script as its lines. No contract cites it; `proofs/Theorems.antt` shows it of the desk.
--
--   Unbroken l       no byte of l is a newline
--   AllUnbroken ls   no byte of any of the lines ls is
--   written ls       the bytes of the lines ls, each ended by its newline
--   asked ls         the edits that the lines ls ask for, in their order; a listing and a line of no form ask for none
use Rattle.std.specs.Prelude.{◌≡◌, List, [], ◌∷◌, ◌++◌, ℕ, Option, Some, None}
use Rattle.walks.specs.Edits.{Edit}
use Rattle.edits.specs.Edits.{TaskEdit}
use Rattle.lines.specs.declared.Order.{Order}
use Rattle.lines.specs.Lines.{newline}
use Rattle.lines.specs.Orders.{order_of}

abbrev pub Unbroken : List ℕ → Type 0
Unbroken [] = Unit {0}
Unbroken (b ∷ l) = (b ≡ newline → ⊥) × Unbroken l

abbrev pub AllUnbroken : List (List ℕ) → Type 0
AllUnbroken [] = Unit {0}
AllUnbroken (l ∷ ls) = Unbroken l × AllUnbroken ls

abbrev pub written : List (List ℕ) → List ℕ
written [] = []
written (l ∷ ls) = l ++ (newline ∷ written ls)

abbrev pub edits_by : Option Order → List TaskEdit
edits_by (Some (Order.Add t)) = Edit.add t ∷ []
edits_by (Some (Order.Withdraw n)) = Edit.withdraw n ∷ []
edits_by (Some (Order.Retime t)) = Edit.retime t ∷ []
edits_by (Some Order.List) = []
edits_by None = []

abbrev pub asked : List (List ℕ) → List TaskEdit
asked [] = []
asked (l ∷ ls) = edits_by (order_of l) ++ asked ls
