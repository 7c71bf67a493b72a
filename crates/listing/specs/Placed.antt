-- The listing of what a walk placed, as its meaning has it: document 01, "Sheet". `listing_of` says it of a plan's struct, and `proofs/Theorems.antt` has
-- that both are the same for a plan that the walk gave. No contract cites it.
--
--   placed_fields c ts e        the fields of the line of what was placed, e, of the tasks ts at the costs c
--   by_core n log               what was placed on the first n cores: by core, then placement
--   placed_lines c ts log       the fields of all those lines
--   text_lines ls               the lines with those fields
--   placed_listing c ts log     the listing: the first line counts tasks and pieces, then a line for each piece
--   placed_entry c ts e         what was placed, as an entry of a plan's listing; placed_entries c ts log: all
use Rattle.std.specs.Prelude.{List, [], ◌∷◌, ◌++◌, map, ℕ, zero, suc, ◌+◌, length}
use Rattle.demand.specs.declared.Piece.{Piece}
use Rattle.demand.specs.declared.Costs.{Costs}
use Rattle.demand.specs.Charge.{charge}
use Rattle.task.specs.declared.Task.{Task}
use Rattle.task.specs.Tasks.{cores_most, task_at}
use Rattle.walks.specs.Way.{Placed, on_core}
use Rattle.lines.specs.Lines.{bytes_of}
use Rattle.listing.specs.Text.{text_line, decimal}
use Rattle.listing.specs.Listing.{Entry, spelling, kind_word}

unfoldable pub placed_fields : Costs → List Task → Placed ℕ → List (List ℕ)
placed_fields c ts e =
    bytes_of "piece" ∷ decimal (e.on + 1) ∷ spelling (task_at ts e.item).name ∷ kind_word e.piece.kind
    ∷ decimal e.piece.budget ∷ decimal e.piece.window ∷ decimal e.piece.jitter ∷ decimal (charge c e.piece) ∷ []

abbrev pub by_core : ℕ → List (Placed ℕ) → List (Placed ℕ)
by_core zero log = []
by_core (suc q) log = by_core q log ++ on_core q log

abbrev pub placed_lines : Costs → List Task → List (Placed ℕ) → List (List (List ℕ))
placed_lines c ts log = map (placed_fields c ts) (by_core cores_most log)

abbrev pub text_lines : List (List (List ℕ)) → List ℕ
text_lines [] = []
text_lines (fs ∷ ls) = text_line fs ++ text_lines ls

unfoldable pub placed_listing : Costs → List Task → List (Placed ℕ) → List ℕ
placed_listing c ts log = text_lines ((bytes_of "plan" ∷ decimal (length ts) ∷ decimal (length log) ∷ []) ∷ placed_lines c ts log)

-- ---- what the laws of a plan's listing go by

-- a piece p on core q of a task named n
abbrev pub entry_for : Costs → ℕ → List ℕ → Piece → Entry
entry_for c q n p = record { core = q + 1; task = n; kind = p.kind; budget = p.budget; window = p.window; jitter = p.jitter; charged = charge c p }

unfoldable pub placed_entry : Costs → List Task → Placed ℕ → Entry
placed_entry c ts e = entry_for c e.on (spelling (task_at ts e.item).name) e.piece

abbrev pub placed_entries : Costs → List Task → List (Placed ℕ) → List Entry
placed_entries c ts log = map (placed_entry c ts) (by_core cores_most log)
