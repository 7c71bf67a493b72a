-- A plan's listing: document 01, "Sheet". It is said of any plan's struct, also of one that no walk gave: a number past an array's end finds
-- the zeros that fill it, and a piece outside the sizes has no charged time. `proofs/Theorems.antt` has what it says of a plan that the walk gave.
--
--   Entry                 a piece's line: core, task, kind, budget, window, jitter, charged time
--   spelling n            the bytes of a name
--   row_pieces s q         the pieces on core q, from 0, in placement order
--   entry_of p q s         the entry of the stored piece s on core q
--   row_entries p q        the entries of core q
--   entries_on p n         the entries of the first n cores: by core, then placement
--   entries p             all entries
--   entry_line e           the line of one
--   entry_lines es         the lines of all
--   header t k            the first line: t tasks, k pieces
--   listing_of p           the listing
--   plan_with c ts l       a plan with the costs c, the tasks ts and the layout l
--   listed_on lens n       how many places are listed on the first n cores, by the lengths of their rows
use Rattle.std.specs.Prelude.{List, [], ◌∷◌, ◌++◌, map, ℕ, zero, suc, ◌+◌, ◌*◌, min, take, drop, get_or}
use Rattle.demand.specs.declared.Costs.{Costs}
use Rattle.demand.specs.declared.Kind.{Kind}
use Rattle.demand.specs.declared.Kind.TheVariants.{Whole, First, Last}
use Rattle.demand.specs.Kinds.{kind_of}
use Rattle.demand.specs.Answer.{charged_time}
use Rattle.task.specs.declared.Name.{Name}
use Rattle.task.specs.declared.Tasks.{Tasks}
use Rattle.task.specs.Tasks.{task_at, cores_most}
use Rattle.plan.specs.declared.Stored.{Stored}
use Rattle.plan.specs.declared.Layout.{Layout}
use Rattle.plan.specs.declared.Plan.{Plan}
use Rattle.plan.specs.Sizes.{row_most}
use Rattle.plan.specs.Layout.{kept_piece, blank}
use Rattle.lines.specs.Lines.{bytes_of}
use Rattle.listing.specs.Text.{text_line, decimal}

pub record Entry : Type 0 where
  pub core : ℕ
  pub task : List ℕ
  pub kind : Kind
  pub budget : ℕ
  pub window : ℕ
  pub jitter : ℕ
  pub charged : ℕ

-- ---- what a plan has to list

abbrev pub spelling : Name → List ℕ
spelling n = take n.len n.bytes

unfoldable pub row_pieces : Layout → ℕ → List Stored
row_pieces s q = map (λ i. get_or s.pieces i blank) (take (get_or s.lens q 0) (take row_most (drop (q * row_most) s.rows)))

-- the stored piece s on core q, of a task named n, at the costs c
abbrev pub entry_with : Costs → ℕ → List ℕ → Stored → Entry
entry_with c q n s = record {
  core = q + 1;
  task = n;
  kind = kind_of s.kind;
  budget = s.budget;
  window = s.window;
  jitter = s.jitter;
  charged = charged_time c (kept_piece s);
}

unfoldable pub entry_of : Plan → ℕ → Stored → Entry
entry_of p q s = entry_with p.costs q (spelling (task_at p.tasks.list s.task).name) s

abbrev pub row_entries : Plan → ℕ → List Entry
row_entries p q = map (entry_of p q) (row_pieces p.layout q)

abbrev pub entries_on : Plan → ℕ → List Entry
entries_on p zero = []
entries_on p (suc q) = entries_on p q ++ row_entries p q

abbrev pub entries : Plan → List Entry
entries p = entries_on p cores_most

-- ---- how it is written

abbrev pub kind_word : Kind → List ℕ
kind_word Whole = bytes_of "whole"
kind_word First = bytes_of "first"
kind_word Last = bytes_of "last"

-- the figures that end a piece's line
abbrev pub figures_line : (budget window jitter charged : ℕ) → List ℕ
figures_line b w j c = text_line (decimal b ∷ decimal w ∷ decimal j ∷ decimal c ∷ [])

unfoldable pub entry_line : Entry → List ℕ
entry_line e =
    text_line (bytes_of "piece" ∷ decimal e.core ∷ e.task ∷ kind_word e.kind
    ∷ decimal e.budget ∷ decimal e.window ∷ decimal e.jitter ∷ decimal e.charged ∷ [])

abbrev pub entry_lines : List Entry → List ℕ
entry_lines [] = []
entry_lines (e ∷ es) = entry_line e ++ entry_lines es

unfoldable pub header : (tasks pieces : ℕ) → List ℕ
header t k = text_line (bytes_of "plan" ∷ decimal t ∷ decimal k ∷ [])

unfoldable pub listing_of : Plan → List ℕ
listing_of p = header p.tasks.count p.layout.count ++ entry_lines (entries p)

-- ---- what the writer goes by

-- the machine is not listed
abbrev pub plan_with : Costs → Tasks → Layout → Plan
plan_with c ts l = record { machine = record { cores = 0; grain = 0 }; costs = c; tasks = ts; layout = l }

unfoldable pub listed_on : List ℕ → ℕ → ℕ
listed_on lens zero = 0
listed_on lens (suc q) = listed_on lens q + min (get_or lens q 0) row_most
