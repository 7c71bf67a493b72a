-- The listing that says why: document 02, E1. Its figures are those that `shown_of` and `ask` have (`demand/specs/Why.antt`); here is how they are written, and of what.
--
--   Titled                a piece and what it is called by: its task's name, or its place
--   signed a b            a - b, with a minus sign where it is negative
--   why_head s             the first line: the verdict, the length, the blocking
--   ask_line n k a         the line of a piece called n, of the kind k, that asks for a
--   why_foot s             the last two lines: the total and the slack
--   why_text c ls          the listing of a core with the pieces ls at the costs c; of no piece the first line alone
--   no_room_line k n m      the line in front of it where the task n, at place k, found no room on m cores
--   why_paper f c n ls     what is answered for the first n of ls, with f in front: refused as their verdict is, else the listing
--   by_place k ps          the pieces ps called by their places, from k on
--   why_run c n ps         what is answered for a run of records
--   titled_placed ts e     what was placed, e, called by the name of its task in ts
--   row_seats s q          what the layout s has on core q, from 0
--   why_row p q            what is answered for core q, from 0, of the plan p
--   why_stuck p k          for the last core, where the task at place k, from 0, found no room: with the whole task added
--   why_of p k core        for a core, from 1: 1 where the machine has no such; k is 0, or the place, from 1, of the task that found no room
use Rattle.std.specs.Prelude.{cond, ◌&&◌, List, [], ◌∷◌, ◌++◌, map, ℕ, zero, suc, ◌+◌, ◌-◌, leb, length, take, Err, Ok, Result, ⊤}
use Rattle.demand.specs.declared.Kind.{Kind}
use Rattle.demand.specs.declared.Piece.{Piece}
use Rattle.demand.specs.declared.Costs.{Costs}
use Rattle.demand.specs.declared.Verdict.{Verdict}
use Rattle.demand.specs.declared.Verdict.TheVariants.{Passes, Overloaded, Undecided}
use Rattle.demand.specs.declared.Refusal.TheVariants.{TooMany, BadCosts, BadRecord}
use Rattle.demand.specs.declared.Ask.{Ask}
use Rattle.demand.specs.declared.Shown.{Shown}
use Rattle.demand.specs.Charge.{charged}
use Rattle.demand.specs.Why.{ask, shown_of}
use Rattle.demand.specs.Answer.{check_run}
use Rattle.task.specs.declared.Task.{Task}
use Rattle.task.specs.Tasks.{task_at}
use Rattle.walks.specs.Way.{Placed}
use Rattle.plan.specs.declared.Layout.{Layout}
use Rattle.plan.specs.declared.Plan.{Plan}
use Rattle.plan.specs.Layout.{kept_piece}
use Rattle.plan.specs.Walk.{whole_at}
use Rattle.lines.specs.Lines.{bytes_of}
use Rattle.listing.specs.Text.{text_line, decimal}
use Rattle.listing.specs.Listing.{spelling, kind_word, row_pieces}
use Rattle.listing.specs.Papers.{Paper, refused, written}
use Rattle.demand.specs.declared.Refusal.{Refusal}

pub record Titled : Type 0 where
  pub title : List ℕ
  pub piece : Piece

abbrev pub pieces_in : List Titled → List Piece
pieces_in ls = map (λ l. l.piece) ls

-- ---- the lines

abbrev pub verdict_word : Verdict → List ℕ
verdict_word Passes = bytes_of "passes"
verdict_word (Overloaded t) = bytes_of "overloaded"
verdict_word Undecided = bytes_of "undecided"

abbrev pub minus : ℕ
minus = 45

unfoldable pub signed : ℕ → ℕ → List ℕ
signed a b = cond (leb b a) (decimal (a - b)) (minus ∷ decimal (b - a))

unfoldable pub why_head : Shown → List ℕ
why_head s = text_line (bytes_of "why" ∷ verdict_word s.verdict ∷ decimal s.length ∷ decimal s.blocking ∷ [])

unfoldable pub ask_line : List ℕ → Kind → Ask → List ℕ
ask_line n k a = text_line (bytes_of "piece" ∷ n ∷ kind_word k ∷ decimal a.jobs ∷ decimal a.demand ∷ decimal a.interrupts ∷ [])

unfoldable pub why_foot : Shown → List ℕ
why_foot s = text_line (bytes_of "total" ∷ decimal s.total ∷ []) ++ text_line (bytes_of "slack" ∷ signed s.length s.total ∷ [])

unfoldable pub no_room_line : (place : ℕ) → (name : List ℕ) → (cores : ℕ) → List ℕ
no_room_line k n m = text_line (bytes_of "noroom" ∷ decimal k ∷ n ∷ decimal m ∷ [])

-- ---- the listing

abbrev pub ask_lines : Costs → Shown → List Titled → List ℕ
ask_lines c s [] = []
ask_lines c s (l ∷ ls) = ask_line l.title l.piece.kind (ask s.verdict s.length (charged c l.piece)) ++ ask_lines c s ls

abbrev pub why_body : Costs → Shown → List Titled → List ℕ
why_body c s [] = []
why_body c s (l ∷ ls) = ask_lines c s (l ∷ ls) ++ why_foot s

unfoldable pub why_text : Costs → List Titled → List ℕ
why_text c ls = why_head (shown_of c (pieces_in ls)) ++ why_body c (shown_of c (pieces_in ls)) ls

-- ---- what is answered

abbrev pub unless_bad : Result ⊤ Refusal → Paper → Paper
unless_bad (Ok tt) p = p
unless_bad (Err TooMany) p = refused 6 0
unless_bad (Err BadCosts) p = refused 2 0
unless_bad (Err (BadRecord k)) p = refused 3 k

unfoldable pub why_paper : List ℕ → Costs → ℕ → List Titled → Paper
why_paper f c n ls = unless_bad (check_run c n (pieces_in ls)) (written (f ++ why_text c (take n ls)))

abbrev pub by_place : ℕ → List Piece → List Titled
by_place k [] = []
by_place k (p ∷ ps) = record { title = decimal k; piece = p } ∷ by_place (k + 1) ps

unfoldable pub why_run : Costs → ℕ → List Piece → Paper
why_run c n ps = why_paper [] c n (by_place 1 ps)

abbrev pub titled_placed : List Task → Placed ℕ → Titled
titled_placed ts e = record { title = spelling (task_at ts e.item).name; piece = e.piece }

unfoldable pub row_seats : Layout → ℕ → List (Placed ℕ)
row_seats s q = map (λ t. record { on = q; item = t.task; piece = kept_piece t }) (row_pieces s q)

-- what stands on one core, by the names of its tasks
abbrev pub why_seats : List ℕ → Costs → List Task → List (Placed ℕ) → Paper
why_seats f c ts es = why_paper f c (length es) (map (titled_placed ts) es)

unfoldable pub why_row : Plan → ℕ → Paper
why_row p q = why_seats [] p.costs p.tasks.list (row_seats p.layout q)

-- the whole of the task at place k, on core q
abbrev pub whole_seat : List Task → ℕ → ℕ → Placed ℕ
whole_seat ts q k = record { on = q; item = k; piece = whole_at ts k }

unfoldable pub why_stuck : Plan → ℕ → Paper
why_stuck p k =
    why_seats (no_room_line (k + 1) (spelling (task_at p.tasks.list k).name) p.machine.cores) p.costs p.tasks.list
    (row_seats p.layout (p.machine.cores - 1) ++ (whole_seat p.tasks.list (p.machine.cores - 1) k ∷ []))

abbrev pub why_asked : Plan → ℕ → ℕ → Paper
why_asked p zero core = why_row p (core - 1)
why_asked p (suc k) core = why_stuck p k

unfoldable pub why_of : Plan → ℕ → ℕ → Paper
why_of p k core = cond (leb 1 core && leb core p.machine.cores) (why_asked p k core) (refused 1 0)
