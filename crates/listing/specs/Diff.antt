-- Two plans side by side: document 02, E3. It is said of any two plans' structs, also of such that no walk gave.
--
--   same_piece p q         equal in kind, budget, window, period, jitter, P and M
--   same_placed same e f   equal pieces on equal cores, of the same item
--   how_often same e l    how often l has that
--   of_item same n l       what l has of the item n
--   as_often same l k e    k has e as often as l has it
--   alike same n l k      l and k have the same of the item n, each piece on its core as often, whatever their order
--   Alike n l k           what that means: of the name n each piece is on each core as often in l as in k
--   names_of l             the names of what l has; moved_of ns l k: those of the names ns that l and k do not place alike, in byte order
--   moved_names l k        the names that l and k do not place alike, in byte order
--   diff_line w e          the line of what is placed, e, with the word w in front; diff_lines w es: of all
--   side_by_side es fs      the lines of one name: es in the first plan, fs in the second
--   diff_blocks l k ns     the lines of the names ns
--   diff_head t u          the first line
--   diff_text t u l k      the listing of two plans, of t and u tasks, that place l and k
--   seats_on s n           what the layout s has on the first n cores: by core, then placement
--   called_by ts           what is placed, called by the names of the tasks ts
--   standing p            what the plan p places, by the names of its tasks
--   diff_of p q            the listing of two plans
use Rattle.std.specs.Prelude.{Bool, ◌&&◌, not, List, [], ◌∷◌, ◌++◌, map, ◌≡◌, ℕ, zero, suc, ◌+◌, eqb, length}
use Rattle.demand.specs.declared.Piece.{Piece}
use Rattle.demand.specs.Kinds.{kind_number}
use Rattle.task.specs.declared.Task.{Task}
use Rattle.task.specs.Names.{same_bytes}
use Rattle.task.specs.Tasks.{task_at, cores_most}
use Rattle.walks.specs.Lists.{only}
use Rattle.walks.specs.Way.{Placed, relabel}
use Rattle.plan.specs.declared.Layout.{Layout}
use Rattle.plan.specs.declared.Plan.{Plan}
use Rattle.lines.specs.Lines.{bytes_of, every}
use Rattle.listing.specs.Text.{text_line, decimal}
use Rattle.listing.specs.Listing.{spelling, kind_word}
use Rattle.listing.specs.Why.{row_seats}
use Rattle.listing.specs.ByteOrder.{byte_ordered}

-- ---- what is the same

unfoldable pub same_piece : Piece → Piece → Bool
same_piece p q =
    eqb (kind_number p.kind) (kind_number q.kind) && eqb p.budget q.budget && eqb p.window q.window && eqb p.period q.period
    && eqb p.jitter q.jitter && eqb p.preempt q.preempt && eqb p.migrate q.migrate

module _ {A : Type 0} (same : A → A → Bool) where
  abbrev pub same_placed : Placed A → Placed A → Bool
  same_placed e f = same e.item f.item && eqb e.on f.on && same_piece e.piece f.piece

  abbrev pub how_often : Placed A → List (Placed A) → ℕ
  how_often e l = length (only (same_placed e) l)

  abbrev pub of_item : A → List (Placed A) → List (Placed A)
  of_item n l = only (λ e. same e.item n) l

  abbrev pub as_often : List (Placed A) → List (Placed A) → Placed A → Bool
  as_often l k e = eqb (how_often e l) (how_often e k)

  abbrev pub alike : A → List (Placed A) → List (Placed A) → Bool
  alike n l k = every (as_often l k) (of_item n l) && every (as_often k l) (of_item n k)

-- what the test `alike` means of a name
abbrev pub Alike : List ℕ → (l k : List (Placed (List ℕ))) → Type 0
Alike n l k = (e : Placed (List ℕ)) → e.item ≡ n → how_often same_bytes e l ≡ how_often same_bytes e k

-- ---- which names are told of

abbrev pub names_of : List (Placed (List ℕ)) → List (List ℕ)
names_of l = map (λ e. e.item) l

abbrev pub moved_of : List (List ℕ) → (l k : List (Placed (List ℕ))) → List (List ℕ)
moved_of ns l k = only (λ n. not (alike same_bytes n l k)) (byte_ordered ns (length ns))

unfoldable pub moved_names : (l k : List (Placed (List ℕ))) → List (List ℕ)
moved_names l k = moved_of (names_of (l ++ k)) l k

-- ---- how they are written

unfoldable pub diff_line : List ℕ → Placed (List ℕ) → List ℕ
diff_line w e =
    text_line (w ∷ e.item ∷ decimal (e.on + 1) ∷ kind_word e.piece.kind ∷ decimal e.piece.budget ∷ decimal e.piece.window
    ∷ decimal e.piece.period ∷ decimal e.piece.jitter ∷ decimal e.piece.preempt ∷ decimal e.piece.migrate ∷ [])

abbrev pub diff_lines : List ℕ → List (Placed (List ℕ)) → List ℕ
diff_lines w [] = []
diff_lines w (e ∷ es) = diff_line w e ++ diff_lines w es

abbrev pub side_by_side : (es fs : List (Placed (List ℕ))) → List ℕ
side_by_side [] fs = diff_lines (bytes_of "only2") fs
side_by_side (e ∷ es) [] = diff_lines (bytes_of "only1") (e ∷ es)
side_by_side (e ∷ es) (f ∷ fs) = diff_lines (bytes_of "was") (e ∷ es) ++ diff_lines (bytes_of "now") (f ∷ fs)

abbrev pub diff_blocks : (l k : List (Placed (List ℕ))) → List (List ℕ) → List ℕ
diff_blocks l k [] = []
diff_blocks l k (n ∷ ns) = side_by_side (of_item same_bytes n l) (of_item same_bytes n k) ++ diff_blocks l k ns

unfoldable pub diff_head : (tasks tasks' : ℕ) → List ℕ
diff_head t u = text_line (bytes_of "diff" ∷ decimal t ∷ decimal u ∷ [])

unfoldable pub diff_text : (tasks tasks' : ℕ) → (l k : List (Placed (List ℕ))) → List ℕ
diff_text t u l k = diff_head t u ++ diff_blocks l k (moved_names l k)

-- ---- of two plans

abbrev pub seats_on : Layout → ℕ → List (Placed ℕ)
seats_on s zero = []
seats_on s (suc q) = seats_on s q ++ row_seats s q

abbrev pub called_by : List Task → Placed ℕ → Placed (List ℕ)
called_by ts = relabel (λ k. spelling (task_at ts k).name)

unfoldable pub standing : Plan → List (Placed (List ℕ))
standing p = map (called_by p.tasks.list) (seats_on p.layout cores_most)

unfoldable pub diff_of : (p q : Plan) → List ℕ
diff_of p q = diff_text p.tasks.count q.tasks.count (standing p) (standing q)
