-- What is answered for a core of a plan that the walk gave, or where it stuck: the listing of what was placed there. The machine, costs and first n tasks break no rule.
-- Assumes nothing.
--
--   kept-seats, row-seats             what a plan's layout has on a core is what was placed there
--   paper-fine            for at most 79 pieces within the sizes the answer is their listing
--   asked-inside, asked-outside   a core that the machine has, and one that it has not
--   why-fine              where the walk is fine, each core is answered with the listing of what was placed there
--   why-stuck             where it sticks, with that of the last core and the whole of the task that it sticks at, and a line in front
--   why-outside           a core that the machine has not is refused
--   titles-few            tasks with names of at most 24 bytes are called by as many
--   why-few, front-few    then the listing of at most 79 pieces has at most 8,012 bytes, and the line in front 74
use Rattle.std.specs.Prelude.{Ok, Result, ⊤}
use mathlib.Core.Path.{◌≡◌, refl, sym, ap, ◌∙◌}
use mathlib.Core.Bool.{Bool, true, false, cond}
use mathlib.Core.List.{List, [], ◌∷◌, ◌++◌, map, map-map}
use Prim.Native.Nat.{ℕ, suc, ◌+◌, ◌*◌, ◌-◌, ◌≤◌, ◌<◌}
use native.Mathlib.Decide.{dec_lt}
use native.Mathlib.Omega.{arith}
use borrow.Author.Tests.{le-leb, lt-leb, eqb-true}
use lib.Dec.{leb, eqb}
use lib.ListN.{length, take, length-append, length-map, length-take}
use lib.Seq.{take_all}
use Rattle.demand.specs.declared.Costs.{Costs}
use Rattle.demand.specs.declared.Kind.{Kind}
use Rattle.demand.specs.declared.Verdict.{Verdict}
use Rattle.demand.specs.declared.Verdict.TheVariants.{Passes, Overloaded, Undecided}
use Rattle.demand.specs.declared.Ask.{Ask}
use Rattle.demand.specs.declared.Shown.{Shown}
use Rattle.demand.specs.Sizes.{Sized, SizedCosts, Each}
use Rattle.demand.specs.Charge.{charged}
use Rattle.demand.specs.Answer.{check_run}
use Rattle.demand.specs.Why.{ask, shown_of}
use Rattle.demand.proofs.RunLaws.{taken-check}
use Rattle.demand.proofs.Sums.{each_map}
use Rattle.task.specs.declared.Task.{Task}
use Rattle.task.specs.declared.Machine.{Machine}
use Rattle.task.specs.Tasks.{whole_piece, task_at, state_fault}
use Rattle.task.proofs.TaskLaws.{Sane, state-sane, tasks-at}
use Rattle.walks.specs.Lists.{keep}
use Rattle.walks.specs.Way.{Placed, Ending, fine, stuck, on_core, row_of}
use Rattle.walks.specs.Halves.{Stand}
use Rattle.walks.proofs.ListLaws.{each-join, each-only}
use Rattle.walks.proofs.WayLaws.{until-fine}
use Rattle.plan.specs.declared.Layout.{Layout}
use Rattle.plan.specs.declared.Plan.{Plan}
use Rattle.plan.specs.Reply.{Reply}
use Rattle.plan.specs.Walk.{place_way, packed, walked, walked_until}
use Rattle.plan.specs.Plan.{plan_placed, finished, reaching, reached_of}
use Rattle.plan.specs.Shows.{stored_of, LayoutShows}
use Rattle.plan.proofs.GoingLaws.{piece-stored}
use Rattle.plan.proofs.PlanLaws.{sized-at}
use Rattle.plan.proofs.Theorems.{no-room-place, reached-ended, reached-stuck, reached-shows, reached-sized, reached-places, reached-counts}
use Rattle.lines.specs.Lines.{bytes_of, newline, tab}
use Rattle.listing.specs.Text.{ended_by, decimal}
use Rattle.listing.specs.Listing.{row_pieces, spelling, kind_word}
use Rattle.listing.specs.Papers.{refused, written}
use Rattle.listing.specs.Why.{Titled, pieces_in, verdict_word, minus, signed, why_head, ask_line, why_foot, no_room_line, ask_lines, why_body, why_text}
use Rattle.listing.specs.Why.{unless_bad, why_paper, titled_placed, row_seats, why_seats, why_row, whole_seat, why_stuck, why_asked, why_of}
use Rattle.listing.proofs.TextLaws.{ended-length, decimal-few}
use Rattle.listing.proofs.SeatLaws.{seat_of}
use Rattle.listing.proofs.PlacedLaws.{row-pieces, map_same}
use Rattle.listing.proofs.PlainLaws.{each-task, word-short}
use Rattle.demand.specs.declared.Refusal.{Refusal}

-- ---- what a layout has on a core

seat-own : (q : ℕ) (e : Placed ℕ) → e.on ≡ q → seat_of q (stored_of e) ≡ e
seat-own q e on = λ j. record { on = sym on j; item = e.item; piece = piece-stored e.item e.piece j }

seats-own : (q : ℕ) (l : List (Placed ℕ)) → map (λ e. seat_of q (stored_of e)) (on_core q l) ≡ on_core q l
seats-own q [] = refl
seats-own q (e ∷ l) = by (eqb e.on q) refl (seats-own q l)
  where
    by : (t : Bool) → eqb e.on q ≡ t → map (λ e. seat_of q (stored_of e)) (on_core q l) ≡ on_core q l
        → map (λ e. seat_of q (stored_of e)) (keep t e (on_core q l)) ≡ keep t e (on_core q l)
    by true h others = cc (seat-own q e (eqb-true e.on q h), others)
    by false h others = others

-- a row that keeps what was placed there has just that
pub kept-seats : (y : Layout) (l : List (Placed ℕ)) (q : ℕ) → row_pieces y q ≡ map stored_of (on_core q l) → row_seats y q ≡ on_core q l
unfolding row_seats
kept-seats y l q row = ap (map (seat_of q)) row ∙ (map-map (seat_of q) stored_of (on_core q l) ∙ seats-own q l)

pub row-seats : (y : Layout) (l : List (Placed ℕ)) (q : ℕ) → LayoutShows y l → q < 16 → length (row_of q l) ≤ 64 → row_seats y q ≡ on_core q l
row-seats y l q shows low short = kept-seats y l q (row-pieces y l q shows low short)

-- ---- what is answered

paper-taken : (f : List ℕ) (c : Costs) (ls : List Titled) → SizedCosts c → length ls ≤ 79 → Each (λ l. Sized l.piece) ls
    → why_paper f c (length ls) ls ≡ written (f ++ why_text c ls)
unfolding why_paper
paper-taken f c ls costs few sizes =
    let pieces = pieces_in ls in
    let all : take (length ls) pieces ≡ pieces = take_all (length ls) pieces (omega (arith, length-map ls (λ (l : Titled). l.piece))) in
    let each : Each Sized (take (length ls) pieces) = rw all (each_map (λ (l : Titled). Sized l.piece) Sized (λ (l : Titled). l.piece) (λ l h. h) ls sizes) in
    let checked : check_run c (length ls) pieces ≡ Ok tt = taken-check c (length ls) pieces (record { few = few; costs = costs; each = each }) in
    ap (λ (k : Result ⊤ Refusal). unless_bad k (written (f ++ why_text c (take (length ls) ls)))) checked
    ∙ ap (λ (x : List Titled). written (f ++ why_text c x)) (take_all (length ls) ls (omega arith))

pub paper-fine : (f : List ℕ) (c : Costs) (ts : List Task) (es : List (Placed ℕ)) → SizedCosts c → length es ≤ 79 → Each (λ e. Sized e.piece) es
    → why_seats f c ts es ≡ written (f ++ why_text c (map (titled_placed ts) es))
paper-fine f c ts es costs few sizes =
    let ls = map (titled_placed ts) es in
    let long : length ls ≡ length es = length-map es (titled_placed ts) in
    ap (λ (n : ℕ). why_paper f c n ls) (sym long)
    ∙ paper-taken f c ls costs (omega arith)
    (each_map (λ (e : Placed ℕ). Sized e.piece) (λ (l : Titled). Sized l.piece) (titled_placed ts) (λ e h. h) es sizes)

pub asked-inside : (p : Plan) (k core : ℕ) → 1 ≤ core → core ≤ p.machine.cores → why_of p k core ≡ why_asked p k core
unfolding why_of
asked-inside p k core some within = rw (le-leb 1 core some, le-leb core p.machine.cores within)

pub asked-outside : (p : Plan) (k core : ℕ) → (1 ≤ core → core ≤ p.machine.cores → ⊥) → why_of p k core ≡ refused 1 0
unfolding why_of
asked-outside p k core out = elim (dec_lt core 1) [
  | yes none ↦ rw (lt-leb 1 core none)
  | no some ↦ elim (dec_lt p.machine.cores core) [
    | yes past ↦ rw (le-leb 1 core (omega arith), lt-leb core p.machine.cores past)
    | no within ↦ absurd (out (omega arith) (omega arith))
  ]
]

-- ---- of a plan that the walk reached

module _ (m : Machine) (c : Costs) (n : ℕ) (ts : List Task) (good : state_fault m c n ts ≡ 0) where
  sane : Sane m c n ts
  sane = state-sane m c n ts good

  -- what was placed, and the plan that has it
  abbrev placed : List (Placed ℕ)
  placed = walked_until m c (take n ts)

  abbrev reached : Plan
  reached = plan_placed m c (take n ts) placed

  few-tasks : length (take n ts) ≤ 64
  few-tasks = omega (arith, length-take n ts, sane.few)

  few-seats : (q : ℕ) → length (on_core q placed) ≤ 64
  few-seats q = omega (arith, (reached-counts m c n ts good).row_fits q, length-map (on_core q placed) (λ (e : Placed ℕ). e.piece))

  seats-sized : (q : ℕ) → Each (λ e. Sized e.piece) (on_core q placed)
  seats-sized q = each-only (λ e. Sized e.piece) (λ e. eqb e.on q) placed (reached-sized m c n ts good)

  seats-listed : (q : ℕ) → Each (λ e. e.item < length (take n ts)) (on_core q placed)
  seats-listed q = each-only (λ e. e.item < length (take n ts)) (λ e. eqb e.on q) placed (reached-places m c n ts good)

  core-row : (q : ℕ) → q < 16 → row_seats reached.layout q ≡ on_core q placed
  core-row q low = row-seats reached.layout placed q (reached-shows m c n ts good) low ((reached-counts m c n ts good).row_fits q)

  -- the names are those of the tasks
  names-paper : (f : List ℕ) (es : List (Placed ℕ)) → length es ≤ 79 → Each (λ e. Sized e.piece) es → Each (λ e. e.item < length (take n ts)) es
      → why_seats f c reached.tasks.list es ≡ written (f ++ why_text c (map (titled_placed (take n ts)) es))
  names-paper f es few sizes listed =
      let names : map (titled_placed reached.tasks.list) es ≡ map (titled_placed (take n ts)) es =
      map_same (λ (e : Placed ℕ). e.item < length (take n ts)) (titled_placed reached.tasks.list) (titled_placed (take n ts))
      (λ e low. ap (λ (t : Task). record { title = spelling t.name; piece = e.piece }) (tasks-at (take n ts) e.item few-tasks low)) es listed in
      paper-fine f c reached.tasks.list es sane.costs few sizes ∙ ap (λ (ls : List Titled). written (f ++ why_text c ls)) names

  row-paper : (q : ℕ) → q < 16 → why_row reached q ≡ written (why_text c (map (titled_placed (take n ts)) (on_core q placed)))
  unfolding why_row
  row-paper q low =
      ap (why_seats [] c reached.tasks.list) (core-row q low)
      ∙ names-paper [] (on_core q placed) (omega (arith, few-seats q)) (seats-sized q) (seats-listed q)

  pub why-fine : (s : Stand) (l : List (Placed ℕ)) → walked m c (take n ts) ≡ fine s l → (core : ℕ) → 1 ≤ core → core ≤ m.cores
      → why_of (reached_of m c n ts).plan (reached_of m c n ts).carries core ≡ written (why_text c (map (titled_placed (take n ts)) (on_core (core - 1) l)))
  unfolding walked
  why-fine s l planned core some within =
      let W = place_way m c (take n ts) in
      let all : placed ≡ l = until-fine W W.begin s (packed (take n ts)) l planned in
      let reply : reached_of m c n ts ≡ reaching reached (finished m c (take n ts) (fine s l)) =
      reached-ended m c n ts good ∙ ap (λ (o : Ending Stand ℕ). reaching reached (finished m c (take n ts) o)) planned in
      ap (λ (r : Reply). why_of r.plan r.carries core) reply
      ∙ (asked-inside reached 0 core some within
      ∙ (row-paper (core - 1) (omega (arith, sane.cores-fit))
      ∙ ap (λ (x : List (Placed ℕ)). written (why_text c (map (titled_placed (take n ts)) (on_core (core - 1) x)))) all))

  stuck-paper : (k : ℕ) → k < length (take n ts)
      → why_stuck reached k
      ≡ written
      (no_room_line (k + 1) (spelling (task_at (take n ts) k).name) m.cores
      ++ why_text c (map (titled_placed (take n ts)) (on_core (m.cores - 1) placed ++ (whole_seat (take n ts) (m.cores - 1) k ∷ []))))
  unfolding why_stuck
  stuck-paper k low =
      let q : ℕ = m.cores - 1 in
      let list : List Task = reached.tasks.list in
      let whole : Placed ℕ = whole_seat (take n ts) q k in
      let task : task_at list k ≡ task_at (take n ts) k = tasks-at (take n ts) k few-tasks low in
      let front : List ℕ = no_room_line (k + 1) (spelling (task_at (take n ts) k).name) m.cores in
      let row : row_seats reached.layout q ≡ on_core q placed = core-row q (omega (arith, sane.cores-some, sane.cores-fit)) in
      ap
      (λ (t : Task). why_seats (no_room_line (k + 1) (spelling t.name) m.cores) c list
      (row_seats reached.layout q ++ (record { on = q; item = k; piece = whole_piece t.times } ∷ []))) task
      ∙ (ap (λ (es : List (Placed ℕ)). why_seats front c list (es ++ (whole ∷ []))) row
      ∙ names-paper front (on_core q placed ++ (whole ∷ []))
      (omega (arith, few-seats q, length-append (on_core q placed) (whole ∷ [])))
      (each-join (λ e. Sized e.piece) (on_core q placed) (whole ∷ []) (seats-sized q) (sized-at (take n ts) sane.timed k low, tt))
      (each-join (λ e. e.item < length (take n ts)) (on_core q placed) (whole ∷ []) (seats-listed q) (low, tt)))

  pub why-stuck : (k : ℕ) → walked m c (take n ts) ≡ stuck k 7 → (core : ℕ) → 1 ≤ core → core ≤ m.cores
      → why_of (reached_of m c n ts).plan (reached_of m c n ts).carries core
      ≡ written
      (no_room_line (k + 1) (spelling (task_at (take n ts) k).name) m.cores
      ++ why_text c
      (map (titled_placed (take n ts)) (on_core (m.cores - 1) (walked_until m c (take n ts)) ++ (whole_seat (take n ts) (m.cores - 1) k ∷ []))))
  why-stuck k sticks core some within =
      ap (λ (r : Reply). why_of r.plan r.carries core) (reached-stuck m c n ts good k sticks)
      ∙ (asked-inside reached (suc k) core some within ∙ stuck-paper k (no-room-place m c n ts good k sticks))

  pub why-outside : (core : ℕ) → (1 ≤ core → core ≤ m.cores → ⊥) → why_of (reached_of m c n ts).plan (reached_of m c n ts).carries core ≡ refused 1 0
  why-outside core out =
      ap (λ (p : Plan). why_of p (reached_of m c n ts).carries core) (ap (λ (r : Reply). r.plan) (reached-ended m c n ts good))
      ∙ asked-outside reached (reached_of m c n ts).carries core out

-- ---- how long it is

pub titles-few : (ts : List Task) (es : List (Placed ℕ)) → Each (λ t. length (spelling t.name) ≤ 24) ts → Each (λ e. e.item < length ts) es
    → Each (λ l. length l.title ≤ 24) (map (titled_placed ts) es)
titles-few ts es names listed =
    each_map (λ (e : Placed ℕ). e.item < length ts) (λ (l : Titled). length l.title ≤ 24) (titled_placed ts)
    (λ e low. each-task (λ t. length (spelling t.name) ≤ 24) ts names e.item low) es listed

verdict-short : (v : Verdict) → length (verdict_word v) ≤ 10
verdict-short Passes = omega arith
verdict-short (Overloaded t) = omega arith
verdict-short Undecided = omega arith

signed-few : (a b : ℕ) → length (signed a b) ≤ 21
unfolding signed
signed-few a b = by (leb b a)
  where
    by : (t : Bool) → length (cond t (decimal (a - b)) (minus ∷ decimal (b - a))) ≤ 21
    by true = omega (arith, decimal-few (a - b))
    by false = omega (arith, decimal-few (b - a))

head_few : (s : Shown) → length (why_head s) ≤ 57
unfolding why_head
head_few s =
    let word = verdict_word s.verdict in
    let t = decimal s.length in
    let b = decimal s.blocking in
    omega (
      arith,
      length-append (ended_by tab (bytes_of "why")) (ended_by tab word ++ (ended_by tab t ++ ended_by newline b)),
      length-append (ended_by tab word) (ended_by tab t ++ ended_by newline b),
      length-append (ended_by tab t) (ended_by newline b),
      ended-length tab word,
      ended-length tab t,
      ended-length newline b,
      verdict-short s.verdict,
      decimal-few s.length,
      decimal-few s.blocking,
    )

foot-few : (s : Shown) → length (why_foot s) ≤ 55
unfolding why_foot
foot-few s =
    let t = decimal s.total in
    let r = signed s.length s.total in
    omega (
      arith,
      length-append (ended_by tab (bytes_of "total") ++ ended_by newline t) (ended_by tab (bytes_of "slack") ++ ended_by newline r),
      length-append (ended_by tab (bytes_of "total")) (ended_by newline t),
      length-append (ended_by tab (bytes_of "slack")) (ended_by newline r),
      ended-length newline t,
      ended-length newline r,
      decimal-few s.total,
      signed-few s.length s.total,
    )

line-few : (name : List ℕ) (k : Kind) (a : Ask) → length name ≤ 24 → length (ask_line name k a) ≤ 100
unfolding ask_line
line-few name k a short =
    let word = kind_word k in
    let j = decimal a.jobs in
    let d = decimal a.demand in
    let i = decimal a.interrupts in
    omega (
      arith,
      length-append (ended_by tab (bytes_of "piece")) (ended_by tab name ++ (ended_by tab word ++ (ended_by tab j ++ (ended_by tab d ++ ended_by newline i)))),
      length-append (ended_by tab name) (ended_by tab word ++ (ended_by tab j ++ (ended_by tab d ++ ended_by newline i))),
      length-append (ended_by tab word) (ended_by tab j ++ (ended_by tab d ++ ended_by newline i)),
      length-append (ended_by tab j) (ended_by tab d ++ ended_by newline i),
      length-append (ended_by tab d) (ended_by newline i),
      ended-length tab name,
      ended-length tab word,
      ended-length tab j,
      ended-length tab d,
      ended-length newline i,
      word-short k,
      decimal-few a.jobs,
      decimal-few a.demand,
      decimal-few a.interrupts,
    )

pub front-few : (k : ℕ) (name : List ℕ) (m : ℕ) → length name ≤ 24 → length (no_room_line k name m) ≤ 74
unfolding no_room_line
front-few k name m short =
    let place = decimal k in
    let cores = decimal m in
    omega (
      arith,
      length-append (ended_by tab (bytes_of "noroom")) (ended_by tab place ++ (ended_by tab name ++ ended_by newline cores)),
      length-append (ended_by tab place) (ended_by tab name ++ ended_by newline cores),
      length-append (ended_by tab name) (ended_by newline cores),
      ended-length tab place,
      ended-length tab name,
      ended-length newline cores,
      decimal-few k,
      decimal-few m,
    )

module _ (c : Costs) (s : Shown) where
  lines-few : (ls : List Titled) → Each (λ l. length l.title ≤ 24) ls → length (ask_lines c s ls) ≤ 100 * length ls
  lines-few [] short = omega arith
  lines-few (l ∷ ls) short =
      let a : Ask = ask s.verdict s.length (charged c l.piece) in
      omega (
        arith,
        length-append (ask_line l.title l.piece.kind a) (ask_lines c s ls),
        line-few l.title l.piece.kind a short.0,
        lines-few ls short.1,
      )

  body-few : (ls : List Titled) → Each (λ l. length l.title ≤ 24) ls → length (why_body c s ls) ≤ 100 * length ls + 55
  body-few [] short = omega arith
  body-few (l ∷ ls) short = omega (arith, length-append (ask_lines c s (l ∷ ls)) (why_foot s), lines-few (l ∷ ls) short, foot-few s)

pub why-few : (c : Costs) (ls : List Titled) → length ls ≤ 79 → Each (λ l. length l.title ≤ 24) ls → length (why_text c ls) ≤ 8012
unfolding why_text
why-few c ls few short =
    let s : Shown = shown_of c (pieces_in ls) in
    omega (arith, length-append (why_head s) (why_body c s ls), head_few s, body-few c s ls short)
