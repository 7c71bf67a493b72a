-- Laws of the entries of a plan that the walk gave: they are those of what was placed.
-- Assumes nothing.
--
--   Seated k e             what was placed, e, is of one of the first k tasks, its piece is within the sizes, and its core is one of sixteen
--   all-seated             so is all that the walk placed
--   each_on                what holds of each that is placed holds of each on a core, and that is on it
--   placed-text            the listing of what was placed, by entries; lines-placed: equal entries have equal lines
--   row-pieces             a core's row of at most 64 is listed whole
--   plan-is                the plan, from what was placed
--   row-placed             the entries of a core are those of what was placed there
--   entries-placed, listing-is      so are all entries, and the listing is that of what was placed
--   by-core-all, by-core-each       sorted by core there are as many pieces, and what holds of each still does
--   entries-count, entries-each     there are as many entries as pieces placed, and what holds of the entry of each holds of all entries
--   pieces-count, tasks-count       the plan counts the pieces placed, and its tasks
use mathlib.Core.Path.{◌≡◌, refl, sym, ap, ◌∙◌}
use mathlib.Core.Bool.{Bool, true, false}
use mathlib.Core.List.{List, [], ◌∷◌, ◌++◌, map, map-map, map-append}
use Prim.Native.Nat.{ℕ, zero, suc, ◌*◌, ◌≤◌, ◌<◌}
use native.Mathlib.Decide.{dec_lt}
use native.Mathlib.Omega.{arith}
use borrow.Author.Tests.{ne_eqb, eqb-true, eqb-false}
use lib.Dec.{eqb}
use lib.ListN.{length-take, length, take, drop, get_or, length-append, length-map}
use lib.Seq.{take-take}
use Rattle.demand.specs.declared.Piece.{Piece}
use Rattle.demand.specs.declared.Costs.{Costs}
use Rattle.demand.specs.Sizes.{Sized, SizedCosts, Each}
use Rattle.demand.specs.Charge.{charge}
use Rattle.demand.specs.Answer.{charged_time}
use Rattle.demand.proofs.ChargeLaws.{charged-time-is}
use Rattle.demand.proofs.Sums.{each-imp, each_map}
use Rattle.task.specs.declared.Task.{Task}
use Rattle.task.specs.declared.Machine.{Machine}
use Rattle.task.specs.Tasks.{task_at, state_fault, cores_most, tasks_most, tasks_of}
use Rattle.task.proofs.TaskLaws.{state-sane, tasks-at}
use Rattle.plan.specs.declared.Layout.{Layout}
use Rattle.plan.specs.declared.Plan.{Plan}
use Rattle.plan.specs.Reply.{Reply}
use Rattle.walks.specs.Lists.{keep}
use Rattle.walks.specs.Way.{Placed, fine, on_core, row_of}
use Rattle.walks.specs.Halves.{Stand}
use Rattle.walks.proofs.ListLaws.{each-join, each-only}
use Rattle.plan.specs.Walk.{walked}
use Rattle.plan.specs.Layout.{kept_piece, blank}
use Rattle.plan.specs.Plan.{finished, plan_of}
use Rattle.task.specs.declared.Tasks.{Tasks}
use Rattle.plan.specs.Shows.{stored_of, LayoutShows}
use Rattle.plan.proofs.GoingLaws.{piece-stored}
use Rattle.plan.proofs.Theorems.{placed-places, placed-sized, plan-counts, plan-shows}
use Rattle.listing.specs.Listing.{Entry, kind_word, row_pieces, entry_of, row_entries, entries_on, entries, entry_line, entry_lines, header, listing_of}
use Rattle.listing.specs.Placed.{placed_fields, by_core, placed_lines, text_lines, placed_listing, placed_entry, placed_entries}
use Rattle.listing.specs.Text.{text_line, decimal}
use Rattle.lines.specs.Lines.{bytes_of}

-- ---- what the walk placed

pub record Seated (k : ℕ) (e : Placed ℕ) : Type 0 where
  pub low : e.item < k
  pub size : Sized e.piece
  pub core : e.on < cores_most

seated-all : (k : ℕ) (l : List (Placed ℕ)) → Each (λ e. e.item < k) l → Each (λ e. Sized e.piece) l → Each (λ e. e.on < cores_most) l → Each (Seated k) l
seated-all k [] low size core = tt
seated-all k (e ∷ l) low size core = (record { low = low.0; size = size.0; core = core.0 }, seated-all k l low.1 size.1 core.1)

-- ---- lines by their fields

-- the fields of an entry's line
abbrev fields_of : Entry → List (List ℕ)
fields_of e =
    bytes_of "piece" ∷ decimal e.core ∷ e.task ∷ kind_word e.kind ∷ decimal e.budget ∷ decimal e.window ∷ decimal e.jitter ∷ decimal e.charged ∷ []

module _ (c : Costs) (ts : List Task) where
  fields-placed : (l : List (Placed ℕ)) → map (placed_fields c ts) l ≡ map fields_of (map (placed_entry c ts) l)
  unfolding placed_fields placed_entry
  fields-placed [] = refl
  fields-placed (e ∷ l) = ap (λ (ls : List (List (List ℕ))). fields_of (placed_entry c ts e) ∷ ls) (fields-placed l)

  lines_of : (es : List Entry) → text_lines (map fields_of es) ≡ entry_lines es
  unfolding entry_line
  lines_of [] = refl
  lines_of (e ∷ es) = ap (λ (t : List ℕ). text_line (fields_of e) ++ t) (lines_of es)

  pub placed-text : (l : List (Placed ℕ)) → placed_listing c ts l ≡ header (length ts) (length l) ++ entry_lines (placed_entries c ts l)
  unfolding placed_listing header
  placed-text l = ap (λ (t : List ℕ). header (length ts) (length l) ++ t) (ap text_lines (fields-placed (by_core cores_most l)) ∙ lines_of (placed_entries c ts l))

-- so equal entries have equal lines
pub lines-placed : (c c' : Costs) (ts ts' : List Task) (l l' : List (Placed ℕ)) → placed_entries c ts l ≡ placed_entries c' ts' l'
    → placed_lines c ts l ≡ placed_lines c' ts' l'
lines-placed c c' ts ts' l l' same =
    fields-placed c ts (by_core cores_most l) ∙ (ap (map fields_of) same ∙ sym (fields-placed c' ts' (by_core cores_most l')))

module _ (m : Machine) (c : Costs) (n : ℕ) (ts : List Task) (faultless : state_fault m c n ts ≡ 0) (s : Stand) (l : List (Placed ℕ))
    (planned : walked m c (take n ts) ≡ fine s l) where
  seats-low : Each (λ e. e.on < cores_most) l
  seats-low =
      each-imp (λ (e : Placed ℕ). e.on < m.cores) (λ (e : Placed ℕ). e.on < cores_most)
      (λ e h. omega (arith, (state-sane m c n ts faultless).cores-fit)) l (plan-counts m c n ts faultless s l planned).cores

  pub all-seated : Each (Seated (length (take n ts))) l
  all-seated =
      seated-all (length (take n ts)) l (placed-places m c n ts faultless s l planned) (placed-sized m c n ts faultless s l planned) seats-low

-- ---- what is on a core

pub each_on : (P : Placed ℕ → Type 0) (q : ℕ) (l : List (Placed ℕ)) → Each P l → Each (λ e. P e × (e.on ≡ q)) (on_core q l)
each_on P q [] ok = tt
each_on P q (e ∷ l) ok = by (eqb e.on q) refl (each_on P q l ok.1)
  where
    by : (t : Bool) → eqb e.on q ≡ t → Each (λ e. P e × (e.on ≡ q)) (on_core q l) → Each (λ e. P e × (e.on ≡ q)) (keep t e (on_core q l))
    by true h others = ((ok.0, eqb-true e.on q h), others)
    by false h others = others

pub map_same : {A B : Type 0} (P : A → Type 0) (f g : A → B) → ((a : A) → P a → f a ≡ g a) → (x : List A) → Each P x → map f x ≡ map g x
map_same P f g same [] ok = refl
map_same P f g same (a ∷ x) ok = cc (same a ok.0, map_same P f g same x ok.1)

-- the entry of what was placed, from the plan's struct
entry-placed : (p : Plan) (c : Costs) (ts : List Task) (q : ℕ) (e : Placed ℕ) → p.costs ≡ c → length ts ≤ tasks_most → p.tasks ≡ tasks_of ts → SizedCosts c
    → Seated (length ts) e → e.on ≡ q → entry_of p q (stored_of e) ≡ placed_entry c ts e
unfolding entry_of placed_entry
entry-placed p c ts q e costs few list sizes seat on =
    let piece : kept_piece (stored_of e) ≡ e.piece = piece-stored e.item e.piece in
    let task : task_at p.tasks.list e.item ≡ task_at ts e.item = ap (λ (q : Tasks). task_at q.list e.item) list
    ∙ tasks-at ts e.item few seat.low in
    let time : charged_time p.costs (kept_piece (stored_of e)) ≡ charge c e.piece = rw (piece, costs) (charged-time-is c e.piece sizes seat.size) in
    let kind : (kept_piece (stored_of e)).kind ≡ e.piece.kind = ap (λ (z : Piece). z.kind) piece in
    cc (on, task, time, kind)

-- a row of at most 64 is listed whole
pub row-pieces : (y : Layout) (l : List (Placed ℕ)) (q : ℕ) → LayoutShows y l → q < 16 → length (row_of q l) ≤ 64 → row_pieces y q ≡ map stored_of (on_core q l)
unfolding row_pieces
row-pieces y l q shows low short =
    let few : get_or y.lens q 0 ≤ 64 = omega (arith, shows.lens q low) in
    ap (map (λ i. get_or y.pieces i blank)) (take-take (get_or y.lens q 0) 64 (drop (q * 64) y.rows) few) ∙ shows.numbers q low

-- ---- how many there are

by-core-above : (k : ℕ) (e : Placed ℕ) (l : List (Placed ℕ)) → k ≤ e.on → by_core k (e ∷ l) ≡ by_core k l
by-core-above zero e l high = refl
by-core-above (suc q) e l high = rw (by-core-above q e l (omega arith), ne_eqb e.on q (λ h. omega arith))

by-core-below : (k : ℕ) (e : Placed ℕ) (l : List (Placed ℕ)) → e.on < k → length (by_core k (e ∷ l)) ≡ suc (length (by_core k l))
by-core-below zero e l low = absurd (omega arith)
by-core-below (suc q) e l low = by (eqb e.on q) refl (λ h. by-core-below q e l h)
  where
    by : (t : Bool) → eqb e.on q ≡ t → (e.on < q → length (by_core q (e ∷ l)) ≡ suc (length (by_core q l)))
        → length (by_core q (e ∷ l) ++ keep t e (on_core q l)) ≡ suc (length (by_core q l ++ on_core q l))
    by true h below =
        omega (
          arith,
          length-append (by_core q (e ∷ l)) (e ∷ on_core q l),
          length-append (by_core q l) (on_core q l),
          ap length (by-core-above q e l (omega (arith, eqb-true e.on q h))),
        )
    by false h below =
        omega (
          arith,
          length-append (by_core q (e ∷ l)) (on_core q l),
          length-append (by_core q l) (on_core q l),
          below (less (dec_lt e.on q)),
        )
      where
        less : Dec (e.on < q) → e.on < q
        less (yes g) = g
        less (no g) = absurd (eqb-false e.on q h (omega arith))

by-core-none : (k : ℕ) → by_core k [] ≡ []
by-core-none zero = refl
by-core-none (suc q) = rw (by-core-none q)

pub by-core-all : (k : ℕ) (l : List (Placed ℕ)) → Each (λ e. e.on < k) l → length (by_core k l) ≡ length l
by-core-all k [] ok = ap length (by-core-none k)
by-core-all k (e ∷ l) ok = by-core-below k e l ok.0 ∙ ap suc (by-core-all k l ok.1)

pub by-core-each : (P : Placed ℕ → Type 0) (k : ℕ) (l : List (Placed ℕ)) → Each P l → Each P (by_core k l)
by-core-each P zero l ok = tt
by-core-each P (suc q) l ok = each-join P (by_core q l) (on_core q l) (by-core-each P q l ok) (each-only P (λ e. eqb e.on q) l ok)

-- ---- a plan that the walk gave

module _ (m : Machine) (c : Costs) (n : ℕ) (ts : List Task) (faultless : state_fault m c n ts ≡ 0) (s : Stand) (l : List (Placed ℕ))
    (planned : walked m c (take n ts) ≡ fine s l) where
  pub plan-is : plan_of m c n ts ≡ finished m c (take n ts) (fine s l)
  unfolding plan_of
  plan-is = rw (faultless, planned)

  pub row-placed : (q : ℕ) → q < 16 → row_entries (plan_of m c n ts).plan q ≡ map (placed_entry c (take n ts)) (on_core q l)
  row-placed q low =
      let p : Plan = (plan_of m c n ts).plan in
      let k : ℕ = length (take n ts) in
      let costs : p.costs ≡ c = ap (λ (r : Reply). r.plan.costs) plan-is in
      let list : p.tasks ≡ tasks_of (take n ts) = ap (λ (r : Reply). r.plan.tasks) plan-is in
      let few : length (take n ts) ≤ tasks_most = omega (arith, length-take n ts, (state-sane m c n ts faultless).few) in
      ap (map (entry_of p q)) (row-pieces p.layout l q (plan-shows m c n ts faultless s l planned) low
      ((plan-counts m c n ts faultless s l planned).row_fits q))
      ∙ (map-map (entry_of p q) stored_of (on_core q l)
      ∙ map_same (λ e. Seated k e × (e.on ≡ q)) (λ e. entry_of p q (stored_of e)) (placed_entry c (take n ts))
      (λ e seat. entry-placed p c (take n ts) q e costs few list (state-sane m c n ts faultless).costs seat.0 seat.1) (on_core q l)
      (each_on (Seated k) q l (all-seated m c n ts faultless s l planned)))

  rows-placed : (k : ℕ) → k ≤ 16 → entries_on (plan_of m c n ts).plan k ≡ map (placed_entry c (take n ts)) (by_core k l)
  rows-placed zero few = refl
  rows-placed (suc q) few =
      (λ i. rows-placed q (omega arith) i ++ row-placed q (omega arith) i) ∙ sym (map-append (placed_entry c (take n ts)) (by_core q l) (on_core q l))

  pub entries-placed : entries (plan_of m c n ts).plan ≡ placed_entries c (take n ts) l
  entries-placed = rows-placed 16 (omega arith)

  pub entries-count : length (placed_entries c (take n ts) l) ≡ length l
  entries-count = length-map (by_core 16 l) (placed_entry c (take n ts)) ∙ by-core-all 16 l (seats-low m c n ts faultless s l planned)

  -- what holds of the entry of each piece that was placed holds of all entries
  pub entries-each : (R : Entry → Type 0) → ((e : Placed ℕ) → Seated (length (take n ts)) e → R (placed_entry c (take n ts) e))
      → Each R (placed_entries c (take n ts) l)
  entries-each R each =
      let k : ℕ = length (take n ts) in
      each_map (Seated k) R (placed_entry c (take n ts)) each (by_core 16 l)
      (by-core-each (Seated k) 16 l (all-seated m c n ts faultless s l planned))

  pub pieces-count : (plan_of m c n ts).plan.layout.count ≡ length l
  pieces-count = (plan-shows m c n ts faultless s l planned).count

  pub tasks-count : (plan_of m c n ts).plan.tasks.count ≡ length (take n ts)
  tasks-count = ap (λ (r : Reply). r.plan.tasks.count) plan-is

  pub listing-is : listing_of (plan_of m c n ts).plan ≡ placed_listing c (take n ts) l
  unfolding listing_of
  listing-is = (λ i. header (tasks-count i) (pieces-count i) ++ entry_lines (entries-placed i)) ∙ sym (placed-text c (take n ts) l)
