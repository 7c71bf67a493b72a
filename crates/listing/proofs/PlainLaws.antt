-- Laws of the entries of what a walk placed: they can be read back.
-- Assumes nothing.
--
--   name-plain             a name of the form has no tab
--   names-formed           tasks that break no rule have such names
--   each-task              what holds of each task, of the one at a place
--   word-short             no kind's word has more than five bytes
--   placed-readable        the entry of what was placed can be read back
--   entries-readable       so can all entries
--   listing-few            tasks with names of at most 24 bytes have a listing of at most 20,000
use mathlib.Core.Path.{◌≡◌, refl}
use mathlib.Core.Bool.{Bool, true, false}
use mathlib.Core.List.{List, [], ◌∷◌, ◌++◌}
use Prim.Native.Nat.{ℕ, zero, suc, ◌+◌, ◌*◌, ◌≤◌, ◌<◌}
use native.Mathlib.Nat.{not-suc-le-zero, le_of_suc-le-suc}
use native.Mathlib.Omega.{arith}
use borrow.Author.Tests.{lt-ltb, leb-true}
use lib.Dec.{leb}
use lib.ListN.{length, take, length-append}
use Rattle.demand.specs.declared.Kind.{Kind}
use Rattle.demand.specs.declared.Costs.{Costs}
use Rattle.demand.specs.Sizes.{SizedCosts, Each}
use Rattle.demand.specs.Charge.{charge, charged}
use Rattle.demand.proofs.Tests.{both_left, both_right}
use Rattle.demand.proofs.KindLaws.{every-kind}
use Rattle.demand.proofs.ChargeLaws.{charged-ranged, sized-countable}
use Rattle.task.specs.declared.Name.{Name}
use Rattle.task.specs.declared.Task.{Task}
use Rattle.task.specs.declared.Machine.{Machine}
use Rattle.task.specs.Names.{name_byte, fits_at, spelt_from, spelt, formed}
use Rattle.task.specs.Tasks.{task_at, fault_of, first_fault, or_else, state_fault}
use Rattle.task.proofs.TaskLaws.{state-sane, fault-form}
use Rattle.lines.specs.Lines.{bytes_of, newline, tab}
use Rattle.walks.specs.Way.{Placed, fine}
use Rattle.walks.specs.Halves.{Stand}
use Rattle.plan.specs.Walk.{walked}
use Rattle.plan.proofs.Theorems.{plan-counts}
use Rattle.listing.specs.Text.{ended_by, decimal}
use Rattle.listing.specs.Listing.{Entry, spelling, kind_word, figures_line, entry_line, entry_lines, header}
use Rattle.listing.specs.Placed.{placed_entry, placed_entries, placed_listing}
use Rattle.listing.proofs.ReadLaws.{Lacks, Readable}
use Rattle.listing.proofs.PlacedLaws.{Seated, placed-text, entries-each, entries-count}
use Rattle.listing.proofs.TextLaws.{ended-length, decimal-few}

-- ---- names

byte-plain : (b : ℕ) → name_byte b ≡ true → b ≡ tab → ⊥
unfolding name_byte
byte-plain b ok e = let h : false ≡ true = rw e at ok in let z : ◌≡◌ {A = ℕ} 0 1 = cc in omega arith

spelt-plain : (n k i : ℕ) (bs : List ℕ) → n ≡ i + k → spelt_from n i bs ≡ true → Lacks tab (take k bs)
spelt-plain n zero i bs e ok = tt
spelt-plain n (suc k) i [] e ok = tt
spelt-plain n (suc k) i (b ∷ bs) e ok =
    let here : fits_at b i n ≡ true = both_left (fits_at b i n) (spelt_from n (i + 1) bs) ok in
    (byte-plain b (rw (lt-ltb i n (omega arith)) at here), spelt-plain n k (i + 1) bs (omega arith) (both_right (fits_at b i n) (spelt_from n (i + 1) bs) ok))

pub name-plain : (n : Name) → formed n ≡ true → Lacks tab (spelling n)
unfolding formed
name-plain n ok = spelt-plain n.len n.len 0 n.bytes (omega arith) (both_right (leb 1 n.len) (spelt n.len n.bytes) ok)

pub names-formed : (above ts : List Task) → first_fault above ts ≡ 0 → Each (λ t. formed t.name ≡ true) ts
names-formed above [] e = tt
names-formed above (t ∷ ts) e = (by_form (formed t.name) refl, names-formed (above ++ (t ∷ [])) ts (others (fault_of above t) e))
  where
    others : (k : ℕ) → or_else k (first_fault (above ++ (t ∷ [])) ts) ≡ 0 → first_fault (above ++ (t ∷ [])) ts ≡ 0
    others zero h = h
    others (suc k) h = absurd (omega arith)

    by_form : (b : Bool) → formed t.name ≡ b → b ≡ true
    by_form true h = refl
    by_form false h = let z : ◌≡◌ {A = ℕ} 8 0 = rw (fault-form above t h) at e in absurd (omega arith)

pub each-task : (P : Task → Type 0) (ts : List Task) → Each P ts → (i : ℕ) → i < length ts → P (task_at ts i)
each-task P [] ok i low = absurd (not-suc-le-zero low)
each-task P (t ∷ ts) ok zero low = ok.0
each-task P (t ∷ ts) ok (suc i) low = each-task P ts ok.1 i (le_of_suc-le-suc low)

-- ---- how long lines are

pub word-short : (k : Kind) → length (kind_word k) ≤ 5
word-short k = leb-true (length (kind_word k)) 5 (every-kind (λ k. leb (length (kind_word k)) 5) refl k)

line-short : (e : Entry) → length e.task ≤ 24 → length (entry_line e) ≤ 142
unfolding entry_line
line-short e short =
    let core = decimal e.core in
    let b = decimal e.budget in
    let w = decimal e.window in
    let j = decimal e.jitter in
    let k = decimal e.charged in
    let word = kind_word e.kind in
    let figures = figures_line e.budget e.window e.jitter e.charged in
    let few : length word ≤ 5 = word-short e.kind in
    omega (
      arith,
      length-append (ended_by tab (bytes_of "piece")) (ended_by tab core ++ (ended_by tab e.task ++ (ended_by tab word ++ figures))),
      length-append (ended_by tab core) (ended_by tab e.task ++ (ended_by tab word ++ figures)),
      length-append (ended_by tab e.task) (ended_by tab word ++ figures),
      length-append (ended_by tab word) figures,
      length-append (ended_by tab b) (ended_by tab w ++ (ended_by tab j ++ ended_by newline k)),
      length-append (ended_by tab w) (ended_by tab j ++ ended_by newline k),
      length-append (ended_by tab j) (ended_by newline k),
      ended-length tab core,
      ended-length tab e.task,
      ended-length tab word,
      ended-length tab b,
      ended-length tab w,
      ended-length tab j,
      ended-length newline k,
      decimal-few e.core,
      decimal-few e.budget,
      decimal-few e.window,
      decimal-few e.jitter,
      decimal-few e.charged,
    )

lines-short : (es : List Entry) → Each (λ e. length e.task ≤ 24) es → length (entry_lines es) ≤ 142 * length es
lines-short [] short = omega arith
lines-short (e ∷ es) short = omega (arith, length-append (entry_line e) (entry_lines es), line-short e short.0, lines-short es short.1)

header-short : (n m : ℕ) → length (header n m) ≤ 47
unfolding header
header-short n m =
    let t = decimal n in
    let k = decimal m in
    omega (
      arith,
      length-append (ended_by tab (bytes_of "plan")) (ended_by tab t ++ ended_by newline k),
      length-append (ended_by tab t) (ended_by newline k),
      ended-length tab t,
      ended-length newline k,
      decimal-few n,
      decimal-few m,
    )

listing-short : (n m : ℕ) (es : List Entry) → Each (λ e. length e.task ≤ 24) es → length es ≤ 79 → length (header n m ++ entry_lines es) ≤ 20000
listing-short n m es short few = omega (arith, length-append (header n m) (entry_lines es), header-short n m, lines-short es short)

-- ---- entries

pub placed-readable : (c : Costs) (ts : List Task) (e : Placed ℕ) → SizedCosts c → Each (λ t. formed t.name ≡ true) ts
    → Seated (length ts) e → Readable (placed_entry c ts e)
unfolding placed_entry charged
placed-readable c ts e costs names seat =
    let time : charge c e.piece ≤ 2000000 = (charged-ranged c costs e.piece (sized-countable e.piece seat.size)).charge-fits in
    record {
      core-fits = omega (arith, seat.core);
      task-plain = name-plain (task_at ts e.item).name (each-task (λ t. formed t.name ≡ true) ts names e.item seat.low);
      budget-fits = omega (arith, seat.size.budget-fits, seat.size.window-fits, seat.size.period-fits);
      window-fits = omega (arith, seat.size.window-fits, seat.size.period-fits);
      jitter-fits = omega (arith, seat.size.jitter-fits);
      charged-fits = omega arith;
    }

placed-short : (c : Costs) (ts : List Task) (e : Placed ℕ) → Each (λ t. length (spelling t.name) ≤ 24) ts → Seated (length ts) e
    → length (placed_entry c ts e).task ≤ 24
unfolding placed_entry
placed-short c ts e names seat = each-task (λ t. length (spelling t.name) ≤ 24) ts names e.item seat.low

module _ (m : Machine) (c : Costs) (n : ℕ) (ts : List Task) (faultless : state_fault m c n ts ≡ 0) (s : Stand) (l : List (Placed ℕ))
    (planned : walked m c (take n ts) ≡ fine s l) where
  pub entries-readable : Each Readable (placed_entries c (take n ts) l)
  entries-readable =
      let sane = state-sane m c n ts faultless in
      entries-each m c n ts faultless s l planned Readable
      (λ e seat. placed-readable c (take n ts) e sane.costs (names-formed [] (take n ts) sane.faultless) seat)

  pub listing-few : Each (λ t. length (spelling t.name) ≤ 24) (take n ts) → length (placed_listing c (take n ts) l) ≤ 20000
  listing-few names =
      let short : Each (λ e. length e.task ≤ 24) (placed_entries c (take n ts) l) =
      entries-each m c n ts faultless s l planned (λ e. length e.task ≤ 24) (λ e seat. placed-short c (take n ts) e names seat) in
      rw (placed-text c (take n ts) l) (listing-short (length (take n ts)) (length l) (placed_entries c (take n ts) l) short
      (omega (arith, entries-count m c n ts faultless s l planned, (plan-counts m c n ts faultless s l planned).pieces-fit)))
