-- What is answered for a core of a held plan: the listing of what the walk placed there.
-- Assumes nothing.
--
--   good              a held plan's state breaks no rule
--   row_kept          a core's row has what the walk placed there
--   task-held         a held task is the one at its place
--   plan-shown        so it is, of every core of the machine
use mathlib.Core.Path.{◌≡◌, sym, ap, ◌∙◌}
use mathlib.Core.List.{List, [], map}
use Prim.Native.Nat.{ℕ, ◌*◌, ◌-◌, ◌≤◌, ◌<◌}
use native.Mathlib.Decide.{dec_le}
use native.Mathlib.Omega.{arith}
use lib.Dec.{eqb}
use lib.ListN.{length, take, drop, get_or, length-map, length-take}
use lib.Seq.{take-take, take_all, get_or-take}
use Rattle.demand.specs.Sizes.{Sized, Each}
use Rattle.task.specs.declared.Task.{Task}
use Rattle.task.specs.Tasks.{past, task_at, state_fault}
use Rattle.task.proofs.TaskLaws.{Sane, state-sane}
use Rattle.task.proofs.RefusalLaws.{state-kept}
use Rattle.walks.specs.Way.{Placed, on_core}
use Rattle.walks.proofs.ListLaws.{each-only}
use Rattle.plan.specs.declared.Plan.{Plan}
use Rattle.plan.specs.Layout.{blank}
use Rattle.plan.specs.Shows.{stored_of, numbers_on}
use Rattle.plan.proofs.Theorems.{placed-places, placed-sized, plan-counts}
use Rattle.listing.specs.Listing.{spelling, row_pieces}
use Rattle.listing.specs.Papers.{written}
use Rattle.listing.specs.Why.{Titled, why_text, titled_placed, why_seats, why_row, why_of}
use Rattle.listing.proofs.PlacedLaws.{map_same}
use Rattle.listing.proofs.WhyPlacedLaws.{kept-seats, paper-fine, asked-inside}
use Rattle.edits.specs.Edits.{tasks_held, Held}

-- of a row that is not longer than 64 nothing is cut
cut-none : (n : ℕ) (xs : List ℕ) → length (take n xs) ≤ 64 → take n (take 64 xs) ≡ take n xs
cut-none n xs short = elim (dec_le n 64) [
  | yes few ↦ take-take n 64 xs few
  | no many ↦ (let low : length xs ≤ 64 = omega (arith, length-take n xs) in ap (take n) (take_all 64 xs low))
]

module _ (s : Plan) (held : Held s) where
  pub good : state_fault s.machine s.costs s.tasks.count s.tasks.list ≡ 0
  good = (state-kept s.machine s.costs s.tasks.count s.tasks.list).1 held.sane

  sane : Sane s.machine s.costs s.tasks.count s.tasks.list
  sane = state-sane s.machine s.costs s.tasks.count s.tasks.list good

  few_on : (q : ℕ) → length (on_core q held.log) ≤ 64
  few_on q =
      omega (
        arith,
        (plan-counts s.machine s.costs s.tasks.count s.tasks.list good held.stand held.log held.walks).row_fits q,
        length-map (on_core q held.log) (λ (e : Placed ℕ). e.piece),
      )

  pub row_kept : (q : ℕ) → q < 16 → row_pieces s.layout q ≡ map stored_of (on_core q held.log)
  unfolding row_pieces
  row_kept q low =
      let short : length (numbers_on s.layout q) ≤ 64 =
      omega (
        arith,
        length-map (numbers_on s.layout q) (λ (i : ℕ). get_or s.layout.pieces i blank),
        ap length (held.rows q low),
        length-map (on_core q held.log) stored_of,
        few_on q,
      ) in
      ap (map (λ i. get_or s.layout.pieces i blank)) (cut-none (get_or s.layout.lens q 0) (drop (q * 64) s.layout.rows) short) ∙ held.rows q low

  on-sized : (q : ℕ) → Each (λ e. Sized e.piece) (on_core q held.log)
  on-sized q =
      each-only (λ e. Sized e.piece) (λ e. eqb e.on q) held.log
      (placed-sized s.machine s.costs s.tasks.count s.tasks.list good held.stand held.log held.walks)

  on-low : (q : ℕ) → Each (λ e. e.item < length (tasks_held s)) (on_core q held.log)
  on-low q =
      each-only (λ e. e.item < length (tasks_held s)) (λ e. eqb e.on q) held.log
      (placed-places s.machine s.costs s.tasks.count s.tasks.list good held.stand held.log held.walks)

  pub task-held : (i : ℕ) → i < length (tasks_held s) → task_at s.tasks.list i ≡ task_at (tasks_held s) i
  task-held i low = sym (get_or-take s.tasks.count s.tasks.list i past (omega (arith, length-take s.tasks.count s.tasks.list)))

  pub plan-shown : (core : ℕ) → 1 ≤ core → core ≤ s.machine.cores
      → why_of s 0 core ≡ written (why_text s.costs (map (titled_placed (tasks_held s)) (on_core (core - 1) held.log)))
  unfolding why_row
  plan-shown core some within =
      let q = core - 1 in
      let es = on_core q held.log in
      let low : q < 16 = omega (arith, sane.cores-fit) in
      let names : map (titled_placed s.tasks.list) es ≡ map (titled_placed (tasks_held s)) es =
      map_same (λ (e : Placed ℕ). e.item < length (tasks_held s)) (titled_placed s.tasks.list) (titled_placed (tasks_held s))
      (λ e here. ap (λ (t : Task). record { title = spelling t.name; piece = e.piece }) (task-held e.item here)) es (on-low q) in
      asked-inside s 0 core some within
      ∙ (ap (why_seats [] s.costs s.tasks.list) (kept-seats s.layout held.log q (row_kept q low))
      ∙ (paper-fine [] s.costs s.tasks.list es sane.costs (omega (arith, few_on q)) (on-sized q)
      ∙ ap (λ (ls : List Titled). written (why_text s.costs ls)) names))
