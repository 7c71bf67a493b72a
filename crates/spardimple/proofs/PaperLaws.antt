-- Laws of what a sheet comes to, told by what its lines say and what the walk over its tasks places.
-- Assumes nothing.
--
--   said-sane             what a sheet that is read says breaks no rule of a state
--   Ends sheet            how the walk over its tasks ends: with the listing that its plan has, or at one of them
--   said-ends             so it ends
--   names-short           a sheet's task names have at most 24 bytes
--   text-few              its listing has at most 20,000 bytes
--   paper-cases           what a sheet comes to: its own refusal, 7 with a task's place, or the listing of what was placed
--   told-cases            what is told of a listing: its length, or 10 with it
--   paper-carries         what is told of it carries less than 2^32
--   paper-seven           7 comes exactly where the walk sticks
--   text-one              sheets with one listing have equal entries
--   buffer-refused, buffer-written           what the buffer then holds
use mathlib.Core.Path.{◌≡◌, refl, sym, ap, subst, ◌∙◌}
use mathlib.Core.Logic.{◌⊎◌, inl, inr, ◌↔◌}
use mathlib.Core.Bool.{Bool, true, false, cond}
use mathlib.Core.List.{List, [], ◌++◌}
use Prim.Native.Nat.{ℕ, zero, suc, ◌^◌, ◌≤◌, ◌<◌}
use native.Mathlib.Decide.{dec_lt}
use native.Mathlib.Omega.{arith}
use lib.Dec.{leb}
use lib.ListN.{length, take, drop, length-take}
use lib.Seq.{take-length}
use Rattle.demand.specs.Sizes.{sized_costs, Each}
use Rattle.demand.specs.Answer.{Told}
use Rattle.demand.specs.Tables.{Rule, Kept}
use Rattle.demand.proofs.Sums.{each-imp}
use Rattle.demand.proofs.PaddedLaws.{padded-length}
use Rattle.demand.proofs.TableLaws.{Comes, comes-kept}
use Rattle.task.specs.declared.Task.{Task}
use Rattle.task.specs.declared.Tasks.{Tasks}
use Rattle.task.specs.Names.{name_most}
use Rattle.task.specs.Tasks.{tasks_most, list_of, sized_machine, rule, first_fault, state_fault}
use Rattle.walks.specs.Way.{Placed, Ending, fine, stuck}
use Rattle.walks.specs.Halves.{Stand}
use Rattle.plan.specs.Reply.{Reply}
use Rattle.plan.specs.Walk.{walked}
use Rattle.plan.specs.Plan.{finished, refused as refused_plan}
use Rattle.plan.specs.Refusals.{walk_table}
use Rattle.plan.proofs.Theorems.{plan-or-stuck}
use Rattle.plan.proofs.RefusalLaws.{walk-comes}
use Rattle.lines.specs.Lines.{name_of}
use Rattle.sheet.specs.declared.Sheet.{Sheet}
use Rattle.sheet.specs.Sheet.{read_of}
use Rattle.sheet.specs.Fitted.{Fitted, lines_of}
use Rattle.sheet.proofs.ArrowLaws.{first-arrow}
use Rattle.sheet.proofs.RuleLaws.{breaks-no-rule}
use Rattle.sheet.proofs.RefusalLaws.{read-said, read-array}
use Rattle.sheet.proofs.SmallLaws.{read_small}
use Rattle.listing.specs.Listing.{Entry, spelling, listing_of}
use Rattle.listing.specs.Placed.{placed_entries, placed_listing}
use Rattle.listing.proofs.TextLaws.{over-short, over-fits}
use Rattle.listing.proofs.PlainLaws.{listing-few}
use Rattle.listing.proofs.Theorems.{listing-placed, listing-determines}
use Rattle.spardimple.specs.Sheets.{machine_in, costs_in, tasks_in, placed_by, placed_of, text_of}
use Rattle.listing.specs.Papers.{Paper, refused, written, left}
use Rattle.spardimple.specs.Sheets.{plan_sheet, paper_of, refusal, told_paper, listing_left}
use Rattle.spardimple.proofs.SheetLaws.{paper-unread, paper-stuck, paper-written, reply-small, told-long, told-short}

-- ---- what a sheet that is read says

abbrev pub walk_in : List ℕ → Ending Stand ℕ
walk_in sheet = walked (machine_in sheet) (costs_in sheet) (tasks_in sheet)

abbrev pub walks_in : List ℕ → List Rule
walks_in sheet = walk_table (machine_in sheet) (costs_in sheet) (tasks_in sheet)

abbrev plans_in : List ℕ → Reply
plans_in sheet = plan_sheet (read_of sheet).sheet

pub data Ends (sheet : List ℕ) : Type 1 where
  ends-well : (s : Stand) → walk_in sheet ≡ fine s (placed_of sheet) → Kept (walks_in sheet) → (plans_in sheet).number ≡ 0
      → listing_of (plans_in sheet).plan ≡ text_of sheet → Ends sheet
  ends_stuck : (k : ℕ) → walk_in sheet ≡ stuck k 7 → Comes (walks_in sheet) 7 (suc k) → (plans_in sheet).number ≡ 7 → (plans_in sheet).carries ≡ suc k → Ends sheet

module _ (sheet : List ℕ) (whole : (read_of sheet).number ≡ 0) where
  abbrev pub sheet_read : Sheet
  sheet_read = (read_of sheet).sheet

  pub machine-said : sheet_read.machine ≡ machine_in sheet
  machine-said = (read-said sheet whole).0

  pub costs-said : sheet_read.costs ≡ costs_in sheet
  costs-said = (read-said sheet whole).1

  pub tasks-said : list_of sheet_read.tasks ≡ tasks_in sheet
  tasks-said = (read-said sheet whole).2

  pub good : state_fault sheet_read.machine sheet_read.costs sheet_read.tasks.count sheet_read.tasks.list ≡ 0
  good = breaks-no-rule sheet whole

  pub counted : sheet_read.tasks.count ≡ length (tasks_in sheet)
  counted = ap (λ (q : Tasks). q.count) (read-array sheet whole)

  pub said-sane : state_fault (machine_in sheet) (costs_in sheet) (length (tasks_in sheet)) (tasks_in sheet) ≡ 0
  unfolding state_fault
  said-sane =
      let items : take (length (tasks_in sheet)) (tasks_in sheet) ≡ list_of sheet_read.tasks = take-length (tasks_in sheet) ∙ sym tasks-said in
      (λ i. rule (sized_machine (sym machine-said i)) 1
      (rule (sized_costs (sym costs-said i)) 2 (rule (leb (sym counted i) tasks_most) 6 (first_fault [] (items i))))) ∙ good

  -- the walk over what was read
  abbrev pub walk_read : Ending Stand ℕ
  walk_read = walked sheet_read.machine sheet_read.costs (list_of sheet_read.tasks)

  pub said-walk : walk_read ≡ walk_in sheet
  said-walk = λ i. walked (machine-said i) (costs-said i) (tasks-said i)

  said-comes : Comes (walks_in sheet) (plans_in sheet).number (plans_in sheet).carries
  said-comes =
      subst (λ (rules : List Rule). Comes rules (plans_in sheet).number (plans_in sheet).carries)
      (λ i. walk_table (machine-said i) (costs-said i) (tasks-said i))
      (walk-comes sheet_read.machine sheet_read.costs sheet_read.tasks.count sheet_read.tasks.list good)

  text-is : (s : Stand) (l : List (Placed ℕ)) → walk_read ≡ fine s l → listing_of (plans_in sheet).plan ≡ text_of sheet
  unfolding text_of
  text-is s l so =
      let placed : placed_of sheet ≡ l = ap placed_by (sym said-walk ∙ so) in
      listing-placed sheet_read.machine sheet_read.costs sheet_read.tasks.count sheet_read.tasks.list good s l so
      ∙ (λ i. placed_listing (costs-said i) (tasks-said i) (sym placed i))

  pub said-ends : Ends sheet
  said-ends = by (plan-or-stuck sheet_read.machine sheet_read.costs sheet_read.tasks.count sheet_read.tasks.list good)
    where
      by : ((s : Stand) × (l : List (Placed ℕ)) × (walk_read ≡ fine s l)
          × (plans_in sheet ≡ finished sheet_read.machine sheet_read.costs (list_of sheet_read.tasks) (fine s l)))
          ⊎ ((k : ℕ) × (walk_read ≡ stuck k 7) × (plans_in sheet ≡ refused_plan 7 (suc k))) → Ends sheet
      by (inl h) =
          let so : walk_in sheet ≡ fine h.0 h.1 = sym said-walk ∙ h.2 in
          let none : (plans_in sheet).number ≡ 0 = ap (λ (r : Reply). r.number) h.3 in
          ends-well h.0 (so ∙ ap (fine h.0) (sym (ap placed_by so))) ((comes-kept said-comes).0 none) none (text-is h.0 h.1 h.2)
      by (inr h) =
          let seven : (plans_in sheet).number ≡ 7 = ap (λ (r : Reply). r.number) h.2 in
          let place : (plans_in sheet).carries ≡ suc h.0 = ap (λ (r : Reply). r.carries) h.2 in
          ends_stuck h.0 (sym said-walk ∙ h.1)
          (subst (λ (n : ℕ). Comes (walks_in sheet) n (suc h.0)) seven (subst (Comes (walks_in sheet) (plans_in sheet).number) place said-comes))
          seven place

-- ---- how long a listing is

-- the walk, over the tasks as the laws of a plan cut them
walk-cut : (sheet : List ℕ) (s : Stand) → walk_in sheet ≡ fine s (placed_of sheet)
    → walked (machine_in sheet) (costs_in sheet) (take (length (tasks_in sheet)) (tasks_in sheet)) ≡ fine s (placed_of sheet)
walk-cut sheet s so = ap (walked (machine_in sheet) (costs_in sheet)) (take-length (tasks_in sheet)) ∙ so

name-short : (f : List ℕ) → length (spelling (name_of f)) ≤ 24
unfolding name_of
name-short f = omega (arith, length-take (length f) (name_of f).bytes, padded-length 0 name_most f)

module _ (sheet : List ℕ) (whole : (read_of sheet).number ≡ 0) where
  abbrev pub Short : Task → Type 0
  Short t = length (spelling t.name) ≤ 24

  pub names-short : Each Short (tasks_in sheet)
  names-short =
      subst (Each Short) (tasks-said sheet whole)
      (each-imp (Fitted (lines_of sheet)) Short (λ t fitted. rw fitted.named (name-short fitted.task-name))
      (list_of (read_of sheet).sheet.tasks) (first-arrow sheet whole))

  pub text-few : (s : Stand) → walk_in sheet ≡ fine s (placed_of sheet) → length (text_of sheet) ≤ 20000
  unfolding text_of
  text-few s so =
      let c = costs_in sheet in
      let ts = tasks_in sheet in
      let all = take-length ts in
      subst (λ (us : List Task). length (placed_listing c us (placed_of sheet)) ≤ 20000) all
      (listing-few (machine_in sheet) c (length ts) ts (said-sane sheet whole) s (placed_of sheet) (walk-cut sheet s so)
      (subst (Each Short) (sym all) names-short))

-- ---- what a sheet comes to

-- a claim on every paper that a sheet can come to
pub paper-cases : (sheet : List ℕ) (P : Paper → Type 0)
    → (((read_of sheet).number ≡ 0 → ⊥) → P (refused (read_of sheet).number (read_of sheet).carries))
    → ((read_of sheet).number ≡ 0 → (k : ℕ) → suc k ≤ 64 → walk_in sheet ≡ stuck k 7 → Comes (walks_in sheet) 7 (suc k) → P (refused 7 (suc k)))
    → ((read_of sheet).number ≡ 0 → (s : Stand) → walk_in sheet ≡ fine s (placed_of sheet) → Kept (walks_in sheet) → P (written (text_of sheet)))
    → P (paper_of sheet)
paper-cases sheet P unread stuck_at listed = by (read_of sheet).number refl
  where
    ends : (read_of sheet).number ≡ 0 → Ends sheet → P (paper_of sheet)
    ends whole (ends-well s so kept none text) =
        subst P (sym (paper-written sheet (read_of sheet) refl whole (plans_in sheet) refl none ∙ ap written text)) (listed whole s so kept)
    ends whole (ends_stuck k so comes seven place) =
        let small = reply-small sheet (read_of sheet) refl whole (plans_in sheet) refl in
        subst P (sym (paper-stuck sheet (read_of sheet) refl whole (plans_in sheet) refl (λ e. omega arith) ∙ (λ i. refused (seven i) (place i))))
        (stuck_at whole k (omega (arith, small.1)) so comes)

    by : (n : ℕ) → (read_of sheet).number ≡ n → P (paper_of sheet)
    by zero e = ends e (said-ends sheet e)
    by (suc n) e = subst P (sym (paper-unread sheet (read_of sheet) refl (λ z. omega arith))) (unread (λ z. omega arith))

-- a claim on what is told of a listing, where the buffer is long enough and where not
pub told-cases : (text : List ℕ) (room : ℕ) (P : Told → Type 0) → P (record { which = 0; carries = length text }) → P (refusal 10 (length text))
    → P (told_paper (written text) room)
told-cases text room P long short = by (leb (length text) room)
  where
    by : (b : Bool) → P (cond b (record { which = 0; carries = length text }) (refusal 10 (length text)))
    by true = long
    by false = short

pub paper-carries : (sheet : List ℕ) (room : ℕ) → (told_paper (paper_of sheet) room).carries < 2 ^ 32
paper-carries sheet room =
    paper-cases sheet (λ p. (told_paper p room).carries < 2 ^ 32)
    (λ bad. omega (arith, (read_small sheet).1))
    (λ whole k small so comes. omega arith)
    (λ whole s so kept. (let few = text-few sheet whole s so in
    told-cases (text_of sheet) room (λ t. t.carries < 2 ^ 32) (omega arith) (omega arith)))

-- ---- where the walk sticks

abbrev stuck_at : Ending Stand ℕ → ℕ
stuck_at (fine s l) = 0
stuck_at (stuck k n) = suc k

pub paper-seven : (sheet : List ℕ) (room k : ℕ) → (read_of sheet).number ≡ 0 → (told_paper (paper_of sheet) room ≡ refusal 7 (suc k)) ↔ (walk_in sheet ≡ stuck k 7)
paper-seven sheet room k whole =
    paper-cases sheet (λ p. (told_paper p room ≡ refusal 7 (suc k)) ↔ (walk_in sheet ≡ stuck k 7))
    (λ bad. absurd (bad whole))
    (λ w j small so comes. (
      (λ told. (let place : suc j ≡ suc k = ap (λ (t : Told). t.carries) told in let same : j ≡ k = omega arith in
          so ∙ ap (λ (i : ℕ). stuck i 7) same)),
      (λ is. ap (refusal 7) (ap stuck_at (sym so ∙ is))),
    ))
    (λ w s so kept. (
      told-cases (text_of sheet) room (λ t. t ≡ refusal 7 (suc k) → walk_in sheet ≡ stuck k 7)
          (λ told. absurd (let which : ◌≡◌ {A = ℕ} 0 107 = ap (λ (t : Told). t.which) told in omega arith))
          (λ told. absurd (let which : ◌≡◌ {A = ℕ} 110 107 = ap (λ (t : Told). t.which) told in omega arith)),
      (λ is. absurd (let place : 0 ≡ suc k = ap stuck_at (sym so ∙ is) in omega arith)),
    ))

-- ---- sheets with one listing

abbrev entries_in : List ℕ → List Task → List Entry
entries_in sheet ts = placed_entries (costs_in sheet) ts (placed_of sheet)

pub text-one : (sheet sheet' : List ℕ) → (read_of sheet).number ≡ 0 → (read_of sheet').number ≡ 0 → (s s' : Stand)
    → walk_in sheet ≡ fine s (placed_of sheet) → walk_in sheet' ≡ fine s' (placed_of sheet') → text_of sheet ≡ text_of sheet'
    → placed_entries (costs_in sheet) (tasks_in sheet) (placed_of sheet) ≡ placed_entries (costs_in sheet') (tasks_in sheet') (placed_of sheet')
unfolding text_of
text-one sheet sheet' whole whole' s s' so so' same =
    let ts = tasks_in sheet in
    let ts' = tasks_in sheet' in
    let all = take-length ts in
    let all' = take-length ts' in
    let cut = ap (λ (us : List Task). placed_listing (costs_in sheet) us (placed_of sheet)) all
    ∙ (same ∙ ap (λ (us : List Task). placed_listing (costs_in sheet') us (placed_of sheet')) (sym all')) in
    sym (ap (entries_in sheet) all)
    ∙ (listing-determines (machine_in sheet) (costs_in sheet) (length ts) ts (said-sane sheet whole) s (placed_of sheet) (walk-cut sheet s so)
    (machine_in sheet') (costs_in sheet') (length ts') ts' (said-sane sheet' whole') s' (placed_of sheet') (walk-cut sheet' s' so') cut
    ∙ ap (entries_in sheet') all')

-- ---- the buffer

pub buffer-refused : (sheet old : List ℕ) → ((told_paper (paper_of sheet) (length old)).which ≡ 0 → ⊥) → listing_left sheet old ≡ old
unfolding listing_left
buffer-refused sheet old no' = by (paper_of sheet) no'
  where
    by : (p : Paper) → ((told_paper p (length old)).which ≡ 0 → ⊥) → left p old ≡ old
    by (refused n k) no'' = refl
    by (written text) no'' = elim (dec_lt (length old) (length text)) [
      | yes short ↦ over-short text old short
      | no fits ↦ absurd (no'' (ap (λ (t : Told). t.which) (told-long text (length old) (omega arith))))
    ]

pub buffer-written : (sheet old : List ℕ) → (told_paper (paper_of sheet) (length old)).which ≡ 0
    → listing_left sheet old ≡ text_of sheet ++ drop (length (text_of sheet)) old
unfolding listing_left
buffer-written sheet old =
    paper-cases sheet (λ p. (told_paper p (length old)).which ≡ 0 → left p old ≡ text_of sheet ++ drop (length (text_of sheet)) old)
    (λ bad so. absurd (omega arith))
    (λ whole k small at comes so. absurd (omega arith))
    (λ whole s at kept so. elim (dec_lt (length old) (length (text_of sheet))) [
      | yes short ↦ absurd (let z : ◌≡◌ {A = ℕ} 110 0 = sym (ap (λ (t : Told). t.which) (told-short (text_of sheet) (length old) short)) ∙ so in omega arith)
      | no fits ↦ over-fits (text_of sheet) old (omega arith)
    ])
