-- Each answer of `why_records` and `why_core` comes exactly when its table says, and what they write is what is meant.
-- Assumes nothing.
--
--   Settled B p text      the rules B, but for 10, and the paper p say the same: a refusal, or the text
--   settled-answered, settled-left      so it is answered by the rules and then by 10, and so is what the buffer holds
--   records-settled, core-settled       lent records; a sheet and a core
--   why-records-answered, -left, why-core-answered, -left       so their answers come by their tables
--   demand-told, demand-untold          g(t) of lent records, where they are judged, and 0 elsewhere
use Rattle.std.specs.Prelude.{Err, None, Ok, Result, Some, ⊤}
use mathlib.Core.Path.{◌≡◌, refl, sym, ap, subst, ◌∙◌}
use mathlib.Core.Bool.{Bool, true, false, cond}
use mathlib.Core.Logic.{◌⊎◌, inl, inr}
use mathlib.Core.List.{List, [], ◌∷◌, ◌++◌, map}
use Prim.Native.Nat.{ℕ, zero, suc, ◌+◌, ◌*◌, ◌-◌, ◌%◌, ◌^◌, ◌≤◌, ◌<◌}
use native.Mathlib.Decide.{dec_lt, dec_le}
use native.Mathlib.Omega.{arith}
use borrow.Author.Tests.{eqb-true, eqb-false, le-leb, lt-leb}
use lib.Dec.{leb, eqb}
use lib.ListN.{length, take, length-map, length-append}
use lib.Seq.{take-length}
use Rattle.demand.specs.declared.Piece.{Piece}
use Rattle.demand.specs.declared.Costs.{Costs}
use Rattle.demand.specs.declared.Refusal.TheVariants.{TooMany, BadCosts, BadRecord}
use Rattle.demand.specs.Answer.{check_run, demand_figure, figured, Told, told}
use Rattle.demand.specs.Charge.{core_of, stall}
use Rattle.demand.specs.Demand.{demand}
use Rattle.demand.specs.Sizes.{Each, run_most, length_most}
use Rattle.demand.specs.Tables.{Rule, ◌if◌carrying◌, Not, Kept}
use Rattle.demand.specs.Refusals.{record_table}
use Rattle.demand.proofs.AnswerLaws.{answer-carries}
use Rattle.demand.proofs.RefusalLaws.{bad_number, bad_carries, check-comes}
use Rattle.demand.proofs.RunLaws.{answer-bad, check-taken}
use Rattle.demand.proofs.Sums.{each_at, each_snoc}
use Rattle.demand.proofs.TableLaws.{Comes, none, here, next, comes-kept, comes-before, comes-behind, breaks-kept, breaks-leb}
use Rattle.task.specs.declared.Task.{Task}
use Rattle.task.specs.declared.Machine.{Machine}
use Rattle.task.specs.Tasks.{list_of, past, task_at}
use Rattle.walks.specs.Way.{Placed, Ending, fine, stuck, on_core, row_of}
use Rattle.walks.proofs.ListLaws.{each-only}
use Rattle.walks.specs.Halves.{Stand}
use Rattle.plan.specs.Walk.{walked, walked_until}
use Rattle.plan.specs.Plan.{reached_of, plan_of, finished, refused as refused_plan}
use Rattle.plan.proofs.Theorems.{plan-or-stuck, plan-counts, placed-places, no-room-place, reached-counts, reached-places}
use Rattle.sheet.specs.declared.Sheet.{Sheet}
use Rattle.sheet.specs.Sheet.{read_of}
use Rattle.sheet.specs.Refusals.{read_table}
use Rattle.sheet.proofs.RefusalLaws.{read-comes, read_kept}
use Rattle.sheet.proofs.SmallLaws.{read_small}
use Rattle.listing.specs.Listing.{spelling}
use Rattle.listing.specs.Papers.{Paper, refused, written, left}
use Rattle.listing.specs.Why.{pieces_in, no_room_line, unless_bad, why_text, why_paper, by_place, why_run, titled_placed, whole_seat, why_of}
use Rattle.listing.proofs.TextLaws.{decimal-few, over-short, over-fits}
use Rattle.listing.proofs.WhyPlacedLaws.{why-fine, why-stuck, why-outside, why-few, front-few, titles-few}
use Rattle.spardimple.specs.Bytes.{pieces_of, costs_spelt}
use Rattle.spardimple.specs.Numbers.{number}
use Rattle.spardimple.specs.Refusals.{lent_table, room_table, why_records_table, why_core_table, Answered, Leaves}
use Rattle.spardimple.specs.Sheets.{machine_in, costs_in, tasks_in, refusal, told_paper}
use Rattle.spardimple.specs.Whys.{why_records_text, why_ending, why_core_text, why_records, why_core, why_records_number, why_records_left, why_core_number, why_core_left, figure_number, demand_number}
use Rattle.spardimple.proofs.NumberLaws.{told-one}
use Rattle.spardimple.proofs.SheetLaws.{told-long, told-short}
use Rattle.spardimple.proofs.PaperLaws.{said-sane, machine-said, costs-said, tasks-said, good, walk_read, said-walk, names-short, told-cases}
use Rattle.spardimple.proofs.RefusalLaws.{Answers, refusal-answers, accepted-answers, number-refuses, odd-records as odd-records-come, odd-costs as odd-costs-come}
use Rattle.spardimple.proofs.WhySteps.{odd-records, odd-costs, formed-records, unread-core, read-core, demand-odd-records, demand-odd-costs, demand-formed}
use Rattle.demand.specs.declared.Refusal.{Refusal}
use Rattle.demand.specs.declared.Verdict.{Verdict}

-- ---- a paper by its rules, and then by 10

pub data Settled (B : List Rule) (p : Paper) (text : List ℕ) : Type 1 where
  settled-bad : (n k : ℕ) → (n ≡ 0 → ⊥) → k < 2 ^ 32 → Comes B n k → p ≡ refused n k → Settled B p text
  settled-good : Kept B → length text < 2 ^ 32 → p ≡ written text → Settled B p text

module _ (B : List Rule) (text : List ℕ) where
  abbrev rules : ℕ → List Rule
  rules room = B ++ room_table text room

  -- what a function that writes the paper p does
  abbrev Does : Paper → Type 0
  Does p = Answered rules text (λ room. number (told_paper p room)) × Leaves rules text (λ old. left p old)

  -- what every paper owes, from its answer in each buffer
  owes : (p : Paper) → ((room : ℕ) → Answers (rules room) (told_paper p room)) → ((room : ℕ) → (told_paper p room).carries < 2 ^ 32)
      → ((room : ℕ) → (told_paper p room).which ≡ 0 → p ≡ written text)
      → ((room : ℕ) → (n : ℕ) × (((told_paper p room).which ≡ 0) ⊎ ((told_paper p room).which ≡ 100 + n)))
      → Does p
  unfolding number
  owes p answers small text-is which = (
    record {
      comes = λ room. by-which room (which room);
      refused = λ room. number-refuses (rules room) (told_paper p room) (small room) (answers room).0;
      taken = λ room k fits. (
        (λ is. (let so = told-one (told_paper p room) (record { which = 0; carries = k }) (small room) fits is in
            let zero_is : (told_paper p room).which ≡ 0 = ap (λ (t : Told). t.which) so in
            ((answers room).1.0 zero_is, sym (long room zero_is) ∙ ap (λ (t : Told). t.carries) so))),
        (λ h. (let zero_is = (answers room).1.1 h.0 in
            ap number (told-zero room zero_is) ∙ ap (λ (n : ℕ). 2 ^ 32 * 0 + n) h.1)),
      );
    },
    record {
      refused = λ old broken. kept_by p old (λ z. broken ((answers (length old)).1.0 z));
      written = λ old kept. (let zero_is = (answers (length old)).1.1 kept in
          ap (λ (q : Paper). left q old) (text-is (length old) zero_is) ∙ over-fits text old (fits_by (length old) zero_is));
    },
  )
    where
      by-which : (room : ℕ) → (n : ℕ) × (((told_paper p room).which ≡ 0) ⊎ ((told_paper p room).which ≡ 100 + n))
          → (n : ℕ) × (k : ℕ) × (k < 2 ^ 32) × ((number (told_paper p room) ≡ 2 ^ 32 * 0 + k) ⊎ (number (told_paper p room) ≡ 2 ^ 32 * (100 + n) + k))
      by-which room (n, inl e) = (0, (told_paper p room).carries, small room, inl (ap (λ (w : ℕ). 2 ^ 32 * w + (told_paper p room).carries) e))
      by-which room (n, inr e) = (n, (told_paper p room).carries, small room, inr (ap (λ (w : ℕ). 2 ^ 32 * w + (told_paper p room).carries) e))

      fits_by : (room : ℕ) → (told_paper p room).which ≡ 0 → length text ≤ room
      fits_by room z = elim (dec_lt room (length text)) [
        | yes short ↦ absurd (let e : ◌≡◌ {A = ℕ} 110 0 =
            sym (ap (λ (t : Told). t.which) (told-short text room short)) ∙ (ap (λ (q : Paper). (told_paper q room).which) (sym (text-is room z)) ∙ z) in omega arith)
        | no fits ↦ omega arith
      ]

      told-zero : (room : ℕ) → (told_paper p room).which ≡ 0 → told_paper p room ≡ record { which = 0; carries = length text }
      told-zero room z = ap (λ (q : Paper). told_paper q room) (text-is room z) ∙ told-long text room (fits_by room z)

      long : (room : ℕ) → (told_paper p room).which ≡ 0 → (told_paper p room).carries ≡ length text
      long room z = ap (λ (t : Told). t.carries) (told-zero room z)

      kept_by : (p : Paper) (old : List ℕ) → ((told_paper p (length old)).which ≡ 0 → ⊥) → left p old ≡ old
      kept_by (refused n k) old never = refl
      kept_by (written t) old never = elim (dec_lt (length old) (length t)) [
        | yes short ↦ over-short t old short
        | no fits ↦ absurd (never (ap (λ (x : Told). x.which) (told-long t (length old) (omega arith))))
      ]

  answered-bad : (n k : ℕ) → (n ≡ 0 → ⊥) → k < 2 ^ 32 → Comes B n k
      → Does (refused n k)
  answered-bad n k some small comes =
      owes (refused n k) (λ room. refusal-answers (comes-before some comes (room_table text room)) some) (λ room. small) (λ room z. absurd (omega arith))
      (λ room. (n, inr refl))

  answered-good : Kept B → length text < 2 ^ 32 → Does (written text)
  answered-good kept small =
      owes (written text) (λ room. by-room room (leb (length text) room) refl)
      (λ room. told-cases text room (λ t. t.carries < 2 ^ 32) small small) (λ room z. refl)
      (λ room. told-cases text room (λ t. (n : ℕ) × ((t.which ≡ 0) ⊎ (t.which ≡ 100 + n))) (0, inl refl) (10, inr refl))
    where
      by-room : (room : ℕ) (b : Bool) → leb (length text) room ≡ b
          → Answers (rules room) (cond b (record { which = 0; carries = length text }) (refusal 10 (length text)))
      by-room room true fits = accepted-answers {k = 0} (comes-behind B kept (next (breaks-kept (breaks-leb (length text) room) fits) none)) (length text)
      by-room room false short = refusal-answers (comes-behind B kept (here ((breaks-leb (length text) room).breaks short) refl refl)) (λ e. omega arith)

  settled-does : (p : Paper) → Settled B p text → Does p
  settled-does p (settled-bad n k some small comes is) = subst Does (sym is) (answered-bad n k some small comes)
  settled-does p (settled-good kept small is) = subst Does (sym is) (answered-good kept small)

  pub settled-answered : (p : Paper) → Settled B p text → Answered rules text (λ room. number (told_paper p room))
  settled-answered p settled = (settled-does p settled).0

  pub settled-left : (p : Paper) → Settled B p text → Leaves rules text (λ old. left p old)
  settled-left p settled = (settled-does p settled).1

-- ---- lent records

either : (a b : ℕ) → ((a ≡ b → ⊥) → ⊥) → a ≡ b
either a b never = elim (dec_lt a b) [
  | yes less ↦ absurd (never (λ e. omega arith))
  | no low ↦ elim (dec_lt b a) [ yes more ↦ absurd (never (λ e. omega arith)) | no high ↦ omega arith ]
]

pieces-places : (k : ℕ) (ps : List Piece) → pieces_in (by_place k ps) ≡ ps
pieces-places k [] = refl
pieces-places k (p ∷ ps) = cc (pieces-places (k + 1) ps)

places-long : (k : ℕ) (ps : List Piece) → length (by_place k ps) ≡ length ps
places-long k [] = refl
places-long k (p ∷ ps) = ap suc (places-long (k + 1) ps)

places-short : (k : ℕ) (ps : List Piece) → Each (λ l. length l.title ≤ 24) (by_place k ps)
places-short k [] = tt
places-short k (p ∷ ps) = (omega (arith, decimal-few k), places-short (k + 1) ps)

places-all : (ps : List Piece) → take (length ps) (by_place 1 ps) ≡ by_place 1 ps
places-all ps = ap (λ (n : ℕ). take n (by_place 1 ps)) (sym (places-long 1 ps)) ∙ take-length (by_place 1 ps)

module _ (rs cs : List ℕ) where
  abbrev c : Costs
  c = costs_spelt cs

  abbrev ps : List Piece
  ps = pieces_of rs

  run_is : why_run c (length ps) ps ≡ unless_bad (check_run c (length ps) ps) (written (why_records_text rs cs))
  unfolding why_run why_paper why_records_text
  run_is = rw (pieces-places 1 ps, places-all ps)

  module _ (whole : length rs % 28 ≡ 0) (nine : length cs ≡ 36) where
    lent-comes : {n k : ℕ} → Comes (record_table c (length ps) ps) n k → Comes (lent_table rs cs) n k
    unfolding lent_table
    lent-comes comes = comes-behind (8 if Not (length rs % 28 ≡ 0) carrying 0 ∷ 8 if Not (length cs ≡ 36) carrying 0 ∷ [])
        ((λ odd. odd whole), ((λ odd. odd nine), tt)) comes

    formed : why_records rs cs ≡ unless_bad (check_run c (length ps) ps) (written (why_records_text rs cs))
    formed = formed-records rs cs whole nine ∙ run_is

    formed-settled : Settled (lent_table rs cs) (why_records rs cs) (why_records_text rs cs)
    formed-settled = by (check_run c (length ps) ps) refl
      where
        comes : (k : Result ⊤ Refusal) → check_run c (length ps) ps ≡ k → Comes (lent_table rs cs) (bad_number k) (bad_carries k)
        comes k e = subst (λ (x : Result ⊤ Refusal). Comes (lent_table rs cs) (bad_number x) (bad_carries x)) e (lent-comes (check-comes c (length ps) ps))

        paper : (k : Result ⊤ Refusal) → check_run c (length ps) ps ≡ k → why_records rs cs ≡ unless_bad k (written (why_records_text rs cs))
        paper k e = formed ∙ ap (λ (x : Result ⊤ Refusal). unless_bad x (written (why_records_text rs cs))) e

        by : (k : Result ⊤ Refusal) → check_run c (length ps) ps ≡ k → Settled (lent_table rs cs) (why_records rs cs) (why_records_text rs cs)
        by (Ok tt) e = settled-good ((comes-kept (comes (Ok tt) e)).0 refl) (small (check-taken c (length ps) ps e).few) (paper (Ok tt) e)
          where
            small : length ps ≤ run_most → length (why_records_text rs cs) < 2 ^ 32
            small few = unfold why_records_text in omega (arith, why-few c (by_place 1 ps) (omega (arith, places-long 1 ps)) (places-short 1 ps))
        by (Err TooMany) e = settled-bad 6 0 (λ z. omega arith) (omega arith) (comes (Err TooMany) e) (paper (Err TooMany) e)
        by (Err BadCosts) e = settled-bad 2 0 (λ z. omega arith) (omega arith) (comes (Err BadCosts) e) (paper (Err BadCosts) e)
        by (Err (BadRecord j)) e =
            let low : (told (Err (BadRecord j))).carries ≤ length_most =
            subst (λ (x : Result Verdict Refusal). (told x).carries ≤ length_most) (answer-bad c (length ps) ps (BadRecord j) e) (answer-carries c (length ps) ps) in
            settled-bad 3 j (λ z. omega arith) (omega (arith, low)) (comes (Err (BadRecord j)) e) (paper (Err (BadRecord j)) e)

  -- what a table that is kept says of the bytes
  lent-lengths : Kept (lent_table rs cs) → (length rs % 28 ≡ 0) × (length cs ≡ 36)
  unfolding lent_table
  lent-lengths kept = (
    either (length rs % 28) 0 kept.0,
    either (length cs) 36 kept.1.0,
  )

  lent-kept : length rs % 28 ≡ 0 → length cs ≡ 36 → check_run c (length ps) ps ≡ Ok tt → Kept (lent_table rs cs)
  lent-kept whole nine checked =
      (comes-kept (subst (λ (x : Result ⊤ Refusal). Comes (lent_table rs cs) (bad_number x) (bad_carries x)) checked (lent-comes whole nine (check-comes c (length ps) ps)))).0 refl

  lent-fine : Kept (lent_table rs cs) → check_run c (length ps) ps ≡ Ok tt
  unfolding lent_table
  lent-fine kept = by (check_run c (length ps) ps) ((comes-kept (check-comes c (length ps) ps)).1 kept.1.1)
    where
      by : (k : Result ⊤ Refusal) → bad_number k ≡ 0 → k ≡ Ok tt
      by (Ok tt) e = refl
      by (Err TooMany) e = absurd (omega arith)
      by (Err BadCosts) e = absurd (omega arith)
      by (Err (BadRecord j)) e = absurd (omega arith)

  pub records-settled : Settled (lent_table rs cs) (why_records rs cs) (why_records_text rs cs)
  records-settled = by (eqb (length rs % 28) 0) refl
    where
      nine-by : length rs % 28 ≡ 0 → (b : Bool) → eqb (length cs) 36 ≡ b → Settled (lent_table rs cs) (why_records rs cs) (why_records_text rs cs)
      nine-by whole true e = formed-settled whole (eqb-true (length cs) 36 e)
      nine-by whole false e =
          let odd = eqb-false (length cs) 36 e in
          settled-bad 8 0 (λ z. omega arith) (omega arith) (odd-costs-come rs cs whole odd) (odd-costs rs cs whole odd)

      by : (b : Bool) → eqb (length rs % 28) 0 ≡ b → Settled (lent_table rs cs) (why_records rs cs) (why_records_text rs cs)
      by true e = nine-by (eqb-true (length rs % 28) 0 e) (eqb (length cs) 36) refl
      by false e =
          let odd = eqb-false (length rs % 28) 0 e in
          settled-bad 8 0 (λ z. omega arith) (omega arith) (odd-records-come rs cs odd) (odd-records rs cs odd)

  pub why-records-answered : Answered (why_records_table rs cs) (why_records_text rs cs) (why_records_number rs cs)
  unfolding why_records_table why_records_number
  why-records-answered = settled-answered (lent_table rs cs) (why_records_text rs cs) (why_records rs cs) records-settled

  pub why-records-left : Leaves (why_records_table rs cs) (why_records_text rs cs) (why_records_left rs cs)
  unfolding why_records_table why_records_left
  why-records-left = settled-left (lent_table rs cs) (why_records_text rs cs) (why_records rs cs) records-settled

-- ---- how long the listing of a core is

-- of any sheet that is read: at most 65 pieces are shown, by names of at most 24 bytes
module _ (sheet : List ℕ) (core : ℕ) (whole : (read_of sheet).number ≡ 0) where
  abbrev cs : Costs
  cs = costs_in sheet

  abbrev ts : List Task
  ts = tasks_in sheet

  all : take (length ts) ts ≡ ts
  all = take-length ts

  shown-few : (es : List (Placed ℕ)) → length es ≤ 79 → Each (λ e. e.item < length ts) es → length (why_text cs (map (titled_placed ts) es)) ≤ 8012
  shown-few es few low =
      why-few cs (map (titled_placed ts) es) (omega (arith, length-map es (titled_placed ts))) (titles-few ts es (names-short sheet whole) low)

  on-low : (q : ℕ) (l : List (Placed ℕ)) → Each (λ e. e.item < length (take (length ts) ts)) l → Each (λ e. e.item < length ts) (on_core q l)
  on-low q l low =
      each-only (λ e. e.item < length ts) (λ e. eqb e.on q) l (subst (λ (us : List Task). Each (λ e. e.item < length us) l) all low)

  on-few : (q : ℕ) (l : List (Placed ℕ)) → length (row_of q l) ≤ 64 → length (on_core q l) ≤ 64
  on-few q l few = omega (arith, length-map (on_core q l) (λ (e : Placed ℕ). e.piece))

  name-few : (us : List Task) (k : ℕ) → Each (λ t. length (spelling t.name) ≤ 24) us → k < length us → length (spelling (task_at us k).name) ≤ 24
  name-few us k short low = each_at (λ (t : Task). length (spelling t.name) ≤ 24) (length us) us (rw (take-length us) short) k past low low

  why-length : length (why_core_text sheet core) < 2 ^ 32
  unfolding why_core_text
  why-length = by (plan-or-stuck (machine_in sheet) cs (length ts) ts (said-sane sheet whole))
    where
      ended : (o : Ending Stand ℕ) → walked (machine_in sheet) cs (take (length ts) ts) ≡ o → walked (machine_in sheet) cs ts ≡ o
      ended o so = ap (walked (machine_in sheet) cs) (sym all) ∙ so

      by : ((s : Stand) × (l : List (Placed ℕ)) × (walked (machine_in sheet) cs (take (length ts) ts) ≡ fine s l)
          × (plan_of (machine_in sheet) cs (length ts) ts ≡ finished (machine_in sheet) cs (take (length ts) ts) (fine s l)))
          ⊎ ((k : ℕ) × (walked (machine_in sheet) cs (take (length ts) ts) ≡ stuck k 7) × (plan_of (machine_in sheet) cs (length ts) ts ≡ refused_plan 7 (suc k)))
          → length (why_ending (machine_in sheet) cs ts core (walked (machine_in sheet) cs ts)) < 2 ^ 32
      by (inl h) =
          let facts = plan-counts (machine_in sheet) cs (length ts) ts (said-sane sheet whole) h.0 h.1 h.2 in
          let low = placed-places (machine_in sheet) cs (length ts) ts (said-sane sheet whole) h.0 h.1 h.2 in
          rw (ended (fine h.0 h.1) h.2)
          (omega (arith, shown-few (on_core (core - 1) h.1) (omega (arith, on-few (core - 1) h.1 (facts.row_fits (core - 1)))) (on-low (core - 1) h.1 low)))
      by (inr h) =
          let k = h.0 in
          let q = (machine_in sheet).cores - 1 in
          let until = walked_until (machine_in sheet) cs ts in
          let facts = subst (λ (us : List Task). length (row_of q (walked_until (machine_in sheet) cs us)) ≤ 64) all
          ((reached-counts (machine_in sheet) cs (length ts) ts (said-sane sheet whole)).row_fits q) in
          let low = subst (λ (us : List Task). Each (λ e. e.item < length (take (length ts) ts)) (walked_until (machine_in sheet) cs us)) all
          (reached-places (machine_in sheet) cs (length ts) ts (said-sane sheet whole)) in
          let here : k < length ts = rw all at (no-room-place (machine_in sheet) cs (length ts) ts (said-sane sheet whole) k h.1) in
          let es = on_core q until ++ (whole_seat ts q k ∷ []) in
          let long : length es ≤ 79 = omega (arith, length-append (on_core q until) (whole_seat ts q k ∷ []), on-few q until facts) in
          let lows : Each (λ e. e.item < length ts) es = each_snoc (λ e. e.item < length ts) (on_core q until) (whole_seat ts q k) (on-low q until low) here in
          let line = no_room_line (k + 1) (spelling (task_at ts k).name) (machine_in sheet).cores in
          rw (ended (stuck k 7) h.1)
          (omega (
            arith,
            length-append line (why_text cs (map (titled_placed ts) es)),
            front-few (k + 1) (spelling (task_at ts k).name) (machine_in sheet).cores (name-few ts k (names-short sheet whole) here),
            shown-few es long lows,
          ))

-- ---- a sheet and a core

module _ (sheet : List ℕ) (core : ℕ) where
  abbrev core_rules : List Rule
  core_rules = 1 if Not ((1 ≤ core) × (core ≤ (machine_in sheet).cores)) carrying 0 ∷ []

  abbrev base : List Rule
  base = read_table sheet ++ core_rules

  unread-settled : ((read_of sheet).number ≡ 0 → ⊥) → Settled base (why_core sheet core) (why_core_text sheet core)
  unread-settled some =
      settled-bad (read_of sheet).number (read_of sheet).carries some (omega (arith, (read_small sheet).1)) (comes-before some (read-comes sheet) core_rules)
      (unread-core sheet (read_of sheet) refl core some)

  module _ (whole : (read_of sheet).number ≡ 0) where
    abbrev said : Sheet
    said = (read_of sheet).sheet

    kept : Kept (read_table sheet)
    kept = (read_kept sheet).0 whole

    paper-is : why_core sheet core ≡ why_of (reached_of said.machine said.costs said.tasks.count said.tasks.list).plan
        (reached_of said.machine said.costs said.tasks.count said.tasks.list).carries core
    paper-is = read-core sheet (read_of sheet) refl core whole

    cores-are : said.machine.cores ≡ (machine_in sheet).cores
    cores-are = ap (λ (m : Machine). m.cores) (machine-said sheet whole)

    outside-settled : Not ((1 ≤ core) × (core ≤ (machine_in sheet).cores)) → Settled base (why_core sheet core) (why_core_text sheet core)
    outside-settled out =
        settled-bad 1 0 (λ z. omega arith) (omega arith) (comes-behind (read_table sheet) kept (here out refl refl))
        (paper-is ∙ why-outside said.machine said.costs said.tasks.count said.tasks.list (good sheet whole) core
        (λ some within. out (some, omega (arith, cores-are))))

    module _ (some : 1 ≤ core) (within : core ≤ (machine_in sheet).cores) where
      here-within : core ≤ said.machine.cores
      here-within = omega (arith, cores-are)

      -- the listing, by how the walk over what was read ended
      ending-is : (o : Ending Stand ℕ) → walk_read sheet whole ≡ o
          → why_ending said.machine said.costs (list_of said.tasks) core o ≡ why_core_text sheet core
      unfolding why_core_text
      ending-is o so =
          (λ i. why_ending (machine-said sheet whole i) (costs-said sheet whole i) (tasks-said sheet whole i) core o)
          ∙ ap (why_ending (machine_in sheet) (costs_in sheet) (tasks_in sheet) core) (sym so ∙ said-walk sheet whole)

      written_is : why_core sheet core ≡ written (why_core_text sheet core)
      written_is = by (plan-or-stuck said.machine said.costs said.tasks.count said.tasks.list (good sheet whole))
        where
          by : ((s : Stand) × (l : List (Placed ℕ)) × (walk_read sheet whole ≡ fine s l)
              × (plan_of said.machine said.costs said.tasks.count said.tasks.list ≡ finished said.machine said.costs (list_of said.tasks) (fine s l)))
              ⊎ ((k : ℕ) × (walk_read sheet whole ≡ stuck k 7) × (plan_of said.machine said.costs said.tasks.count said.tasks.list ≡ refused_plan 7 (suc k)))
              → why_core sheet core ≡ written (why_core_text sheet core)
          by (inl h) =
              paper-is
              ∙ (why-fine said.machine said.costs said.tasks.count said.tasks.list (good sheet whole) h.0 h.1 h.2 core some here-within
              ∙ ap written (ending-is (fine h.0 h.1) h.2))
          by (inr h) =
              paper-is
              ∙ (why-stuck said.machine said.costs said.tasks.count said.tasks.list (good sheet whole) h.0 h.1 core some here-within
              ∙ ap written (ending-is (stuck h.0 7) h.1))

      text-few : length (why_core_text sheet core) < 2 ^ 32
      text-few = why-length sheet core whole

      inside-settled : Settled base (why_core sheet core) (why_core_text sheet core)
      inside-settled =
          let inside : Not (Not ((1 ≤ core) × (core ≤ (machine_in sheet).cores))) = λ out. out (some, within) in
          let one : Comes core_rules 0 0 = next inside none in
          settled-good ((comes-kept (comes-behind (read_table sheet) kept one)).0 refl) text-few written_is

  pub core-settled : Settled base (why_core sheet core) (why_core_text sheet core)
  core-settled = by (read_of sheet).number refl
    where
      by : (n : ℕ) → (read_of sheet).number ≡ n → Settled base (why_core sheet core) (why_core_text sheet core)
      by zero whole = elim (dec_le 1 core) [
        | yes some ↦ elim (dec_le core (machine_in sheet).cores) [
          | yes within ↦ inside-settled whole some within
          | no out ↦ outside-settled whole (λ both. out both.1)
        ]
        | no out ↦ outside-settled whole (λ both. out both.0)
      ]
      by (suc n) e = unread-settled (λ z. omega arith)

  pub why-core-answered : Answered (why_core_table sheet core) (why_core_text sheet core) (why_core_number sheet core)
  unfolding why_core_table why_core_number
  why-core-answered = settled-answered base (why_core_text sheet core) (why_core sheet core) core-settled

  pub why-core-left : Leaves (why_core_table sheet core) (why_core_text sheet core) (why_core_left sheet core)
  unfolding why_core_table why_core_left
  why-core-left = settled-left base (why_core_text sheet core) (why_core sheet core) core-settled

-- ---- the demand at a length

module _ (rs cs : List ℕ) (t : ℕ) where
  pub demand-told : Kept (lent_table rs cs) → t ≤ length_most
      → demand_number rs cs t ≡ demand (stall (costs_spelt cs)) (core_of (costs_spelt cs) (pieces_of rs)) t
  demand-told kept low =
      let lengths = lent-lengths rs cs kept in
      demand-formed rs cs t lengths.0 lengths.1 ∙ figure
    where
      figure : figure_number (demand_figure (costs_spelt cs) (length (pieces_of rs)) (pieces_of rs) t)
          ≡ demand (stall (costs_spelt cs)) (core_of (costs_spelt cs) (pieces_of rs)) t
      figure = unfold demand_figure in rw (lent-fine rs cs kept, le-leb t length_most low, take-length (pieces_of rs))

  -- the figure, by the check
  abbrev figure_by : Result ⊤ Refusal → ℕ
  figure_by k = figure_number (figured k
      (cond (leb t length_most) (Some (demand (stall (costs_spelt cs)) (core_of (costs_spelt cs) (take (length (pieces_of rs)) (pieces_of rs))) t)) None))

  figure-is : figure_by (check_run (costs_spelt cs) (length (pieces_of rs)) (pieces_of rs)) ≡ 0
      → figure_number (demand_figure (costs_spelt cs) (length (pieces_of rs)) (pieces_of rs) t) ≡ 0
  unfolding demand_figure
  figure-is e = e

  -- and 0 elsewhere
  pub demand-untold : Not (Kept (lent_table rs cs) × (t ≤ length_most)) → demand_number rs cs t ≡ 0
  demand-untold never = by (eqb (length rs % 28) 0) refl
    where
      many : length rs % 28 ≡ 0 → length cs ≡ 36 → (k : Result ⊤ Refusal) → check_run (costs_spelt cs) (length (pieces_of rs)) (pieces_of rs) ≡ k → figure_by k ≡ 0
      many whole nine (Ok tt) checked = elim (dec_le t length_most) [
        | yes low ↦ absurd (never (lent-kept rs cs whole nine checked, low))
        | no high ↦ rw (lt-leb t length_most (omega arith))
      ]
      many whole nine (Err r) bad = refl

      nine-by : length rs % 28 ≡ 0 → (b : Bool) → eqb (length cs) 36 ≡ b → demand_number rs cs t ≡ 0
      nine-by whole true e =
          let nine = eqb-true (length cs) 36 e in
          demand-formed rs cs t whole nine ∙ figure-is (many whole nine (check_run (costs_spelt cs) (length (pieces_of rs)) (pieces_of rs)) refl)
      nine-by whole false e = sym (demand-odd-costs rs cs t whole (eqb-false (length cs) 36 e))

      by : (b : Bool) → eqb (length rs % 28) 0 ≡ b → demand_number rs cs t ≡ 0
      by true e = nine-by (eqb-true (length rs % 28) 0 e) (eqb (length cs) 36) refl
      by false e = sym (demand-odd-records rs cs t (eqb-false (length rs % 28) 0 e))
