-- Each refusal comes exactly when document 01's tables say, in their order: of the verdict, of a listing, of an edit.
-- Assumes nothing.
--
--   verdict-refused, verdict-judged        lent bytes
--   verdict-comes                          and what can come of them at all
--   listing-refused, listing-accepted      a sheet, and the buffer that it is to be listed in
--   listing-taken, listing-comes           a listing by its length; and what can come at all
--   buffer-kept, buffer-listed             what the buffer then holds
--   no_room                                7 comes exactly where the walk sticks
--   sheet-walks, sheet-sane                the walk over what a sheet says ends well, and it breaks no rule of a state
--   told-apart                             sheets with one listing place the same names alike
--   edit-refused-exactly, edit-accepted    an edit of any state
use Rattle.std.specs.Prelude.{Err, Ok, Result}
use mathlib.Core.Path.{◌≡◌, refl, sym, ap, subst, ◌∙◌}
use mathlib.Core.Bool.{Bool, true, false, cond}
use mathlib.Core.Logic.{◌⊎◌, inl, inr, ◌↔◌}
use mathlib.Core.List.{List, [], ◌∷◌, ◌++◌, append_assoc}
use Prim.Native.Nat.{ℕ, suc, ◌+◌, ◌*◌, ◌%◌, ◌^◌, ◌<◌}
use native.Mathlib.Omega.{arith}
use borrow.Author.Tests.{eqb-true, eqb-false}
use lib.Dec.{leb, eqb}
use lib.ListN.{length, take, drop}
use lib.Seq.{take-length}
use Rattle.demand.specs.declared.Piece.{Piece}
use Rattle.demand.specs.declared.Verdict.TheVariants.{Passes, Overloaded, Undecided}
use Rattle.demand.specs.declared.Refusal.TheVariants.{TooMany, BadCosts, BadRecord}
use Rattle.demand.specs.Verdict.{verdict_of}
use Rattle.demand.specs.Answer.{Told, told, answer_of}
use Rattle.demand.specs.Tables.{Rule, ◌if◌carrying◌, Not, Gives, Kept}
use Rattle.demand.specs.Refusals.{record_table}
use Rattle.demand.proofs.RefusalLaws.{record-refused, record-judged}
use Rattle.demand.proofs.TableLaws.{Comes, none, here, next, comes-kept, comes-gives, comes-front, comes-before, comes-behind, breaks-kept, breaks-leb}
use Rattle.plan.specs.declared.Plan.{Plan}
use Rattle.task.specs.Refusals.{state_table}
use Rattle.task.proofs.RefusalLaws.{state-kept}
use Rattle.walks.specs.Way.{fine, stuck}
use Rattle.walks.specs.Halves.{Stand}
use Rattle.sheet.specs.Sheet.{read_of}
use Rattle.sheet.specs.Refusals.{read_table}
use Rattle.sheet.proofs.RefusalLaws.{read-comes, read_kept}
use Rattle.listing.specs.Placed.{placed_lines}
use Rattle.listing.proofs.PlacedLaws.{lines-placed}
use Rattle.edits.specs.Edits.{TaskEdit, edit_of}
use Rattle.edits.specs.Refusals.{edit_table}
use Rattle.edits.proofs.RefusalLaws.{edit-refused-exactly as refused-exactly, edit-accepted as accepted-exactly}
use Rattle.spardimple.specs.Bytes.{pieces_of, costs_spelt}
use Rattle.spardimple.specs.Numbers.{number, Reply, malformed, said, told_reply, reply_of, verdict_number}
use Rattle.listing.specs.Papers.{written}
use Rattle.spardimple.specs.Sheets.{paper_of, machine_in, costs_in, tasks_in, placed_of, text_of, refusal, told_paper, listing_number, listing_left}
use Rattle.spardimple.specs.Refusals.{lent_table, sheet_table}
use Rattle.spardimple.proofs.NumberLaws.{told-one, reply-records, reply-costs, reply-formed, reply-carries}
use Rattle.spardimple.proofs.PaperLaws.{walk_in, walks_in, said-sane, paper-cases, told-cases, paper-carries}
use Rattle.spardimple.proofs.PaperLaws.{paper-seven, text-one, buffer-refused, buffer-written}
use Rattle.demand.specs.declared.Refusal.{Refusal}
use Rattle.demand.specs.declared.Verdict.{Verdict}

-- ---- what is told, by a table

-- t tells the refusals that the table gives, and no other
abbrev pub TellsRefusals : List Rule → Told → Type 0
TellsRefusals rules t = (n k : ℕ) → (t ≡ refusal n k) ↔ Gives rules n k

-- a refusal that comes
refusal-told : {rules : List Rule} {n k : ℕ} → Comes rules n k → (n ≡ 0 → ⊥) → TellsRefusals rules (refusal n k)
refusal-told {rules} {n} {k} comes some m d = (
  (λ is. (let which : 100 + n ≡ 100 + m = ap (λ (t : Told). t.which) is in
      (comes-gives comes m d).0 (omega arith, ap (λ (t : Told). t.carries) is, some))),
  (λ gives. (let so = (comes-gives comes m d).1 gives in (λ i. refusal (so.0 i) (so.1 i)))),
)

-- and 0 is told exactly where it is kept
abbrev pub Answers : List Rule → Told → Type 0
Answers rules t = TellsRefusals rules t × ((t.which ≡ 0) ↔ Kept rules)

pub refusal-answers : {rules : List Rule} {n k : ℕ} → Comes rules n k → (n ≡ 0 → ⊥) → Answers rules (refusal n k)
refusal-answers comes some = (refusal-told comes some, ((λ e. absurd (omega arith)), (λ kept. absurd (some ((comes-kept comes).1 kept)))))

pub accepted-answers : {rules : List Rule} {k : ℕ} → Comes rules 0 k → (c : ℕ) → Answers rules (record { which = 0; carries = c })
accepted-answers comes c = (
  (λ m d. (
    (λ is. absurd (let which : 0 ≡ 100 + m = ap (λ (t : Told). t.which) is in omega arith)),
    (λ gives. absurd (((comes-gives comes m d).1 gives).2 refl)),
  )),
  ((λ e. (comes-kept comes).0 refl), (λ kept. refl)),
)

-- and then by the number
pub number-refuses : (rules : List Rule) (t : Told) → t.carries < 2 ^ 32 → TellsRefusals rules t → (n k : ℕ) → k < 2 ^ 32
    → (number t ≡ 2 ^ 32 * (100 + n) + k) ↔ Gives rules n k
unfolding number
number-refuses rules t small by n k fits = ((λ e. (by n k).0 (told-one t (refusal n k) small fits e)), (λ gives. ap number ((by n k).1 gives)))

-- ---- lent bytes

-- what can be said of lent bytes at all
reply-forms : (r : Reply) → (told_reply r).carries < 2 ^ 32 → (n : ℕ) × (k : ℕ) × (k < 2 ^ 32)
    × ((number (told_reply r) ≡ 2 ^ 32 * 0 + 0) ⊎ (number (told_reply r) ≡ 2 ^ 32 * 1 + k)
    ⊎ (number (told_reply r) ≡ 2 ^ 32 * 2 + 0) ⊎ (number (told_reply r) ≡ 2 ^ 32 * (100 + n) + k))
unfolding number
reply-forms malformed fits = (8, 0, fits, inr (inr (inr refl)))
reply-forms (said (Ok Passes)) fits = (0, 0, fits, inl refl)
reply-forms (said (Ok (Overloaded t))) fits = (0, t, fits, inr (inl refl))
reply-forms (said (Ok Undecided)) fits = (0, 0, fits, inr (inr (inl refl)))
reply-forms (said (Err TooMany)) fits = (6, 0, fits, inr (inr (inr refl)))
reply-forms (said (Err BadCosts)) fits = (2, 0, fits, inr (inr (inr refl)))
reply-forms (said (Err (BadRecord k))) fits = (3, k, fits, inr (inr (inr refl)))

module _ (rs cs : List ℕ) where
  abbrev answered : Result Verdict Refusal
  answered = answer_of (costs_spelt cs) (length (pieces_of rs)) (pieces_of rs)

  pub odd-records : Not (length rs % 28 ≡ 0) → Comes (lent_table rs cs) 8 0
  unfolding lent_table
  odd-records odd = here odd refl refl

  pub odd-costs : length rs % 28 ≡ 0 → Not (length cs ≡ 36) → Comes (lent_table rs cs) 8 0
  unfolding lent_table
  odd-costs whole odd = comes-behind (8 if Not (length rs % 28 ≡ 0) carrying 0 ∷ []) ((λ never. never whole), tt) (here odd refl refl)

  -- a claim on every reply to lent bytes
  lent-cases : (P : Reply → Type 0) → (Comes (lent_table rs cs) 8 0 → P malformed)
      → (length rs % 28 ≡ 0 → length cs ≡ 36 → P (said answered)) → P (reply_of rs cs)
  lent-cases P bad formed = by (eqb (length rs % 28) 0) refl
    where
      nine : length rs % 28 ≡ 0 → (b : Bool) → eqb (length cs) 36 ≡ b → P (reply_of rs cs)
      nine whole true e = let so = eqb-true (length cs) 36 e in subst P (sym (reply-formed rs cs whole so)) (formed whole so)
      nine whole false e = let odd = eqb-false (length cs) 36 e in subst P (sym (reply-costs rs cs whole odd)) (bad (odd-costs whole odd))

      by : (b : Bool) → eqb (length rs % 28) 0 ≡ b → P (reply_of rs cs)
      by true e = nine (eqb-true (length rs % 28) 0 e) (eqb (length cs) 36) refl
      by false e = let odd = eqb-false (length rs % 28) 0 e in subst P (sym (reply-records rs cs odd)) (bad (odd-records odd))

  module _ (records : length rs % 28 ≡ 0) (costs : length cs ≡ 36) where
    abbrev spelt : List Rule
    spelt = record_table (costs_spelt cs) (length (pieces_of rs)) (pieces_of rs)

    -- bytes of the right length are refused as the records that they spell
    lent_gives : (n k : ℕ) → Gives spelt n k ↔ Gives (lent_table rs cs) n k
    unfolding lent_table
    lent_gives n k = ((λ gives. inr ((λ odd. odd records), inr ((λ odd. odd costs), gives))), back)
      where
        back : Gives (lent_table rs cs) n k → Gives spelt n k
        back (inl bad) = absurd (bad.0 records)
        back (inr (good, inl bad)) = absurd (bad.0 costs)
        back (inr (good, inr (whole, more))) = more

    lent-kept : Kept spelt ↔ Kept (lent_table rs cs)
    unfolding lent_table
    lent-kept = ((λ kept. ((λ odd. odd records), ((λ odd. odd costs), kept))), (λ kept. kept.1.1))

  reply-refuses : TellsRefusals (lent_table rs cs) (told_reply (reply_of rs cs))
  reply-refuses = lent-cases (λ r. TellsRefusals (lent_table rs cs) (told_reply r)) (λ comes. refusal-told comes (λ e. omega arith)) by
    where
      by : length rs % 28 ≡ 0 → length cs ≡ 36 → TellsRefusals (lent_table rs cs) (told answered)
      by records costs n k =
          let refused = record-refused (costs_spelt cs) (length (pieces_of rs)) (pieces_of rs) n k in
          ((λ is. (lent_gives records costs n k).0 (refused.0 is)), (λ gives. refused.1 ((lent_gives records costs n k).1 gives)))

  pub verdict-refused : (n k : ℕ) → k < 2 ^ 32 → (verdict_number rs cs ≡ 2 ^ 32 * (100 + n) + k) ↔ Gives (lent_table rs cs) n k
  unfolding verdict_number
  verdict-refused = number-refuses (lent_table rs cs) (told_reply (reply_of rs cs)) (reply-carries rs cs) reply-refuses

  pub verdict-comes : (n : ℕ) × (k : ℕ) × (k < 2 ^ 32) × ((verdict_number rs cs ≡ 2 ^ 32 * 0 + 0) ⊎ (verdict_number rs cs ≡ 2 ^ 32 * 1 + k)
      ⊎ (verdict_number rs cs ≡ 2 ^ 32 * 2 + 0) ⊎ (verdict_number rs cs ≡ 2 ^ 32 * (100 + n) + k))
  unfolding verdict_number
  verdict-comes = reply-forms (reply_of rs cs) (reply-carries rs cs)

  abbrev judged : Reply
  judged = said (Ok (verdict_of (costs_spelt cs) (pieces_of rs)))

  pub verdict-judged : (reply_of rs cs ≡ judged) ↔ Kept (lent_table rs cs)
  verdict-judged = lent-cases (λ r. (r ≡ judged) ↔ Kept (lent_table rs cs)) unformed by
    where
      unformed : Comes (lent_table rs cs) 8 0 → (malformed ≡ judged) ↔ Kept (lent_table rs cs)
      unformed comes = (
        (λ e. absurd (let z : ◌≡◌ {A = ℕ} 0 1 = cc in omega arith)),
        (λ kept. absurd (let z = (comes-kept comes).1 kept in omega arith)),
      )

      by : length rs % 28 ≡ 0 → length cs ≡ 36 → (said answered ≡ judged) ↔ Kept (lent_table rs cs)
      by records costs =
          let all : take (length (pieces_of rs)) (pieces_of rs) ≡ pieces_of rs = take-length (pieces_of rs) in
          let kept : (answered ≡ Ok (verdict_of (costs_spelt cs) (pieces_of rs))) ↔ Kept (spelt records costs) =
          subst (λ (ps : List Piece). (answered ≡ Ok (verdict_of (costs_spelt cs) ps)) ↔ Kept (spelt records costs)) all
          (record-judged (costs_spelt cs) (length (pieces_of rs)) (pieces_of rs)) in (
            (λ e. (lent-kept records costs).0 (kept.0 (let h : said answered ≡ judged = e in cc))),
            (λ so. ap said (kept.1 ((lent-kept records costs).1 so))),
          )

-- ---- a sheet and its buffer

module _ (sheet : List ℕ) (room : ℕ) where
  abbrev text : List ℕ
  text = text_of sheet

  abbrev ten_table : List Rule
  ten_table = 10 if (room < length text) carrying length text ∷ []

  -- the three tables behind one another
  whole-table : read_table sheet ++ walks_in sheet ++ ten_table ≡ sheet_table sheet room
  unfolding sheet_table read_table
  whole-table = refl

  as-whole : {n k : ℕ} → Comes (read_table sheet ++ walks_in sheet ++ ten_table) n k → Comes (sheet_table sheet room) n k
  as-whole {n} {k} = subst (λ (rules : List Rule). Comes rules n k) whole-table

  -- a sheet that is refused by itself
  unread-comes : ((read_of sheet).number ≡ 0 → ⊥) → Comes (sheet_table sheet room) (read_of sheet).number (read_of sheet).carries
  unread-comes some = as-whole (comes-before some (comes-before some (read-comes sheet) (walks_in sheet)) ten_table)

  -- and one that is read: the walk over what it says
  module _ (whole : (read_of sheet).number ≡ 0) where
    stuck-comes : (k : ℕ) → Comes (walks_in sheet) 7 (suc k) → Comes (sheet_table sheet room) 7 (suc k)
    stuck-comes k comes = as-whole (comes-front (comes-behind (read_table sheet) ((read_kept sheet).0 whole) comes) ten_table)

    module _ (kept : Kept (walks_in sheet)) where
      fine-comes : {n k : ℕ} → Comes ten_table n k → Comes (sheet_table sheet room) n k
      fine-comes {n} {k} comes =
          as-whole (subst (λ (rules : List Rule). Comes rules n k) (sym (append_assoc (read_table sheet) (walks_in sheet) ten_table))
          (comes-behind (read_table sheet) ((read_kept sheet).0 whole) (comes-behind (walks_in sheet) kept comes)))

      listed-answers : Answers (sheet_table sheet room) (told_paper (written text) room)
      listed-answers = by (leb (length text) room) refl
        where
          by : (b : Bool) → leb (length text) room ≡ b
              → Answers (sheet_table sheet room) (cond b (record { which = 0; carries = length text }) (refusal 10 (length text)))
          by true fits = accepted-answers {k = 0} (fine-comes (next (breaks-kept (breaks-leb (length text) room) fits) none)) (length text)
          by false short = refusal-answers (fine-comes (here ((breaks-leb (length text) room).breaks short) refl refl)) (λ e. omega arith)

  paper-answers : Answers (sheet_table sheet room) (told_paper (paper_of sheet) room)
  paper-answers =
      paper-cases sheet (λ p. Answers (sheet_table sheet room) (told_paper p room))
      (λ some. refusal-answers (unread-comes some) some)
      (λ whole k small so comes. refusal-answers (stuck-comes whole k comes) (λ e. omega arith))
      (λ whole s so kept. listed-answers whole kept)

  pub listing-refused : (n k : ℕ) → k < 2 ^ 32 → (listing_number sheet room ≡ 2 ^ 32 * (100 + n) + k) ↔ Gives (sheet_table sheet room) n k
  unfolding listing_number
  listing-refused = number-refuses (sheet_table sheet room) (told_paper (paper_of sheet) room) (paper-carries sheet room) paper-answers.0

  pub listing-accepted : ((told_paper (paper_of sheet) room).which ≡ 0) ↔ Kept (sheet_table sheet room)
  listing-accepted = paper-answers.1

  -- what is accepted is the listing's length
  told-length : (told_paper (paper_of sheet) room).which ≡ 0 → told_paper (paper_of sheet) room ≡ record { which = 0; carries = length text }
  told-length =
      paper-cases sheet (λ p. (told_paper p room).which ≡ 0 → told_paper p room ≡ record { which = 0; carries = length text })
      (λ bad so. absurd (omega arith))
      (λ whole k small at comes so. absurd (omega arith))
      (λ whole s at kept. told-cases text room (λ t. t.which ≡ 0 → t ≡ record { which = 0; carries = length text }) (λ so. refl) (λ so. absurd (omega arith)))

  pub listing-taken : (k : ℕ) → k < 2 ^ 32 → (listing_number sheet room ≡ 2 ^ 32 * 0 + k) ↔ (Kept (sheet_table sheet room) × (length text ≡ k))
  unfolding listing_number number
  listing-taken k fits = (
    (λ is. (let so = told-one (told_paper (paper_of sheet) room) (record { which = 0; carries = k }) (paper-carries sheet room) fits is in
        let none : (told_paper (paper_of sheet) room).which ≡ 0 = ap (λ (t : Told). t.which) so in
        (listing-accepted.0 none, ap (λ (t : Told). t.carries) (sym (told-length none) ∙ so)))),
    (λ h. ap number (told-length (listing-accepted.1 h.0)) ∙ ap (λ (n : ℕ). 2 ^ 32 * 0 + n) h.1),
  )

  -- a listing's length, or a refusal
  abbrev Forms : Told → Type 0
  Forms t = (n : ℕ) × (k : ℕ) × (k < 2 ^ 32) × ((number t ≡ 2 ^ 32 * 0 + k) ⊎ (number t ≡ 2 ^ 32 * (100 + n) + k))

  forms : Forms (told_paper (paper_of sheet) room)
  unfolding number
  forms =
      paper-cases sheet (λ p. (told_paper p room).carries < 2 ^ 32 → Forms (told_paper p room))
      (λ bad fits. ((read_of sheet).number, (read_of sheet).carries, fits, inr refl))
      (λ whole k small at comes fits. (7, suc k, fits, inr refl))
      (λ whole s at kept. told-cases text room (λ t. t.carries < 2 ^ 32 → Forms t) (λ fits. (0, length text, fits, inl refl))
      (λ fits. (10, length text, fits, inr refl)))
      (paper-carries sheet room)

  pub listing-comes : (n : ℕ) × (k : ℕ) × (k < 2 ^ 32) × ((listing_number sheet room ≡ 2 ^ 32 * 0 + k) ⊎ (listing_number sheet room ≡ 2 ^ 32 * (100 + n) + k))
  unfolding listing_number
  listing-comes = forms

  pub no_room : (k : ℕ) → suc k < 2 ^ 32 → Kept (read_table sheet) → (listing_number sheet room ≡ 2 ^ 32 * 107 + suc k) ↔ (walk_in sheet ≡ stuck k 7)
  unfolding listing_number number
  no_room k fits read =
      let seven = paper-seven sheet room k ((read_kept sheet).1 read) in
      ((λ is. seven.0 (told-one (told_paper (paper_of sheet) room) (refusal 7 (suc k)) (paper-carries sheet room) fits is)), (λ so. ap number (seven.1 so)))

  -- a sheet that keeps the table is read, and the walk over its tasks ends well
  sheet-ends : Kept (sheet_table sheet room) → ((read_of sheet).number ≡ 0) × (s : Stand) × (walk_in sheet ≡ fine s (placed_of sheet))
  sheet-ends kept =
      paper-cases sheet (λ p. (told_paper p room).which ≡ 0 → ((read_of sheet).number ≡ 0) × (s : Stand) × (walk_in sheet ≡ fine s (placed_of sheet)))
      (λ bad so. absurd (omega arith))
      (λ whole k small at comes so. absurd (omega arith))
      (λ whole s at walks so. (whole, s, at))
      (listing-accepted.1 kept)

  pub sheet-read : Kept (sheet_table sheet room) → Kept (read_table sheet)
  sheet-read kept = (read_kept sheet).0 (sheet-ends kept).0

  pub sheet-walks : Kept (sheet_table sheet room) → (s : Stand) × (walk_in sheet ≡ fine s (placed_of sheet))
  sheet-walks kept = let ends = sheet-ends kept in (ends.1, ends.2)

-- what the buffer then holds
pub buffer-kept : (sheet old : List ℕ) → Not (Kept (sheet_table sheet (length old))) → listing_left sheet old ≡ old
buffer-kept sheet old broken = buffer-refused sheet old (λ none. broken ((listing-accepted sheet (length old)).0 none))

pub buffer-listed : (sheet old : List ℕ) → Kept (sheet_table sheet (length old)) → listing_left sheet old ≡ text_of sheet ++ drop (length (text_of sheet)) old
buffer-listed sheet old kept = buffer-written sheet old ((listing-accepted sheet (length old)).1 kept)

pub sheet-sane : (sheet : List ℕ) → Kept (read_table sheet) → Kept (state_table (machine_in sheet) (costs_in sheet) (length (tasks_in sheet)) (tasks_in sheet))
sheet-sane sheet kept =
    (state-kept (machine_in sheet) (costs_in sheet) (length (tasks_in sheet)) (tasks_in sheet)).0 (said-sane sheet ((read_kept sheet).1 kept))

pub told-apart : (sheet sheet' : List ℕ) (room room' : ℕ) → Kept (sheet_table sheet room) → Kept (sheet_table sheet' room') → text_of sheet ≡ text_of sheet'
    → placed_lines (costs_in sheet) (tasks_in sheet) (placed_of sheet) ≡ placed_lines (costs_in sheet') (tasks_in sheet') (placed_of sheet')
told-apart sheet sheet' room room' kept kept' same =
    let one = sheet-ends sheet room kept in
    let other = sheet-ends sheet' room' kept' in
    lines-placed (costs_in sheet) (costs_in sheet') (tasks_in sheet) (tasks_in sheet') (placed_of sheet) (placed_of sheet')
    (text-one sheet sheet' one.0 other.0 one.1 other.1 one.2 other.2 same)

-- ---- an edit

module _ (e : TaskEdit) (s : Plan) where
  pub edit-refused-exactly : (n k : ℕ) → (((edit_of e s).number ≡ suc n) × ((edit_of e s).carries ≡ k)) ↔ Gives (edit_table e s) (suc n) k
  edit-refused-exactly = refused-exactly e s

  pub edit-accepted : ((edit_of e s).number ≡ 0) ↔ Kept (edit_table e s)
  edit-accepted = accepted-exactly e s
