-- Why, on lent bytes, step by step as the code goes.
-- Assumes nothing.
--
--   Numbered p             a refusal has a number
--   run-numbered, core-numbered     so have those of records and of a core
--   note-told              what is said of a paper is told by its number
--   refused-told, refused-left      a refusal, and the buffer
--   odd-records, odd-costs, formed-records      lent bytes by their lengths
--   holds-why, holds-demand         what the first records of others come to is what they come to alone
--   unread-core, read-core          a sheet that is refused, and one that is read
--   demand-odd, demand-formed       the demand of lent bytes
use Rattle.std.specs.Prelude.{Err, Ok, Result, ⊤}
use mathlib.Core.Path.{◌≡◌, refl, sym, ap, ◌∙◌}
use mathlib.Core.Bool.{Bool, true, false, cond, ◌&&◌}
use mathlib.Core.List.{List, [], ◌∷◌, ◌++◌}
use Prim.Native.Nat.{ℕ, zero, suc, ◌+◌, ◌*◌, ◌%◌, ◌^◌, ◌≤◌, ◌<◌}
use native.Mathlib.Decide.{dec_le}
use native.Mathlib.Omega.{arith}
use borrow.Author.Tests.{eq-eqb, ne_eqb}
use lib.Dec.{eqb, leb}
use lib.ListN.{length, take}
use lib.Seq.{take-length}
use Rattle.demand.specs.declared.Piece.{Piece}
use Rattle.demand.specs.declared.Costs.{Costs}
use Rattle.demand.specs.declared.Refusal.TheVariants.{TooMany, BadCosts, BadRecord}
use Rattle.demand.specs.Answer.{check_run, demand_figure}
use Rattle.demand.specs.Sizes.{run_most}
use Rattle.demand.proofs.RunLaws.{check-many}
use Rattle.plan.specs.declared.Plan.{Plan}
use Rattle.sheet.specs.Sheet.{Read}
use Rattle.sheet.specs.Sheet.{read_of}
use Rattle.listing.specs.Papers.{Note, Paper, refused, written, note_of, left}
use Rattle.listing.specs.Why.{Titled, pieces_in, unless_bad, why_text, why_paper, by_place, why_run, why_row, why_stuck, why_asked, why_of}
use Rattle.listing.proofs.SeatLaws.{paper-front, paper-many}
use Rattle.spardimple.specs.Bytes.{pieces_of, costs_spelt}
use Rattle.spardimple.specs.Numbers.{number, measured}
use Rattle.spardimple.specs.Sheets.{unless, refusal, told_paper}
use Rattle.spardimple.specs.Whys.{why_records, why_read, reached_sheet, why_reached, why_core, figure_number, demand_number}
use Rattle.demand.specs.declared.Refusal.{Refusal}

-- ---- a paper by its number

abbrev pub Numbered : Paper → Type 0
Numbered (refused n k) = n ≡ 0 → ⊥
Numbered (written text) = Unit {0}

unless-numbered : (k : Result ⊤ Refusal) (text : List ℕ) → Numbered (unless_bad k (written text))
unless-numbered (Ok tt) text = tt
unless-numbered (Err TooMany) text = λ e. omega arith
unless-numbered (Err BadCosts) text = λ e. omega arith
unless-numbered (Err (BadRecord k)) text = λ e. omega arith

paper-numbered : (f : List ℕ) (c : Costs) (n : ℕ) (ls : List Titled) → Numbered (why_paper f c n ls)
unfolding why_paper
paper-numbered f c n ls = unless-numbered (check_run c n (pieces_in ls)) (f ++ why_text c (take n ls))

pub run-numbered : (c : Costs) (n : ℕ) (ps : List Piece) → Numbered (why_run c n ps)
unfolding why_run
run-numbered c n ps = paper-numbered [] c n (by_place 1 ps)

pub core-numbered : (p : Plan) (k core : ℕ) → Numbered (why_of p k core)
unfolding why_of
core-numbered p k core = by (leb 1 core && leb core p.machine.cores) (asked k)
  where
    asked : (k : ℕ) → Numbered (why_asked p k core)
    asked zero = unfold why_row in paper-numbered _ _ _ _
    asked (suc k) = unfold why_stuck in paper-numbered _ _ _ _

    by : (b : Bool) → Numbered (why_asked p k core) → Numbered (cond b (why_asked p k core) (refused 1 0))
    by true ok = ok
    by false ok = λ e. omega arith

pub note-told : (p : Paper) → Numbered p → (room : ℕ) (x : Note) → x ≡ note_of p room
    → 2 ^ 32 * cond (eqb x.number 0) 0 (100 + x.number) + x.carries ≡ number (told_paper p room)
unfolding number
note-told (refused n k) some room x is = rw (is, ne_eqb n 0 some)
note-told (written text) some room x is = rw is (by (leb (length text) room))
  where
    by : (b : Bool) → 2 ^ 32 * cond (eqb (cond b 0 10) 0) 0 (100 + cond b 0 10) + length text
        ≡ 2 ^ 32 * (cond b (record { which = 0; carries = length text }) (refusal 10 (length text))).which
        + (cond b (record { which = 0; carries = length text }) (refusal 10 (length text))).carries
    by true = refl
    by false = refl

module _ (p : Paper) (n k : ℕ) (is : p ≡ refused n k) where
  pub refused-told : (room : ℕ) → 2 ^ 32 * (100 + n) + k ≡ number (told_paper p room)
  unfolding number
  refused-told room = rw is

  pub refused-left : (old : List ℕ) → old ≡ left p old
  refused-left old = rw is

-- ---- lent bytes

module _ (rs cs : List ℕ) where
  pub odd-records : (length rs % 28 ≡ 0 → ⊥) → why_records rs cs ≡ refused 8 0
  unfolding why_records measured
  odd-records odd = simp (ne_eqb (length rs % 28) 0 odd)

  pub odd-costs : length rs % 28 ≡ 0 → (length cs ≡ 36 → ⊥) → why_records rs cs ≡ refused 8 0
  unfolding why_records measured
  odd-costs whole odd = simp (eq-eqb (length rs % 28) 0 whole, ne_eqb (length cs) 36 odd)

  pub formed-records : length rs % 28 ≡ 0 → length cs ≡ 36 → why_records rs cs ≡ why_run (costs_spelt cs) (length (pieces_of rs)) (pieces_of rs)
  unfolding why_records measured
  formed-records whole nine = simp (eq-eqb (length rs % 28) 0 whole, eq-eqb (length cs) 36 nine)

  pub demand-odd-records : (t : ℕ) → (length rs % 28 ≡ 0 → ⊥) → 0 ≡ demand_number rs cs t
  unfolding demand_number measured
  demand-odd-records t odd = simp (ne_eqb (length rs % 28) 0 odd)

  pub demand-odd-costs : (t : ℕ) → length rs % 28 ≡ 0 → (length cs ≡ 36 → ⊥) → 0 ≡ demand_number rs cs t
  unfolding demand_number measured
  demand-odd-costs t whole odd = simp (eq-eqb (length rs % 28) 0 whole, ne_eqb (length cs) 36 odd)

  pub demand-formed : (t : ℕ) → length rs % 28 ≡ 0 → length cs ≡ 36
      → demand_number rs cs t ≡ figure_number (demand_figure (costs_spelt cs) (length (pieces_of rs)) (pieces_of rs) t)
  unfolding demand_number measured
  demand-formed t whole nine = simp (eq-eqb (length rs % 28) 0 whole, eq-eqb (length cs) 36 nine)

take_places : (k n : ℕ) (ps : List Piece) → take n (by_place k ps) ≡ by_place k (take n ps)
take_places k zero ps = refl
take_places k (suc n) [] = refl
take_places k (suc n) (p ∷ ps) = cc (take_places (k + 1) n ps)

module _ (ps : List Piece) (c : Costs) (qs : List Piece) (holds : length ps ≤ run_most → take (length ps) qs ≡ ps) where
  pub holds-why : why_run c (length ps) qs ≡ why_run c (length ps) ps
  unfolding why_run
  holds-why = elim (dec_le (length ps) run_most) [
    | yes few ↦ paper-front [] c (length ps) (by_place 1 qs) (by_place 1 ps)
        (take_places 1 (length ps) qs ∙ (ap (by_place 1) (holds few ∙ sym (take-length ps)) ∙ sym (take_places 1 (length ps) ps)))
    | no many ↦ paper-many [] c (length ps) (by_place 1 qs) (omega arith) ∙ sym (paper-many [] c (length ps) (by_place 1 ps) (omega arith))
  ]

  same-demand : (t : ℕ) → take (length ps) qs ≡ ps → demand_figure c (length ps) qs t ≡ demand_figure c (length ps) ps t
  unfolding demand_figure check_run
  same-demand t e = rw (e ∙ sym (take-length ps))

  many-demand : (t : ℕ) (xs : List Piece) → run_most < length ps → demand_figure c (length ps) xs t ≡ Err TooMany
  unfolding demand_figure
  many-demand t xs many = rw (check-many c (length ps) xs many)

  pub holds-demand : (t : ℕ) → demand_figure c (length ps) qs t ≡ demand_figure c (length ps) ps t
  holds-demand t = elim (dec_le (length ps) run_most) [
    | yes few ↦ same-demand t (holds few)
    | no many ↦ many-demand t qs (omega arith) ∙ sym (many-demand t ps (omega arith))
  ]

-- ---- a sheet and a core

module _ (sheet : List ℕ) (r : Read) (is : r ≡ read_of sheet) (core : ℕ) where
  pub unread-core : (r.number ≡ 0 → ⊥) → why_core sheet core ≡ refused r.number r.carries
  unfolding why_core
  unread-core some = ap (λ (x : Read). why_read x core) (sym is) ∙ by r.number some
    where
      by : (n : ℕ) → (n ≡ 0 → ⊥) → unless n r.carries (why_reached (reached_sheet r.sheet) core) ≡ refused n r.carries
      by zero never = absurd (never refl)
      by (suc n) never = refl

  pub read-core : r.number ≡ 0 → why_core sheet core ≡ why_reached (reached_sheet r.sheet) core
  unfolding why_core
  read-core whole = ap (λ (x : Read). why_read x core) (sym is) ∙ ap (λ (n : ℕ). unless n r.carries (why_reached (reached_sheet r.sheet) core)) whole
