-- Laws of what is answered where a listing that says why is asked for.
-- Assumes nothing.
--
--   showing-shows, showing-unshown        what is shown, or refused, by the check
--   why-written, why-barred               so the paper is the listing, or the refusal
--   shown-taken, shown-all                where something is shown, the run is taken; and of the records of a slice
--   written-answers, counted-answers      what is said of its listing where it was written, or only counted, and what the buffer then holds
--   row-asked, stuck-asked                what is answered for the arrays is what was asked for
use Rattle.std.specs.Prelude.{Err, Ok, Result, ⊤}
use mathlib.Core.Path.{◌≡◌, refl, sym, ap, subst, ◌∙◌}
use mathlib.Core.Bool.{Bool, true}
use mathlib.Core.List.{List, [], ◌∷◌, ◌++◌, map}
use Prim.Native.Nat.{ℕ, suc, ◌+◌, ◌-◌, ◌≤◌, ◌<◌}
use native.Mathlib.Numerals.{add-one}
use native.Mathlib.Omega.{arith}
use borrow.Author.Tests.{le-leb, lt-leb}
use lib.ListN.{length, take}
use lib.Seq.{length-take-le}
use Rattle.demand.specs.declared.Piece.{Piece}
use Rattle.demand.specs.declared.Costs.{Costs}
use Rattle.demand.specs.declared.Shown.{Shown}
use Rattle.demand.specs.declared.Refusal.{Refusal}
use Rattle.demand.specs.declared.Refusal.TheVariants.{TooMany, BadCosts, BadRecord}
use Rattle.demand.specs.Answer.{Taken, check_run, showing, showing_of, told}
use Rattle.demand.specs.declared.Record.{Record}
use Rattle.demand.specs.Records.{piece_in}
use Rattle.demand.specs.Sizes.{length_most}
use Rattle.demand.proofs.RecordLaws.{pieces-all}
use Rattle.walks.specs.Way.{Placed}
use Rattle.demand.specs.Why.{shown_of}
use Rattle.demand.proofs.AnswerLaws.{answer-carries}
use Rattle.demand.proofs.RunLaws.{answer-bad, check-taken, taken-check}
use Rattle.task.specs.declared.Task.{Task}
use Rattle.task.specs.Tasks.{task_at}
use Rattle.plan.specs.declared.Plan.{Plan}
use Rattle.listing.specs.Text.{over}
use Rattle.listing.specs.Papers.{Note, note, Paper, written, note_of, left}
use Rattle.task.specs.Faults.{refused_as}
use Rattle.listing.specs.Listing.{spelling}
use Rattle.listing.specs.Why.{pieces_in, no_room_line, why_text, unless_bad, why_paper, row_seats, why_seats, why_row, whole_seat, why_stuck, why_asked, why_of}
use Rattle.listing.specs.Ways.SeatArrays.{seats_laid, titled_in}
use Rattle.listing.proofs.SeatLaws.{titled-pieces, titled-all, pieces-there, seats-front, seats-paper}
use Rattle.listing.proofs.WhyPlacedLaws.{asked-inside}
use Rattle.demand.specs.declared.Verdict.{Verdict}

-- ---- by the check

module _ (c : Costs) (n : ℕ) (ps : List Piece) where
  pub showing-shows : (s : Shown) → showing_of c n ps ≡ Ok s → (check_run c n ps ≡ Ok tt) × (s ≡ shown_of c (take n ps))
  unfolding showing_of
  showing-shows s = by (check_run c n ps) refl
    where
      by : (k : Result ⊤ Refusal) → check_run c n ps ≡ k → showing k (shown_of c (take n ps)) ≡ Ok s → (check_run c n ps ≡ Ok tt) × (s ≡ shown_of c (take n ps))
      by (Ok tt) fine e = (fine, sym (let same : Ok (shown_of c (take n ps)) ≡ Ok s = e in cc))
      by (Err r) bad e = absurd (let z : ◌≡◌ {A = ℕ} 0 1 = cc in omega arith)

  -- what is shown is of a run that is taken
  shown-taken : (s : Shown) → showing_of c n ps ≡ Ok s → Taken c n ps × (s ≡ shown_of c (take n ps))
  shown-taken s is = let so = showing-shows s is in (check-taken c n ps so.0, so.1)

  pub showing-unshown : (r : Refusal) → showing_of c n ps ≡ Err r → check_run c n ps ≡ Err r
  unfolding showing_of
  showing-unshown r = by (check_run c n ps) refl
    where
      by : (k : Result ⊤ Refusal) → check_run c n ps ≡ k → showing k (shown_of c (take n ps)) ≡ Err r → check_run c n ps ≡ Err r
      by (Ok tt) fine e = absurd (let z : ◌≡◌ {A = ℕ} 0 1 = cc in omega arith)
      by (Err q) bad e = bad ∙ ap Err (let same : Err q ≡ Err r = e in cc)

-- of all the records of a slice
pub shown-all : (c : Costs) (a : List Record) (s : Shown) → showing_of c (length a) (map piece_in a) ≡ Ok s
    → Taken c (length a) (map piece_in a) × (s ≡ shown_of c (map piece_in a))
shown-all c a s is =
    let so = shown-taken c (length a) (map piece_in a) s is in
    (so.0, so.1 ∙ ap (shown_of c) (pieces-all a))

-- ---- the paper

module _ (f : List ℕ) (c : Costs) (b : Bool) (ts : List Task) (ks : List ℕ) (a : List Record) where
  titled-there : pieces_in (titled_in b ts ks a (length a)) ≡ map piece_in a
  titled-there = titled-pieces b ts ks a (length a) ∙ pieces-there a

  pub why-written : Taken c (length a) (map piece_in a) → why_paper f c (length a) (titled_in b ts ks a (length a)) ≡ written (f ++ why_text c (titled_in b ts ks a (length a)))
  unfolding why_paper
  why-written taken = rw (titled-there, taken-check c (length a) (map piece_in a) taken, titled-all b ts ks a (length a))

  pub why-barred : (r : Refusal) → check_run c (length a) (map piece_in a) ≡ Err r → (room : ℕ) (old : List ℕ)
      → (note (Err (refused_as r)) ≡ note_of (why_paper f c (length a) (titled_in b ts ks a (length a))) room)
      × (old ≡ left (why_paper f c (length a) (titled_in b ts ks a (length a))) old)
      × ((note (Err (refused_as r))).number ≤ 10) × ((note (Err (refused_as r))).carries ≤ length_most)
  unfolding why_paper
  why-barred r bad room old =
      let small : (told (Err r)).carries ≤ length_most =
      subst (λ (x : Result Verdict Refusal). (told x).carries ≤ length_most) (answer-bad c (length a) (map piece_in a) r bad)
      (answer-carries c (length a) (map piece_in a)) in
      rw (titled-there, bad) (by r small)
    where
      by : (r : Refusal) → (told (Err r)).carries ≤ length_most
          → (note (Err (refused_as r)) ≡ note_of (unless_bad (Err r) (written (f ++ why_text c (take (length a) (titled_in b ts ks a (length a)))))) room)
          × (old ≡ left (unless_bad (Err r) (written (f ++ why_text c (take (length a) (titled_in b ts ks a (length a)))))) old)
          × ((note (Err (refused_as r))).number ≤ 10) × ((note (Err (refused_as r))).carries ≤ length_most)
      by TooMany small = (refl, refl, omega arith, omega arith)
      by BadCosts small = (refl, refl, omega arith, omega arith)
      by (BadRecord k) small = (refl, refl, omega arith, small)

-- ---- what is said of a listing, and what the buffer then holds

module _ (f : List ℕ) (c : Costs) (b : Bool) (ts : List Task) (ks : List ℕ) (a : List Record) (taken : Taken c (length a) (map piece_in a))
    (old new : List ℕ) (r : ℕ) (all : r ≡ length (f ++ why_text c (titled_in b ts ks a (length a)))) (holds : new ≡ over (f ++ why_text c (titled_in b ts ks a (length a))) old) where
  -- where it was written
  pub written-answers : r ≤ length old → ◌≡◌ {A = Note} (record { number = 0; carries = r }) (note_of (why_paper f c (length a) (titled_in b ts ks a (length a))) (length old))
      × (new ≡ left (why_paper f c (length a) (titled_in b ts ks a (length a))) old)
  written-answers room =
      let text = f ++ why_text c (titled_in b ts ks a (length a)) in
      let fits : length text ≤ length old = omega arith in
      (rw (why-written f c b ts ks a taken, all, le-leb (length text) (length old) fits), holds ∙ rw (why-written f c b ts ks a taken))

  -- where it was only counted
  pub counted-answers : length old < r → ◌≡◌ {A = Note} (record { number = 10; carries = r }) (note_of (why_paper f c (length a) (titled_in b ts ks a (length a))) (length old))
      × (new ≡ left (why_paper f c (length a) (titled_in b ts ks a (length a))) old)
  counted-answers short =
      let text = f ++ why_text c (titled_in b ts ks a (length a)) in
      let room : length old < length text = omega arith in
      (rw (why-written f c b ts ks a taken, all, lt-leb (length text) (length old) room), holds ∙ rw (why-written f c b ts ks a taken))

-- ---- as the code comes to it, with the first n of what is laid

module _ (p : Plan) (stuck core : ℕ) (some : 1 ≤ core) (within : core ≤ p.machine.cores) (f : List ℕ) (n : ℕ) (ks : List ℕ) (a : List Record) where
  -- what is answered of them, called by the names of their tasks
  abbrev pub named_paper : Paper
  named_paper = why_paper f p.costs (length (take n a)) (titled_in true p.tasks.list ks (take n a) (length (take n a)))

  front : (q : ℕ) → n ≤ length a → seats_laid q ks (take n a) (length (take n a)) ≡ seats_laid q ks a n
  front q few = let long : length (take n a) ≡ n = length-take-le n a few in ap (λ (m : ℕ). seats_laid q ks (take n a) m) long ∙ seats-front q ks a n

  pub row-asked : stuck ≡ 0 → f ≡ [] → n ≤ length a → seats_laid (core - 1) ks a n ≡ row_seats p.layout (core - 1) → named_paper ≡ why_of p stuck core
  unfolding why_row
  row-asked none empty few laid =
      seats-paper f p.costs p.tasks.list (core - 1) ks (take n a) (row_seats p.layout (core - 1)) (front (core - 1) few ∙ laid)
      ∙ (ap (λ (g : List ℕ). why_seats g p.costs p.tasks.list (row_seats p.layout (core - 1))) empty
      ∙ sym (asked-inside p stuck core some within ∙ ap (λ (k : ℕ). why_asked p k core) none))

  pub stuck-asked : (k : ℕ) → stuck ≡ suc k → f ≡ no_room_line stuck (spelling (task_at p.tasks.list k).name) p.machine.cores → n ≤ length a
      → seats_laid (p.machine.cores - 1) ks a n ≡ row_seats p.layout (p.machine.cores - 1) ++ (whole_seat p.tasks.list (p.machine.cores - 1) k ∷ [])
      → named_paper ≡ why_of p stuck core
  unfolding why_stuck
  stuck-asked k is line few laid =
      let q : ℕ = p.machine.cores - 1 in
      let seats : List (Placed ℕ) = row_seats p.layout q ++ (whole_seat p.tasks.list q k ∷ []) in
      let there : f ≡ no_room_line (k + 1) (spelling (task_at p.tasks.list k).name) p.machine.cores =
      line ∙ ap (λ (j : ℕ). no_room_line j (spelling (task_at p.tasks.list k).name) p.machine.cores) (is ∙ sym (add-one k)) in
      seats-paper f p.costs p.tasks.list q ks (take n a) seats (front q few ∙ laid)
      ∙ (ap (λ (g : List ℕ). why_seats g p.costs p.tasks.list seats) there
      ∙ sym (asked-inside p stuck core some within ∙ ap (λ (j : ℕ). why_asked p j core) is))
