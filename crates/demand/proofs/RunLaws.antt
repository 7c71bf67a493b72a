-- Laws of a run: the first n records of an array.
-- Assumes nothing.
--
--   length-mapped   how long an array of structs is
--   check-many, check-costs, check-records      the refusals in their order
--   answer-fine, answer-bad, showing-fine, showing-bad, figure-fine, figure-bad      what is then answered
--   taken-check, taken-answer      a run within the sizes is not refused
--   check-taken     what is known of a run that is not refused
--   check-place     the first record outside the sizes is refused by its place
--   lent-kind, other-kind      so is a record of another kind, of the records that are lent and in numbers that spell some
--   behind-fine, behind-bad, behind-refused, check-task      the same of a run with a task's record behind it
--   split-fine, split-bad
use Rattle.std.specs.Prelude.{Err, Ok, Option, Result, ⊤}
use mathlib.Core.Path.{◌≡◌, refl, sym, ap, subst, ◌∙◌}
use mathlib.Core.Bool.{Bool, true, false, cond}
use mathlib.Core.List.{List, [], ◌∷◌, ◌++◌, map}
use Prim.Native.Nat.{ℕ, zero, suc, ◌+◌, ◌*◌, ◌≤◌, ◌<◌}
use native.Mathlib.Nat.{add_comm}
use native.Mathlib.Omega.{arith}
use borrow.Author.Tests.{le-leb, lt-leb, leb-true}
use lib.Dec.{leb}
use lib.ListN.{length, take, get_or, length-map}
use Rattle.std.proofs.lemmas.List.{get_or-map}
use lib.Seq.{get_or-take, length-take-le, take-append-add, take-take}
use Rattle.demand.specs.declared.Piece.{Piece}
use Rattle.demand.specs.declared.Costs.{Costs}
use Rattle.demand.specs.declared.Refusal.{Refusal}
use Rattle.demand.specs.declared.Refusal.TheVariants.{TooMany, BadCosts, BadRecord}
use Rattle.demand.specs.Kinds.{kind_most}
use Rattle.demand.specs.declared.Record.{Record}
use Rattle.demand.specs.Records.{outside, piece_in, pieces_in, records_of}
use Rattle.demand.specs.Sizes.{run_most, Sized, SizedCosts, Each, sized, sized_costs}
use Rattle.demand.specs.Ways.Ranges.{Countable, Ranged}
use Rattle.demand.specs.declared.Charged.{Charged}
use Rattle.demand.specs.Charge.{core_of}
use Rattle.demand.specs.Verdict.{verdict_of}
use Rattle.demand.specs.Why.{shown_of}
use Rattle.demand.specs.Answer.{Taken, first_bad, bad_record, check_run, answer_of, showing_of, figured, splitted}
use Rattle.demand.proofs.RecordLaws.{records-length, records-at, kind-outside, in_other, pieces-length}
use Rattle.demand.proofs.Sums.{each-front, each_last}
use Rattle.demand.proofs.ChargeLaws.{all-countable, core-ranged}
use Rattle.demand.proofs.SizeLaws.{first-bad-none, first-bad-there, first-bad-behind}
use Rattle.demand.proofs.SizeLaws.{first-bad-front, sized-exact, costs-exact}
use Rattle.demand.specs.declared.Cut.{Cut}

-- the length of an array of structs that is a field of a struct, for `search`
pub length-mapped : (X Y : Type 0) (f : X → Y) (l : List X) (n : ℕ) → length (map f l) ≡ n → length l ≡ n
length-mapped X Y f l n e = sym (length-map l f) ∙ e

-- ---- the refusals

module _ (c : Costs) (n : ℕ) (ps : List Piece) where
  pub check-many : run_most < n → check_run c n ps ≡ Err TooMany
  unfolding check_run
  check-many h = simp (lt-leb n run_most h)

  pub check-costs : n ≤ run_most → sized_costs c ≡ false → check_run c n ps ≡ Err BadCosts
  unfolding check_run
  check-costs h bad = simp (le-leb n run_most h, bad)

  pub check-records : n ≤ run_most → sized_costs c ≡ true → check_run c n ps ≡ bad_record (first_bad 1 (take n ps))
  unfolding check_run
  check-records h good = simp (le-leb n run_most h, good)

pub bad-record-some : (k : ℕ) → (k ≡ 0 → ⊥) → bad_record k ≡ Err (BadRecord k)
bad-record-some zero h = absurd (h refl)
bad-record-some (suc k) h = refl

pub taken-countable : (c : Costs) (n : ℕ) (ps : List Piece) → Taken c n ps → Each Countable (take n ps)
taken-countable c n ps ok = all-countable (take n ps) ok.each

bad-record-fine : (k : ℕ) → bad_record k ≡ Ok tt → k ≡ 0
bad-record-fine zero e = refl
bad-record-fine (suc k) e = let z : ◌≡◌ {A = ℕ} 0 1 = cc in absurd (omega arith)

pub check-taken : (c : Costs) (n : ℕ) (ps : List Piece) → check_run c n ps ≡ Ok tt → Taken c n ps
unfolding check_run
check-taken c n ps e = few (leb n run_most) refl e
  where
    all : (b : Bool) → sized_costs c ≡ b → n ≤ run_most → cond b (bad_record (first_bad 1 (take n ps))) (Err BadCosts) ≡ Ok tt → Taken c n ps
    all true good h f = record { few = h; costs = (costs-exact c).0 good; each = first-bad-none 0 (take n ps) (bad-record-fine (first_bad 1 (take n ps)) f) }
    all false bad h f = let z : ◌≡◌ {A = ℕ} 0 1 = cc in absurd (omega arith)

    few : (b : Bool) → leb n run_most ≡ b → cond b (cond (sized_costs c) (bad_record (first_bad 1 (take n ps))) (Err BadCosts)) (Err TooMany) ≡ Ok tt → Taken c n ps
    few true h f = all (sized_costs c) refl (leb-true n run_most h) f
    few false h f = let z : ◌≡◌ {A = ℕ} 0 1 = cc in absurd (omega arith)

-- ---- one bad record

outside-sizes : sized outside ≡ false
unfolding sized
outside-sizes = refl

-- those before it are taken
module _ (c : Costs) (n i : ℕ) (few : n ≤ run_most) (here : i < n) where
  pub check-place : (ps : List Piece) (d : Piece) → n ≤ length ps → check_run c i ps ≡ Ok tt → sized (get_or ps i d) ≡ false
      → check_run c n ps ≡ Err (BadRecord (i + 1))
  check-place ps d room fine bad =
      let ok = check-taken c i ps fine in
      let good : sized_costs c ≡ true = (costs-exact c).1 ok.costs in
      let before : Each Sized (take i (take n ps)) = rw (take-take i n ps (omega arith)) ok.each in
      let there : first_bad 1 (take n ps) ≡ i + 1 =
      first-bad-there 1 i (take n ps) d (omega (arith, length-take-le n ps room)) before (rw (get_or-take n ps i d here) bad) ∙ add_comm 1 i in
      check-records c n ps few good ∙ (ap bad_record there ∙ bad-record-some (i + 1) (λ none. omega arith))

  -- of the records that are lent
  pub lent-kind : (rs : List Record) (d : Record) → n ≤ length rs → check_run c i (pieces_in rs) ≡ Ok tt → kind_most < (get_or rs i d).kind
      → check_run c n (pieces_in rs) ≡ Err (BadRecord (i + 1))
  lent-kind rs d room fine other =
      let there : get_or (pieces_in rs) i outside ≡ outside = get_or-map piece_in rs i d outside (omega arith) ∙ in_other (get_or rs i d) other in
      check-place (pieces_in rs) outside (omega (arith, pieces-length rs)) fine (rw there outside-sizes)

  -- and of the records that numbers spell
  pub other-kind : (a : List ℕ) → check_run c i (records_of a) ≡ Ok tt → kind_most < get_or a (7 * i) 0 → check_run c n (records_of a) ≡ Err (BadRecord (i + 1))
  other-kind a fine other =
      check-place (records_of a) outside (omega (arith, records-length a)) fine (rw (records-at a i outside (omega arith)) (kind-outside a i other))

-- ---- one record more

take_more : (n : ℕ) (ps : List Piece) (p : Piece) → n ≤ length ps → take (n + 1) (take n ps ++ (p ∷ [])) ≡ take n ps ++ (p ∷ [])
take_more n ps p room =
    let long : length (take n ps) ≡ n = length-take-le n ps room in
    subst (λ (k : ℕ). take (k + 1) (take n ps ++ (p ∷ [])) ≡ take n ps ++ (p ∷ [])) long (take-append-add (take n ps) (p ∷ []) 1)

module _ (c : Costs) (n : ℕ) (ps : List Piece) (p : Piece) (few : n < run_most) (room : n ≤ length ps) where
  -- where costs are within their sizes, the record behind is looked at last
  check-behind : sized_costs c ≡ true → check_run c (n + 1) (take n ps ++ (p ∷ [])) ≡ bad_record (first_bad 1 (take n ps ++ (p ∷ [])))
  check-behind good = check-records c (n + 1) (take n ps ++ (p ∷ [])) (omega arith) good ∙ rw (take_more n ps p room)

  behind-last : check_run c n ps ≡ Ok tt → check_run c (n + 1) (take n ps ++ (p ∷ [])) ≡ bad_record (cond (sized p) 0 (n + 1))
  behind-last fine =
      let ok = check-taken c n ps fine in
      let long : 1 + length (take n ps) ≡ n + 1 = omega (arith, length-take-le n ps room) in
      check-behind ((costs-exact c).1 ok.costs) ∙ rw (first-bad-behind 1 (take n ps) p ok.each, long)

  pub behind-fine : check_run c n ps ≡ Ok tt → sized p ≡ true → check_run c (n + 1) (take n ps ++ (p ∷ [])) ≡ Ok tt
  behind-fine fine good = behind-last fine ∙ rw good

  pub behind-bad : check_run c n ps ≡ Ok tt → sized p ≡ false → check_run c (n + 1) (take n ps ++ (p ∷ [])) ≡ Err (BadRecord (n + 1))
  behind-bad fine bad = behind-last fine ∙ (rw bad (bad-record-some (n + 1) (λ none. omega arith)))

  pub behind-refused : (r : Refusal) → check_run c n ps ≡ Err r → check_run c (n + 1) (take n ps ++ (p ∷ [])) ≡ Err r
  behind-refused r e = look (sized_costs c) refl
    where
      place : (k : ℕ) → first_bad 1 (take n ps) ≡ k → bad_record k ≡ Err r → sized_costs c ≡ true → check_run c (n + 1) (take n ps ++ (p ∷ [])) ≡ Err r
      place zero none bad good = let z : ◌≡◌ {A = ℕ} 0 1 = cc in absurd (omega arith)
      place (suc j) there bad good = check-behind good ∙ (ap bad_record (first-bad-front 0 j (take n ps) (p ∷ []) there) ∙ bad)

      look : (b : Bool) → sized_costs c ≡ b → check_run c (n + 1) (take n ps ++ (p ∷ [])) ≡ Err r
      look true good = place (first_bad 1 (take n ps)) refl (sym (check-records c n ps (omega arith) good) ∙ e) good
      look false bad = check-costs c (n + 1) (take n ps ++ (p ∷ [])) (omega arith) bad ∙ (sym (check-costs c n ps (omega arith) bad) ∙ e)

-- what is known of a run and a task that are not refused
pub record Fit (c : Costs) (n : ℕ) (ps : List Piece) (p : Piece) : Type 0 where
  pub few : n < run_most
  pub costs : SizedCosts c
  pub each : Each Sized (take n ps)
  pub own : Sized p

pub check-task : (c : Costs) (n : ℕ) (ps : List Piece) (p : Piece) → length ps ≡ run_most → check_run c (n + 1) (take n ps ++ (p ∷ [])) ≡ Ok tt → Fit c n ps p
check-task c n ps p long fine =
    let ok = check-taken c (n + 1) (take n ps ++ (p ∷ [])) fine in
    let all : Each Sized (take n ps ++ (p ∷ [])) = rw (take_more n ps p (omega (arith, ok.few))) at ok.each in
    record { few = omega (arith, ok.few); costs = ok.costs; each = each-front Sized (take n ps) p all; own = each_last Sized (take n ps) p all }

-- ---- the answers

-- a run that is taken, laid out: its pieces are charged and can be counted with
pub laid-ranged : (c : Costs) (n : ℕ) (ps : List Piece) → Taken c n ps → (qs : List Charged) → qs ≡ core_of c (take n ps) → Each Ranged qs
laid-ranged c n ps ok qs laid = rw laid (core-ranged c ok.costs (take n ps) (taken-countable c n ps ok))

pub figure-fine : (k : Result ⊤ Refusal) (f : Option ℕ) → k ≡ Ok tt → Ok f ≡ figured k f
figure-fine k f e = rw e

pub figure-bad : (k : Result ⊤ Refusal) (f : Option ℕ) (r : Refusal) → k ≡ Err r → Err r ≡ figured k f
figure-bad k f r e = rw e

pub answer-fine : (c : Costs) (n : ℕ) (ps : List Piece) → check_run c n ps ≡ Ok tt → answer_of c n ps ≡ Ok (verdict_of c (take n ps))
unfolding answer_of
answer-fine c n ps e = rw e

pub answer-bad : (c : Costs) (n : ℕ) (ps : List Piece) (r : Refusal) → check_run c n ps ≡ Err r → answer_of c n ps ≡ Err r
unfolding answer_of
answer-bad c n ps r e = rw e

pub showing-fine : (c : Costs) (n : ℕ) (ps : List Piece) → check_run c n ps ≡ Ok tt → showing_of c n ps ≡ Ok (shown_of c (take n ps))
unfolding showing_of
showing-fine c n ps e = rw e

pub showing-bad : (c : Costs) (n : ℕ) (ps : List Piece) (r : Refusal) → check_run c n ps ≡ Err r → showing_of c n ps ≡ Err r
unfolding showing_of
showing-bad c n ps r e = rw e

pub split-fine : (k : Result ⊤ Refusal) (s : Option Cut) → k ≡ Ok tt → Ok s ≡ splitted k s
split-fine k s e = rw e

pub split-bad : (k : Result ⊤ Refusal) (s : Option Cut) (r : Refusal) → k ≡ Err r → Err r ≡ splitted k s
split-bad k s r e = rw e

-- ---- a run within the sizes is taken

first-bad-all : (k : ℕ) (ps : List Piece) → Each Sized ps → first_bad k ps ≡ 0
first-bad-all k [] ok = refl
first-bad-all k (p ∷ ps) ok = rw ((sized-exact p).1 ok.0) (first-bad-all (k + 1) ps ok.1)

pub taken-check : (c : Costs) (n : ℕ) (ps : List Piece) → Taken c n ps → check_run c n ps ≡ Ok tt
taken-check c n ps ok = check-records c n ps ok.few ((costs-exact c).1 ok.costs) ∙ ap bad_record (first-bad-all 1 (take n ps) ok.each)

pub taken-answer : (c : Costs) (n : ℕ) (ps : List Piece) → Taken c n ps → answer_of c n ps ≡ Ok (verdict_of c (take n ps))
taken-answer c n ps ok = answer-fine c n ps (taken-check c n ps ok)
