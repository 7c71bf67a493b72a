-- A run of records is refused exactly as its table says.
-- Assumes nothing.
--
--   bad_number, bad_carries      document 01's number for what a check finds, and what it carries; 0 where that is nothing
--   sized-breaks, costs-break      the tests of a size rule, and where it is broken
--   check-comes                the check comes to what the table says
--   check-refused              and finds a refusal exactly where the table gives it
--   answer-refused, split-refused      so the answer on a run, and on a run with a task to be split, is a refusal exactly where its table gives it
--   record-settled             a run's table is kept, or gives a refusal
--   record-refused             a refusal is told exactly where the table gives it
--   record-judged              and the verdict is answered exactly where the table is kept
use Rattle.std.specs.Prelude.{Err, Ok, Option, Result, ⊤}
use mathlib.Core.Path.{◌≡◌, refl, sym, ap, ◌∙◌}
use mathlib.Core.Bool.{Bool, true, false, cond}
use mathlib.Core.Logic.{◌⊎◌, inl, inr, ◌↔◌}
use mathlib.Core.List.{List, [], ◌∷◌, ◌++◌}
use Prim.Native.Nat.{ℕ, zero, suc, ◌+◌, ◌≤◌, ◌<◌}
use native.Mathlib.Omega.{arith}
use lib.Dec.{leb}
use lib.ListN.{take}
use Rattle.demand.specs.declared.Piece.{Piece}
use Rattle.demand.specs.declared.Costs.{Costs}
use Rattle.demand.specs.declared.Verdict.{Verdict}
use Rattle.demand.specs.declared.Verdict.TheVariants.{Passes, Overloaded, Undecided}
use Rattle.demand.specs.declared.Refusal.{Refusal}
use Rattle.demand.specs.declared.Refusal.TheVariants.{TooMany, BadCosts, BadRecord}
use Rattle.demand.specs.Sizes.{run_most, Sized, SizedCosts, sized, sized_costs}
use Rattle.demand.specs.Verdict.{verdict_of}
use Rattle.demand.specs.Split.{greatest_split}
use Rattle.demand.specs.Answer.{first_bad, bad_record, check_run, answer_of, split_of, Told, told}
use Rattle.demand.specs.Tables.{Rule, ◌if◌carrying◌, Not, Gives, Kept, at_each}
use Rattle.demand.specs.Refusals.{record_table, Refuses}
use Rattle.demand.proofs.SizeLaws.{sized-exact, costs-exact}
use Rattle.demand.proofs.RunLaws.{answer-fine, answer-bad, split-fine, split-bad}
use Rattle.demand.proofs.TableLaws.{Comes, none, here, next, comes-kept, comes-gives, Breaks, breaks-kept, breaks-exact, breaks-leb}
use Rattle.demand.specs.declared.Cut.{Cut}

abbrev refusal_number : Refusal → ℕ
refusal_number TooMany = 6
refusal_number BadCosts = 2
refusal_number (BadRecord k) = 3

abbrev carries_of : Refusal → ℕ
carries_of TooMany = 0
carries_of BadCosts = 0
carries_of (BadRecord k) = k

abbrev pub bad_number : Result ⊤ Refusal → ℕ
bad_number (Ok tt) = 0
bad_number (Err r) = refusal_number r

abbrev pub bad_carries : Result ⊤ Refusal → ℕ
bad_carries (Ok tt) = 0
bad_carries (Err r) = carries_of r

-- ---- the check

pub sized-breaks : (p : Piece) → Breaks (Not (Sized p)) (sized p)
sized-breaks p = breaks-exact (sized p) (sized-exact p)

pub costs-break : (c : Costs) → Breaks (Not (SizedCosts c)) (sized_costs c)
costs-break c = breaks-exact (sized_costs c) (costs-exact c)

records-come : (k : ℕ) (ps : List Piece) → 1 ≤ k
    → Comes (at_each (λ i p. 3 if Not (Sized p) carrying i ∷ []) k ps) (bad_number (bad_record (first_bad k ps))) (bad_carries (bad_record (first_bad k ps)))
records-come k [] some = none
records-come k (p ∷ ps) some = by (sized p) refl (records-come (k + 1) ps (omega arith))
  where
    table : List Rule
    table = at_each (λ i p. 3 if Not (Sized p) carrying i ∷ []) (k + 1) ps

    found : (j : ℕ) → j ≡ k → 1 ≤ j → Not (Sized p) → Comes (3 if Not (Sized p) carrying k ∷ table) (bad_number (bad_record j)) (bad_carries (bad_record j))
    found zero is low bad = absurd (omega arith)
    found (suc j) is low bad = here bad refl (sym is)

    by : (b : Bool) → sized p ≡ b → Comes table (bad_number (bad_record (first_bad (k + 1) ps))) (bad_carries (bad_record (first_bad (k + 1) ps)))
        → Comes (3 if Not (Sized p) carrying k ∷ table) (bad_number (bad_record (cond b (first_bad (k + 1) ps) k)))
        (bad_carries (bad_record (cond b (first_bad (k + 1) ps) k)))
    by true good more = next (breaks-kept (sized-breaks p) good) more
    by false bad more = found k refl some ((sized-breaks p).breaks bad)

pub check-comes : (c : Costs) (n : ℕ) (ps : List Piece) → Comes (record_table c n ps) (bad_number (check_run c n ps)) (bad_carries (check_run c n ps))
unfolding record_table check_run
check-comes c n ps = few (leb n run_most) refl
  where
    records : List Rule
    records = at_each (λ k p. 3 if Not (Sized p) carrying k ∷ []) 1 (take n ps)

    inside : (b : Bool) → sized_costs c ≡ b → Comes (2 if Not (SizedCosts c) carrying 0 ∷ records)
        (bad_number (cond b (bad_record (first_bad 1 (take n ps))) (Err BadCosts))) (bad_carries (cond b (bad_record (first_bad 1 (take n ps))) (Err BadCosts)))
    inside true good = next (breaks-kept (costs-break c) good) (records-come 1 (take n ps) (omega arith))
    inside false bad = here ((costs-break c).breaks bad) refl refl

    few : (b : Bool) → leb n run_most ≡ b → Comes (6 if (run_most < n) carrying 0 ∷ 2 if Not (SizedCosts c) carrying 0 ∷ records)
        (bad_number (cond b (cond (sized_costs c) (bad_record (first_bad 1 (take n ps))) (Err BadCosts)) (Err TooMany)))
        (bad_carries (cond b (cond (sized_costs c) (bad_record (first_bad 1 (take n ps))) (Err BadCosts)) (Err TooMany)))
    few true fits = next (breaks-kept (breaks-leb n run_most) fits) (inside (sized_costs c) refl)
    few false over = here ((breaks-leb n run_most).breaks over) refl refl

-- a refusal by its name is one by its number and what it carries
named-given : (rules : List Rule) (r : Refusal) → Refuses rules r ↔ Gives rules (refusal_number r) (carries_of r)
named-given rules TooMany = ((λ gives. gives), λ gives. gives)
named-given rules BadCosts = ((λ gives. gives), λ gives. gives)
named-given rules (BadRecord k) = ((λ gives. gives), λ gives. gives)

refusal-one : (r s : Refusal) → refusal_number r ≡ refusal_number s → carries_of r ≡ carries_of s → r ≡ s
refusal-one TooMany TooMany number carries = refl
refusal-one TooMany BadCosts number carries = absurd (omega arith)
refusal-one TooMany (BadRecord k) number carries = absurd (omega arith)
refusal-one BadCosts TooMany number carries = absurd (omega arith)
refusal-one BadCosts BadCosts number carries = refl
refusal-one BadCosts (BadRecord k) number carries = absurd (omega arith)
refusal-one (BadRecord j) TooMany number carries = absurd (omega arith)
refusal-one (BadRecord j) BadCosts number carries = absurd (omega arith)
refusal-one (BadRecord j) (BadRecord k) number carries = ap BadRecord carries

number-some : (r : Refusal) → refusal_number r ≡ 0 → ⊥
number-some TooMany e = omega arith
number-some BadCosts e = omega arith
number-some (BadRecord k) e = omega arith

module _ (c : Costs) (n : ℕ) (ps : List Piece) where
  pub check-refused : (r : Refusal) → (check_run c n ps ≡ Err r) ↔ Refuses (record_table c n ps) r
  check-refused r = (
    (λ e. (named-given (record_table c n ps) r).1 (comes.0 (ap bad_number e, ap bad_carries e, λ none. number-some r (ap bad_number (sym e) ∙ none)))),
    λ gives. (let so = comes.1 ((named-given (record_table c n ps) r).0 gives) in by (check_run c n ps) so.0 so.1 so.2),
  )
    where
      comes : ((bad_number (check_run c n ps) ≡ refusal_number r) × (bad_carries (check_run c n ps) ≡ carries_of r) × (bad_number (check_run c n ps) ≡ 0 → ⊥))
          ↔ Gives (record_table c n ps) (refusal_number r) (carries_of r)
      comes = comes-gives (check-comes c n ps) (refusal_number r) (carries_of r)

      by : (k : Result ⊤ Refusal) → bad_number k ≡ refusal_number r → bad_carries k ≡ carries_of r → (bad_number k ≡ 0 → ⊥) → k ≡ Err r
      by (Ok tt) number carries some = absurd (some refl)
      by (Err s) number carries some = ap Err (refusal-one s r number carries)

  pub record-settled : Kept (record_table c n ps) ⊎ ((r : Refusal) × Refuses (record_table c n ps) r)
  record-settled = by (check_run c n ps) refl
    where
      by : (k : Result ⊤ Refusal) → check_run c n ps ≡ k → Kept (record_table c n ps) ⊎ ((r : Refusal) × Refuses (record_table c n ps) r)
      by (Ok tt) fine = inl ((comes-kept (check-comes c n ps)).0 (ap bad_number fine))
      by (Err r) bad = inr (r, (check-refused r).0 bad)

-- ---- the answer

pub answer-refused : (c : Costs) (n : ℕ) (ps : List Piece) (r : Refusal) → (answer_of c n ps ≡ Err r) ↔ Refuses (record_table c n ps) r
answer-refused c n ps r = ((λ is. (check-refused c n ps r).0 (by (check_run c n ps) refl is)), λ gives. answer-bad c n ps r ((check-refused c n ps r).1 gives))
  where
    by : (k : Result ⊤ Refusal) → check_run c n ps ≡ k → answer_of c n ps ≡ Err r → check_run c n ps ≡ Err r
    by (Ok tt) fine is = let twice = sym (answer-fine c n ps fine) ∙ is in let z : ◌≡◌ {A = ℕ} 0 1 = cc in absurd (omega arith)
    by (Err s) bad is = let twice = sym (answer-bad c n ps s bad) ∙ is in bad ∙ cc

pub split-refused : (c : Costs) (n : ℕ) (ps : List Piece) (p : Piece) (g : ℕ) (r : Refusal)
    → (split_of c n ps p g ≡ Err r) ↔ Refuses (record_table c (n + 1) (take n ps ++ (p ∷ []))) r
unfolding split_of
split-refused c n ps p g r = (
  (λ is. (check-refused c (n + 1) all r).0 (by (check_run c (n + 1) all) refl is)),
  λ gives. sym (split-bad (check_run c (n + 1) all) best r ((check-refused c (n + 1) all r).1 gives)),
)
  where
    all : List Piece
    all = take n ps ++ (p ∷ [])

    best : Option Cut
    best = greatest_split c g (take n ps) p

    by : (k : Result ⊤ Refusal) → check_run c (n + 1) all ≡ k → split_of c n ps p g ≡ Err r → check_run c (n + 1) all ≡ Err r
    by (Ok tt) fine is = let twice = split-fine (check_run c (n + 1) all) best fine ∙ is in let z : ◌≡◌ {A = ℕ} 0 1 = cc in absurd (omega arith)
    by (Err s) bad is = let twice = split-bad (check_run c (n + 1) all) best s bad ∙ is in bad ∙ cc

-- what is told of a refusal
told-refused : (r : Refusal) → told (Err r) ≡ record { which = 100 + refusal_number r; carries = carries_of r }
told-refused TooMany = refl
told-refused BadCosts = refl
told-refused (BadRecord k) = refl

judged-below : (v : Verdict) → (told (Ok v)).which ≤ 2
judged-below Passes = omega arith
judged-below (Overloaded t) = omega arith
judged-below Undecided = omega arith

pub record-refused : (c : Costs) (n : ℕ) (ps : List Piece) (N k : ℕ)
    → (told (answer_of c n ps) ≡ record { which = 100 + N; carries = k }) ↔ Gives (record_table c n ps) N k
record-refused c n ps N k = (by (check_run c n ps) refl, from)
  where
    comes : ((bad_number (check_run c n ps) ≡ N) × (bad_carries (check_run c n ps) ≡ k) × (bad_number (check_run c n ps) ≡ 0 → ⊥)) ↔ Gives (record_table c n ps) N k
    comes = comes-gives (check-comes c n ps) N k

    by : (r : Result ⊤ Refusal) → check_run c n ps ≡ r → told (answer_of c n ps) ≡ record { which = 100 + N; carries = k } → Gives (record_table c n ps) N k
    by (Ok tt) fine is =
        let which : (told (Ok (verdict_of c (take n ps)))).which ≡ 100 + N = ap (λ (t : Told). t.which) (ap told (sym (answer-fine c n ps fine)) ∙ is) in
        absurd (omega (arith, judged-below (verdict_of c (take n ps))))
    by (Err r) bad is =
        let so = sym (told-refused r) ∙ (ap told (sym (answer-bad c n ps r bad)) ∙ is) in
        let number : 100 + refusal_number r ≡ 100 + N = ap (λ (t : Told). t.which) so in
        comes.0 (ap bad_number bad ∙ omega arith, ap bad_carries bad ∙ ap (λ (t : Told). t.carries) so, (λ e. number-some r (ap bad_number (sym bad) ∙ e)))

    told-by : (r : Result ⊤ Refusal) → check_run c n ps ≡ r → bad_number r ≡ N → bad_carries r ≡ k → (bad_number r ≡ 0 → ⊥)
        → told (answer_of c n ps) ≡ record { which = 100 + N; carries = k }
    told-by (Ok tt) fine number carries some = absurd (some refl)
    told-by (Err r) bad number carries some =
        ap told (answer-bad c n ps r bad) ∙ (told-refused r ∙ (λ i. record { which = 100 + number i; carries = carries i }))

    from : Gives (record_table c n ps) N k → told (answer_of c n ps) ≡ record { which = 100 + N; carries = k }
    from gives = let so = comes.1 gives in told-by (check_run c n ps) refl so.0 so.1 so.2

pub record-judged : (c : Costs) (n : ℕ) (ps : List Piece) → (answer_of c n ps ≡ Ok (verdict_of c (take n ps))) ↔ Kept (record_table c n ps)
record-judged c n ps = (by (check_run c n ps) refl, (λ kept. fine (check_run c n ps) refl ((comes-kept (check-comes c n ps)).1 kept)))
  where
    fine : (r : Result ⊤ Refusal) → check_run c n ps ≡ r → bad_number r ≡ 0 → answer_of c n ps ≡ Ok (verdict_of c (take n ps))
    fine (Ok tt) is e = answer-fine c n ps is
    fine (Err r) is e = absurd (number-some r e)

    by : (r : Result ⊤ Refusal) → check_run c n ps ≡ r → answer_of c n ps ≡ Ok (verdict_of c (take n ps)) → Kept (record_table c n ps)
    by (Ok tt) is e = (comes-kept (check-comes c n ps)).0 (ap bad_number is)
    by (Err r) is e = let twice = sym (answer-bad c n ps r is) ∙ e in let z : ◌≡◌ {A = ℕ} 0 1 = cc in absurd (omega arith)
