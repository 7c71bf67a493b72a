-- What is answered for a run of piece records, and the refusals before it: document 01, "Verdict on a core" and "Refusal numbers".
-- A run is the first n of the records ps; a lent run is `answer_of c (length ps) ps`.
--
--   first_bad k ps         the place of the first record outside the sizes, counted from k, or 0
--   check_run c n ps       6, then 2, then 3 with the record's place
--   answer_of c n ps       the refusal, else the verdict
--   Taken c n ps          the run breaks no rule: `proofs/AnswerLaws.antt` has that it is judged exactly then
--   charged_time c p       C', or 0 where the costs or the piece are outside the sizes
--   showing_of c n ps      what is shown of the run, refused as its verdict is
--   told a                document 01's number for each case, with what it carries
use Rattle.std.specs.Prelude.{cond, ◌&&◌, List, [], ◌∷◌, ◌++◌, ℕ, zero, suc, ◌+◌, ◌≤◌, leb, take, Err, None, Ok, Option, Result, Some, ⊤}
use Rattle.demand.specs.declared.Piece.{Piece}
use Rattle.demand.specs.declared.Costs.{Costs}
use Rattle.demand.specs.declared.Charged.{Charged}
use Rattle.demand.specs.declared.Verdict.{Verdict}
use Rattle.demand.specs.declared.Verdict.TheVariants.{Passes, Overloaded, Undecided}
use Rattle.demand.specs.declared.Refusal.TheVariants.{TooMany, BadCosts, BadRecord}
use Rattle.demand.specs.declared.Shown.{Shown}
use Rattle.demand.specs.Sizes.{run_most, length_most, SizedCosts, Sized, sized_costs, sized, Each}
use Rattle.demand.specs.Charge.{charge, core_of, stall}
use Rattle.demand.specs.Demand.{demand}
use Rattle.demand.specs.Busy.{busy_length, tight_window}
use Rattle.demand.specs.Verdict.{verdict_of}
use Rattle.demand.specs.Why.{shown_of}
use Rattle.demand.specs.Split.{greatest_split}
use Rattle.demand.specs.declared.Refusal.{Refusal}
use Rattle.demand.specs.declared.Cut.{Cut}

abbrev pub first_bad : ℕ → List Piece → ℕ
first_bad k [] = 0
first_bad k (p ∷ ps) = cond (sized p) (first_bad (k + 1) ps) k

abbrev pub bad_record : ℕ → Result ⊤ Refusal
bad_record zero = (Ok tt)
bad_record (suc k) = Err (BadRecord (suc k))

unfoldable pub check_run : Costs → ℕ → List Piece → Result ⊤ Refusal
check_run c n ps = cond (leb n run_most) (cond (sized_costs c) (bad_record (first_bad 1 (take n ps))) (Err BadCosts)) (Err TooMany)

abbrev pub answered : Result ⊤ Refusal → Verdict → Result Verdict Refusal
answered (Ok tt) v = Ok v
answered (Err r) v = Err r

unfoldable pub answer_of : Costs → ℕ → List Piece → Result Verdict Refusal
answer_of c n ps = answered (check_run c n ps) (verdict_of c (take n ps))

pub record Taken (c : Costs) (n : ℕ) (ps : List Piece) : Type 0 where
  pub few : n ≤ run_most
  pub costs : SizedCosts c
  pub each : Each Sized (take n ps)

-- ---- the charged time of a piece

unfoldable pub charged_time : Costs → Piece → ℕ
charged_time c p = cond (sized_costs c && sized p) (charge c p) 0

-- ---- figures of a run, refused as its verdict is

abbrev pub figured : Result ⊤ Refusal → Option ℕ → Result (Option ℕ) Refusal
figured (Ok tt) f = Ok f
figured (Err r) f = Err r

-- the busy length L
unfoldable pub busy_figure : Costs → ℕ → List Piece → Result (Option ℕ) Refusal
busy_figure c n ps = figured (check_run c n ps) (busy_length (core_of c (take n ps)))

-- what is shown of the verdict
abbrev pub showing : Result ⊤ Refusal → Shown → Result Shown Refusal
showing (Ok tt) s = Ok s
showing (Err r) s = Err r

unfoldable pub showing_of : Costs → ℕ → List Piece → Result Shown Refusal
showing_of c n ps = showing (check_run c n ps) (shown_of c (take n ps))

-- the demand g(t), for t up to what a judged length can be
unfoldable pub demand_figure : Costs → ℕ → List Piece → ℕ → Result (Option ℕ) Refusal
demand_figure c n ps t = figured (check_run c n ps) (cond (leb t length_most) (Some (demand (stall c) (core_of c (take n ps)) t)) None)

-- the tight window of the last of the pieces, beside all of them, where that is at most its own window
abbrev pub tight_of_last : ℕ → List Charged → List Charged → Option ℕ
tight_of_last b all [] = None
tight_of_last b all (q ∷ []) = tight_window b all q q.window
tight_of_last b all (q ∷ p ∷ qs) = tight_of_last b all (p ∷ qs)

unfoldable pub tight_figure : Costs → ℕ → List Piece → Result (Option ℕ) Refusal
tight_figure c n ps = figured (check_run c n ps) (tight_of_last (stall c) (core_of c (take n ps)) (core_of c (take n ps)))

-- ---- the split of a task beside a run: the task is checked as the record behind the run's, so the run has at most 78

abbrev pub splitted : Result ⊤ Refusal → Option Cut → Result (Option Cut) Refusal
splitted (Ok tt) s = Ok s
splitted (Err r) s = Err r

unfoldable pub split_of : Costs → ℕ → List Piece → Piece → ℕ → Result (Option Cut) Refusal
split_of c n ps p g = splitted (check_run c (n + 1) (take n ps ++ (p ∷ []))) (greatest_split c g (take n ps) p)

-- ---- the numbers

-- 0, 1 and 2 for passes, overloaded and undecided, 100 + N for the refusal N
pub record Told : Type 0 where
  pub which : ℕ
  pub carries : ℕ

abbrev pub told : Result Verdict Refusal → Told
told (Ok Passes) = record { which = 0; carries = 0 }
told (Ok (Overloaded t)) = record { which = 1; carries = t }
told (Ok Undecided) = record { which = 2; carries = 0 }
told (Err TooMany) = record { which = 106; carries = 0 }
told (Err BadCosts) = record { which = 102; carries = 0 }
told (Err (BadRecord k)) = record { which = 103; carries = k }
