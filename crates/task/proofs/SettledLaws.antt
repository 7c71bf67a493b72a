-- A contract that tells of a result by its number settles the result: no two have the same.
-- Assumes nothing.
--
--   number-one            two refusals of one number are one
--   fault-number-one      so are two answers
--   refused-one           so are two refusals that carry the same
--   place-number-one      so are two places, of which no place is 0
--   refused-as-one        two runs of records that are refused alike here are refused for one reason
use Rattle.std.proofs.Common.{◌≡◌, ℕ, ◌-◌, [], ◌∷◌, get_or, refl, sym, ap, ◌∙◌}
use Rattle.std.specs.Prelude.{cond, eqb, Option, None, Some, Result, Ok, Err}
use Rattle.demand.specs.declared.Refusal.{Refusal}
use Rattle.demand.specs.declared.Refusal.TheVariants.{TooMany as TooManyRecords, BadCosts, BadRecord}
use Rattle.task.specs.declared.faults.Refused.{Refused}
use Rattle.task.specs.declared.faults.Fault.{Fault}
use Rattle.task.specs.declared.faults.Fault.TheVariants.{Machine, Costs, Times, Twin, Unknown, TooMany, NoRoom, Form, TooLong, TooShort}
use Rattle.task.specs.Faults.{number_of, fault_number, refused_as}
use Rattle.task.specs.Tasks.{place_number}
use Rattle.task.proofs.FaultLaws.{number-some}

-- the refusals by their numbers, and back
abbrev numbered : ℕ → Fault
numbered n = get_or (Machine ∷ Costs ∷ Times ∷ Twin ∷ Unknown ∷ TooMany ∷ NoRoom ∷ Form ∷ TooLong ∷ TooShort ∷ []) (n - 1) Machine

number-back : (f : Fault) → numbered (number_of f) ≡ f
number-back Machine = refl
number-back Costs = refl
number-back Times = refl
number-back Twin = refl
number-back Unknown = refl
number-back TooMany = refl
number-back NoRoom = refl
number-back Form = refl
number-back TooLong = refl
number-back TooShort = refl

pub number-one : (f g : Fault) → number_of f ≡ number_of g → f ≡ g
number-one f g e = sym (number-back f) ∙ ap numbered e ∙ number-back g

pub fault-number-one : (r s : Result Unit Fault) → fault_number r ≡ fault_number s → r ≡ s
fault-number-one (Ok a) (Ok b) e = refl
fault-number-one (Ok a) (Err g) e = absurd (number-some g (sym e))
fault-number-one (Err f) (Ok b) e = absurd (number-some f e)
fault-number-one (Err f) (Err g) e = ap (λ (h : Fault). Err h) (number-one f g e)

pub refused-one : (r s : Refused) → number_of r.fault ≡ number_of s.fault → r.carries ≡ s.carries → r ≡ s
refused-one r s number carries = both r.fault s.fault r.carries s.carries (number-one r.fault s.fault number) carries
  where
    both : (f g : Fault) (j k : ℕ) → f ≡ g → j ≡ k → ◌≡◌ {A = Refused} (record { fault = f; carries = j }) (record { fault = g; carries = k })
    both f g j k fault carries = cc

pub place-number-one : (p q : Option ℕ) → place_number p ≡ place_number q → p ≡ q
place-number-one None None e = refl
place-number-one None (Some j) e = cc
place-number-one (Some i) None e = cc
place-number-one (Some i) (Some j) e = cc

-- why a run of records was refused, by how it is refused here
abbrev why_refused : Refused → Refusal
why_refused r = cond (eqb (number_of r.fault) 6) TooManyRecords (cond (eqb (number_of r.fault) 2) BadCosts (BadRecord r.carries))

why-back : (a : Refusal) → why_refused (refused_as a) ≡ a
why-back TooManyRecords = refl
why-back BadCosts = refl
why-back (BadRecord place) = refl

pub refused-as-one : (a b : Refusal) → refused_as a ≡ refused_as b → a ≡ b
refused-as-one a b e = sym (why-back a) ∙ ap why_refused e ∙ why-back b
