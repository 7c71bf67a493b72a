-- Kinds: the two questions that charge, interrupts and jitter go by, and kinds by number: document 01, "Verdict on a core": 0, 1, 2 for whole, first,
-- last. No enum crosses the C boundary, so records and plans have these.
--
--   departs k            its task goes on elsewhere
--   arrives k            it came from elsewhere
--   kind_number k         the number of a kind
--   kind_most             the greatest number of a kind: another kind is outside the sizes
--   kind_of n             the kind of a number; a greater one is taken for a last piece, and who reads numbers from outside turns it away before
use Rattle.std.specs.Prelude.{Bool, true, false, cond, ℕ, eqb}
use Rattle.demand.specs.declared.Kind.{Kind}
use Rattle.demand.specs.declared.Kind.TheVariants.{Whole, First, Last}

abbrev pub departs : Kind → Bool
departs Whole = false
departs First = true
departs Last = false

abbrev pub arrives : Kind → Bool
arrives Whole = false
arrives First = false
arrives Last = true

abbrev pub kind_number : Kind → ℕ
kind_number Whole = 0
kind_number First = 1
kind_number Last = 2

abbrev pub kind_most : ℕ
kind_most = 2

abbrev pub kind_of : ℕ → Kind
kind_of n = cond (eqb n 0) Whole (cond (eqb n 1) First Last)
