-- Laws of kinds. What a test says of every kind follows by `every-kind`, so that another kind moves `kind-back` and that, and no other law goes by its cases.
-- Assumes nothing.
--
--   kind-back        a kind by its number
--   kind-one         no two kinds have the same number
--   all_kinds t       whether the test t holds of every kind
--   every-kind       then it holds of each
--   kind-narrow      no kind's number is past the greatest
use mathlib.Core.Bool.{Bool, true, ◌&&◌}
use mathlib.Core.Path.{◌≡◌, refl, sym, ap, ◌∙◌}
use Prim.Native.Nat.{◌≤◌}
use borrow.Author.Tests.{leb-true}
use lib.Dec.{leb}
use Rattle.demand.specs.declared.Kind.{Kind}
use Rattle.demand.specs.declared.Kind.TheVariants.{Whole, First, Last}
use Rattle.demand.specs.Kinds.{kind_number, kind_most, kind_of}
use Rattle.demand.proofs.Tests.{both_left, both_right}

pub kind-back : (k : Kind) → kind_of (kind_number k) ≡ k
kind-back Whole = refl
kind-back First = refl
kind-back Last = refl

pub kind-one : (k l : Kind) → kind_number k ≡ kind_number l → k ≡ l
kind-one k l e = sym (kind-back k) ∙ (ap kind_of e ∙ kind-back l)

abbrev pub all_kinds : (Kind → Bool) → Bool
all_kinds t = t Whole && (t First && t Last)

pub every-kind : (t : Kind → Bool) → all_kinds t ≡ true → (k : Kind) → t k ≡ true
every-kind t all Whole = both_left (t Whole) (t First && t Last) all
every-kind t all First = both_left (t First) (t Last) (both_right (t Whole) (t First && t Last) all)
every-kind t all Last = both_right (t First) (t Last) (both_right (t Whole) (t First && t Last) all)

pub kind-narrow : (k : Kind) → kind_number k ≤ kind_most
kind-narrow k = leb-true (kind_number k) kind_most (every-kind (λ k. leb (kind_number k) kind_most) refl k)
