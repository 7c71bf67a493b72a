-- What the walk of a plan keeps: `walks` has it of C=D, and here it is of the plan's machine and costs, for items that have times.
-- Assumes nothing.
--
--   whole-kind             a task's whole piece is whole
--   claims m c times       what is claimed of the walk: C=D's claims
--   walk-planned           a walk that does not stick has them, where costs and times are within the sizes
--   only-seven             a walk that sticks does with 7
use mathlib.Core.Path.{◌≡◌, refl}
use mathlib.Core.List.{List}
use Prim.Native.Nat.{ℕ, ◌≤◌}
use Rattle.demand.specs.declared.Kind.TheVariants.{Whole}
use Rattle.demand.specs.declared.Costs.{Costs}
use Rattle.demand.specs.Sizes.{Sized, SizedCosts, Each}
use Rattle.demand.proofs.Sums.{each-imp}
use Rattle.task.specs.declared.Times.{Times}
use Rattle.task.specs.declared.Machine.{Machine}
use Rattle.task.specs.Tasks.{whole_piece}
use Rattle.walks.specs.Way.{Placed, fine, stuck, walk_over}
use Rattle.walks.specs.Halves.{Stand}
use Rattle.walks.proofs.SoundLaws.{Claim, Planned, walk-sound}
use Rattle.walks.proofs.HalvesLaws.{Right, halves, halving-sound, sticks-seven}
use Rattle.plan.specs.Walk.{way_for}

pub whole-kind : (t : Times) → (whole_piece t).kind ≡ Whole
unfolding whole_piece
whole-kind t = refl

module _ {A : Type 0} (m : Machine) (c : Costs) (times : A → Times) where
  abbrev pub claims : Claim A Stand
  claims = halves c m.grain m.cores (λ a. whole_piece (times a))

  pub walk-planned : SizedCosts c → 1 ≤ m.cores → (xs : List A) → Each (λ a. Sized (whole_piece (times a))) xs
      → (s : Stand) (l : List (Placed A)) → walk_over (way_for m c (λ a. whole_piece (times a))) xs ≡ fine s l → Planned claims xs s l
  walk-planned costs some xs sizes =
      walk-sound (way_for m c (λ a. whole_piece (times a))) claims (halving-sound c m.grain m.cores (λ a. whole_piece (times a)) costs some) xs
      (each-imp (λ a. Sized (whole_piece (times a))) (λ a. Right (whole_piece (times a)))
      (λ a size. record { size = size; kind = whole-kind (times a) }) xs sizes)

  pub only-seven : (xs : List A) (a : A) (n : ℕ) → walk_over (way_for m c (λ a. whole_piece (times a))) xs ≡ stuck a n → n ≡ 7
  only-seven = sticks-seven c m.grain m.cores (λ a. whole_piece (times a))
