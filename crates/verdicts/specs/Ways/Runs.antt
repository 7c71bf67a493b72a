-- What a run that is laid out promises. It is a way and no meaning; the laws are in `proofs/LaidRunLaws.antt`.
--
--   LaysOut c n ps qs b   the first n of qs are the first n records of ps, each charged, as a core, and b is its stall
use Rattle.std.specs.Prelude.{◌≡◌, List, ℕ, ◌≤◌, take, Ok}
use Rattle.demand.specs.declared.Piece.{Piece}
use Rattle.demand.specs.declared.Costs.{Costs}
use Rattle.demand.specs.declared.Charged.{Charged}
use Rattle.demand.specs.Answer.{check_run}
use Rattle.demand.specs.Charge.{core_of, stall}
use Rattle.demand.specs.Sizes.{run_most}
use Rattle.demand.specs.Ways.Ranges.{stall_most}
use Rattle.verdicts.specs.Cores.{IsCore}

pub record LaysOut (c : Costs) (n : ℕ) (ps : List Piece) (qs : List Charged) (b : ℕ) : Type 0 where
  pub few : n ≤ run_most
  pub exact : take n qs ≡ core_of c (take n ps)
  pub fits : IsCore (take n qs)
  pub stall-is : b ≡ stall c
  pub stall-fits : b ≤ stall_most
  pub taken : check_run c n ps ≡ Ok tt
