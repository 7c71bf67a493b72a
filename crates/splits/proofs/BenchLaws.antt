-- Laws of a core on the bench.
-- Assumes nothing.
--
--   core-weighs, ready-laid     the pieces of a core are charged something, and ready
--   laid-with, first-behind     a piece written behind, and the first one of a split
--   idle-ranged                 a piece that asks for nothing
--   laid-behind                 a place behind the records is as it was
use mathlib.Core.Path.{◌≡◌, ap, ◌∙◌}
use mathlib.Core.List.{List, [], ◌∷◌, ◌++◌, map}
use Prim.Native.Nat.{ℕ, ◌-◌, ◌<◌}
use native.Mathlib.Omega.{arith}
use lib.ListN.{length, drop, get_or}
use Rattle.std.proofs.lemmas.List.{length-map, get_or-append_right, get_or-drop}
use Rattle.demand.specs.declared.Charged.{Charged}
use Rattle.demand.specs.declared.Costs.{Costs}
use Rattle.demand.specs.declared.Piece.{Piece}
use Rattle.demand.specs.Charge.{charge, charged, core_of}
use Rattle.demand.specs.Sizes.{run_most, SizedCosts, Sized, Each}
use Rattle.demand.specs.Ways.Ranges.{Ranged, charged_within, no_charge}
use Rattle.demand.proofs.ChargeLaws.{core-ranged, all-countable}
use Rattle.demand.proofs.Sums.{each_map}
use Rattle.verdicts.specs.Cores.{lay_records}
use Rattle.splits.specs.Ways.Bench.{OnBench, both, Weighs, Ready}
use Rattle.demand.specs.Split.{first_piece}
use Rattle.demand.specs.Ways.ChargedSplit.{with_first}

charged-weighs : (c : Costs) (p : Piece) → Sized p → Weighs (charged c p)
unfolding charged charge
charged-weighs c p ok = record { some = omega arith }

core-weighs : (c : Costs) (ps : List Piece) → Each Sized ps → Each Weighs (core_of c ps)
unfolding core_of
core-weighs c ps each = each_map Sized Weighs (charged c) (charged-weighs c) ps each

core-long : (c : Costs) (ps : List Piece) → length (core_of c ps) ≡ length ps
unfolding core_of
core-long c ps = length-map ps (charged c)

pub ready-laid : (c : Costs) (ps : List Piece) → SizedCosts c → length ps < run_most → Each Sized ps → Ready (core_of c ps)
ready-laid c ps costs room each = record {
  room = omega (arith, core-long c ps);
  ranged = core-ranged c costs ps (all-countable ps each);
  weighs = core-weighs c ps each;
}

-- a place behind the records is as it was
pub laid-behind : (qs : List Charged) (c : Costs) (ps : List Piece) (d : Charged) → get_or (lay_records qs c ps) (length ps) d ≡ get_or qs (length ps) d
unfolding lay_records
laid-behind qs c ps d =
    let n = length ps in
    get_or-append_right (map (charged_within c) ps) (drop n qs) n n d (length-map ps (charged_within c)) (omega arith)
    ∙ (get_or-drop n qs (n - n) d ∙ ap (λ (k : ℕ). get_or qs k d) (omega arith))

-- a piece that asks for nothing
pub idle-ranged : (q : Charged) → q ≡ no_charge → Ranged (record q { period = 1 })
idle-ranged q is =
    rw is (record {
      period-some = omega arith;
      period-fits = omega arith;
      window-fits = omega arith;
      jitter-fits = omega arith;
      charge-fits = omega arith;
      release-fits = omega arith;
      ipi-fits = omega arith;
      ipij-fits = omega arith;
    })

-- a piece written behind
pub laid-with : (qs : List Charged) (q : Charged) (t : OnBench) → t.core ≡ qs → t.tried ≡ q → both t ≡ qs ++ (q ∷ [])
laid-with qs q t core tried = rw (core, tried)

-- the first one of a split
pub first-behind : (c : Costs) (qs : List Charged) (p : Piece) (x w : ℕ) (t : OnBench) → t.core ≡ qs → t.tried ≡ charged c (first_piece p x w) → both t ≡ with_first c qs p x w
unfolding with_first
first-behind c qs p x w t core tried = rw (core, tried)
