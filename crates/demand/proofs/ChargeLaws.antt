-- Laws of the charge: within the sizes a piece is charged without wrapping, and the charged piece can be counted with.
-- Assumes nothing.
--
--   when-le                  a bound of a number is one of it or nothing
--   late-jitter-is, -none    the jitter of a piece that came from elsewhere, by whether the costs are within their sizes
--   late-jitter-most, -le    its bound: that of four constants, so never above that of a time
--   charged-recurs, -ranged  what the laws of demand and the code ask of a charged piece
--   sized-countable          a record within the sizes can be charged
--   charged-tells            its charged time, by what the two size tests tell
--   charged-time-is          and within the sizes it is C'
--   core-snoc, core-more     the pieces of a core, one more
use mathlib.Core.Path.{◌≡◌, refl, sym, ap}
use mathlib.Core.Bool.{Bool, true, false, cond, ◌&&◌}
use mathlib.Core.List.{List, [], ◌∷◌, ◌++◌, map}
use Prim.Native.Nat.{ℕ, ◌+◌, ◌*◌, ◌≤◌, ◌<◌, zero-le}
use native.Mathlib.Numerals.{add-one}
use lib.ListN.{length, take, get_or}
use lib.Seq.{take-suc}
use native.Mathlib.Omega.{arith}
use Rattle.demand.specs.Kinds.{departs, arrives}
use Rattle.demand.specs.declared.Piece.{Piece}
use Rattle.demand.specs.declared.Costs.{Costs}
use Rattle.demand.specs.declared.Charged.{Charged}
use Rattle.demand.specs.Sizes.{SizedCosts, Sized, Tells, Each, sized, sized_costs, cost_most, time_most}
use Rattle.demand.specs.Ways.Ranges.{Countable, Ranged, countable, charged_within, no_charge, stall_within, stall_most}
use Rattle.demand.specs.Split.{late_jitter}
use Rattle.demand.specs.Charge.{charge, stall, ipi_cost, charged, core_of}
use Rattle.demand.specs.Answer.{charged_time}
use Rattle.demand.proofs.DemandLaws.{Recurs}
use Rattle.demand.proofs.SizeLaws.{tells-sized, tells-costs, costs-exact, countable-is, sized-is, sized-costs-is}
use Rattle.demand.proofs.Sums.{each_map, each-imp}

pub when-le : (b : Bool) {n m : ℕ} → n ≤ m → cond b n 0 ≤ m
when-le true h = h
when-le false h = zero-le

-- ---- the late jitter

pub late-jitter-is : (c : Costs) → SizedCosts c → late_jitter c ≡ c.precision + c.ipb + c.relo + c.tseto
unfolding late_jitter
late-jitter-is c costs = rw ((costs-exact c).1 costs)

pub late-jitter-none : (c : Costs) → sized_costs c ≡ false → late_jitter c ≡ 0
unfolding late_jitter
late-jitter-none c bad = rw bad

-- whatever the costs are
pub late-jitter-most : (c : Costs) → late_jitter c ≤ 4 * cost_most
late-jitter-most c = look (sized_costs c) refl (tells-costs c)
  where
    look : (b : Bool) → sized_costs c ≡ b → Tells (SizedCosts c) b → late_jitter c ≤ 4 * cost_most
    look true told costs = omega (arith, late-jitter-is c costs, costs.precision-fits, costs.ipb-fits, costs.relo-fits, costs.tseto-fits)
    look false told bad = omega (arith, late-jitter-none c told)

pub late-jitter-le : (c : Costs) → late_jitter c ≤ time_most
late-jitter-le c = omega (arith, late-jitter-most c)

-- ---- the charge

pub charged-recurs : (c : Costs) (p : Piece) → Countable p → Recurs (charged c p)
unfolding charged
charged-recurs c p ok = record { again = ok.period-some }

pub charged-ranged : (c : Costs) → SizedCosts c → (p : Piece) → Countable p → Ranged (charged c p)
unfolding charged charge ipi_cost
charged-ranged c costs p ok = record {
  period-some = ok.period-some;
  period-fits = ok.period-fits;
  window-fits = ok.window-fits;
  jitter-fits = ok.jitter-fits;
  charge-fits =
      omega (
        arith,
        when-le (departs p.kind) {n = c.ipb + c.beto + c.migro} {m = 300000} (omega arith),
        when-le (arrives p.kind) {n = p.migrate} {m = 100000} (omega arith),
      );
  release-fits = omega arith;
  ipi-fits = when-le (arrives p.kind) (omega arith);
  ipij-fits = omega arith;
}

pub sized-countable : (p : Piece) → Sized p → Countable p
sized-countable p ok = record {
  budget-fits = omega arith;
  window-fits = omega arith;
  period-some = omega arith;
  period-fits = omega arith;
  jitter-fits = omega arith;
  preempt-fits = omega arith;
  migrate-fits = omega arith;
}

pub ranged-recurs : (q : Charged) → Ranged q → Recurs q
ranged-recurs q ok = record { again = ok.period-some }

pub core-recurs : (c : Costs) (ps : List Piece) → Each Countable ps → Each Recurs (core_of c ps)
unfolding core_of
core-recurs c ps ok = each_map Countable Recurs (charged c) (charged-recurs c) ps ok

pub core-ranged : (c : Costs) → SizedCosts c → (ps : List Piece) → Each Countable ps → Each Ranged (core_of c ps)
unfolding core_of
core-ranged c costs ps ok = each_map Countable Ranged (charged c) (charged-ranged c costs) ps ok

pub all-countable : (ps : List Piece) → Each Sized ps → Each Countable ps
all-countable ps ok = each-imp Sized Countable sized-countable ps ok

pub all-recurs : (qs : List Charged) → Each Ranged qs → Each Recurs qs
all-recurs qs ok = each-imp Ranged Recurs ranged-recurs qs ok

pub charged-tells : (c : Costs) (p : Piece) (a b : Bool) → Tells (SizedCosts c) a → Tells (Sized p) b → charged_time c p ≡ cond (a && b) (charge c p) 0
unfolding charged_time
charged-tells c p a b costs size = rw (sized-costs-is c a costs, sized-is p b size)

pub charged-costs : (c : Costs) (p : Piece) → Tells (SizedCosts c) false → charged_time c p ≡ 0
charged-costs c p costs = by (sized p) (tells-sized p)
  where
    by : (b : Bool) → Tells (Sized p) b → charged_time c p ≡ 0
    by b size = charged-tells c p false b costs size

pub charged-time-is : (c : Costs) (p : Piece) → SizedCosts c → Sized p → charged_time c p ≡ charge c p
charged-time-is c p costs size = charged-tells c p true true costs size

-- ---- the total functions, where nothing is outside its range

pub charged-within : (c : Costs) (p : Piece) → SizedCosts c → Countable p → charged_within c p ≡ charged c p
unfolding charged_within
charged-within c p costs ok = rw ((costs-exact c).1 costs, sym (countable-is p true ok))

pub charged-no-costs : (c : Costs) (p : Piece) → sized_costs c ≡ false → charged_within c p ≡ no_charge
unfolding charged_within
charged-no-costs c p bad = rw bad

pub charged-no-piece : (c : Costs) (p : Piece) → countable p ≡ false → charged_within c p ≡ no_charge
unfolding charged_within
charged-no-piece c p bad = look (sized_costs c)
  where
    look : (b : Bool) → cond (b && countable p) (charged c p) no_charge ≡ no_charge
    look true = rw bad
    look false = refl

pub stall-no-costs : (c : Costs) → sized_costs c ≡ false → stall_within c ≡ 0
unfolding stall_within
stall-no-costs c bad = rw bad

pub stall-within : (c : Costs) → SizedCosts c → stall_within c ≡ stall c
unfolding stall_within
stall-within c costs = rw ((costs-exact c).1 costs)

pub stall-le : (c : Costs) → stall_within c ≤ stall_most
unfolding stall_within stall
stall-le c = look (sized_costs c) (tells-costs c)
  where
    look : (b : Bool) → Tells (SizedCosts c) b → cond b (stall c) 0 ≤ stall_most
    look true costs = omega (arith, costs.ipb-fits, costs.schedo-fits, costs.tseto-fits)
    look false bad = zero-le

-- ---- one piece more

pub map_snoc : {A B : Type 0} (f : A → B) (ps : List A) (p : A) → map f (ps ++ (p ∷ [])) ≡ map f ps ++ (f p ∷ [])
map_snoc f [] p = refl
map_snoc f (q ∷ ps) p = ap (λ (l : List _). f q ∷ l) (map_snoc f ps p)

pub core-snoc : (c : Costs) (ps : List Piece) (p : Piece) → core_of c (ps ++ (p ∷ [])) ≡ core_of c ps ++ (charged c p ∷ [])
unfolding core_of
core-snoc c ps p = map_snoc (charged c) ps p

pub core-more : (c : Costs) (ps : List Piece) (i : ℕ) (d : Piece) → i < length ps
    → core_of c (take (i + 1) ps) ≡ core_of c (take i ps) ++ (charged c (get_or ps i d) ∷ [])
unfolding core_of
core-more c ps i d h = rw (add-one, take-suc ps i d) (map_snoc (charged c) (take i ps) (get_or ps i d))
