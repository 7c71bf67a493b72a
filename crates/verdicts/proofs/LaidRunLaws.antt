-- Laws of a run that is laid out.
-- Assumes nothing.
--
--   tight-none            there is no tight window of a run without records
--   lays-out              what makes a laid run: its pieces and its stall, where the records are taken
use mathlib.Core.Path.{◌≡◌, refl, sym, ◌∙◌}
use mathlib.Core.List.{List, [], ◌∷◌}
use Prim.Native.Nat.{ℕ, ◌≤◌}
use native.Mathlib.Omega.{arith}
use lib.ListN.{length, take}
use Rattle.std.proofs.lemmas.List.{length-take, take_all}
use Rattle.std.specs.Prelude.{None, Ok}
use Rattle.demand.specs.declared.Costs.{Costs}
use Rattle.demand.specs.declared.Charged.{Charged}
use Rattle.demand.specs.Answer.{check_run, tight_figure}
use Rattle.demand.specs.Charge.{core_of}
use Rattle.demand.specs.declared.Record.{Record}
use Rattle.demand.specs.Records.{pieces_in}
use Rattle.demand.specs.Sizes.{Each, run_most}
use Rattle.demand.specs.Ways.Ranges.{Countable, stall_within}
use Rattle.demand.proofs.RecordLaws.{pieces-all, pieces-length}
use Rattle.demand.proofs.ChargeLaws.{stall-within, stall-le}
use Rattle.demand.proofs.RunLaws.{check-taken, taken-countable, laid-ranged}
use Rattle.verdicts.specs.Cores.{lay_records}
use Rattle.verdicts.specs.Ways.Runs.{LaysOut}
use Rattle.verdicts.proofs.CoreLaws.{lay-records-in}

pub lays-out : (c : Costs) (rs : List Record) (qs : List Charged) → check_run c (length rs) (pieces_in rs) ≡ Ok tt → {laid : List Charged} {b : ℕ}
    → laid ≡ lay_records qs c (take run_most (pieces_in rs)) → b ≡ stall_within c → LaysOut c (length rs) (pieces_in rs) laid b
lays-out c rs qs fine {laid} {b} pieces stall =
    let n = length rs in
    let ps = pieces_in rs in
    let ok = check-taken c n ps fine in
    let few : length ps ≤ run_most = omega (arith, ok.few, pieces-length rs) in
    let whole : laid ≡ lay_records qs c ps = rw (take_all run_most ps few) at pieces in
    let all = pieces-all rs in
    let each : Each Countable ps = rw all at (taken-countable c n ps ok) in
    let is : take n laid ≡ core_of c (take n ps) = rw (whole, all) (lay-records-in qs c ok.costs ps each n (sym (pieces-length rs))) in
    record {
      few = ok.few;
      exact = is;
      fits = (omega (arith, ok.few, length-take n laid), laid-ranged c n ps ok (take n laid) is);
      stall-is = stall ∙ stall-within c ok.costs;
      stall-fits = omega (arith, stall, stall-le c);
      taken = fine;
    }

pub tight-none : (c : Costs) (rs : List Record) → length rs ≡ 0 → check_run c (length rs) (pieces_in rs) ≡ Ok tt → tight_figure c (length rs) (pieces_in rs) ≡ Ok None
unfolding tight_figure core_of
tight-none c [] none fine = rw fine refl
tight-none c (r ∷ rs) none fine = absurd (omega (arith, none))
