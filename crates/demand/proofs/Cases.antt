-- K1 to K11 of document 01, and the table H: every row holds, by computing.
-- Assumes nothing.
use mathlib.Core.Path.{◌≡◌, refl}
use mathlib.Core.List.{[]}
use Rattle.demand.specs.Sizes.{sized, sized_costs}
use Rattle.demand.specs.Charge.{charge, ipi_cost, charged, core_of, stall}
use Rattle.demand.specs.Demand.{ceil, jobs_due, interrupts, blocking, load, demand, least_live}
use Rattle.demand.specs.Busy.{least_holding, busy_load, busy_sum, busy_length, tight_sum, tight_window}
use Rattle.demand.specs.Verdict.{verdict, verdict_of}
use Rattle.demand.specs.Split.{late_jitter, piece_of, first_piece, last_piece, tight_first, both_pass, greatest_split}
use Rattle.demand.specs.Answer.{check_run}
use Rattle.demand.specs.Cases.{piece, whole, costs, right, wrong, rows}
use Rattle.demand.specs.Worked.{paid, distinct, cached, only_cost, every_cost, late, often, blocked, charge_rows, blocking_rows, split_rows, size_rows}

pub cases-hold : wrong rows ≡ []
unfolding piece whole costs right wrong rows charge ipi_cost charged core_of stall ceil jobs_due interrupts blocking load demand least_live
    least_holding busy_load busy_sum busy_length tight_sum tight_window verdict verdict_of
cases-hold = refl

pub worked-hold : (wrong charge_rows ≡ []) × (wrong blocking_rows ≡ []) × (wrong split_rows ≡ []) × (wrong size_rows ≡ [])
unfolding paid distinct cached only_cost every_cost late often blocked charge_rows blocking_rows split_rows size_rows piece whole right wrong sized sized_costs
    charge ipi_cost charged core_of stall ceil jobs_due interrupts blocking load demand least_live least_holding busy_load busy_sum busy_length
    tight_sum tight_window verdict verdict_of late_jitter piece_of first_piece last_piece tight_first both_pass greatest_split check_run
worked-hold = (refl, refl, refl, refl)
