-- The table H for plans and edits: every row holds, by computing.
-- Assumes nothing.
use mathlib.Core.Path.{◌≡◌, refl}
use mathlib.Core.List.{[]}
use Rattle.demand.specs.Lists.{padded}
use Rattle.demand.specs.Sizes.{sized, sized_costs}
use Rattle.demand.specs.Charge.{charge, ipi_cost, charged, core_of, stall}
use Rattle.demand.specs.Demand.{ceil, jobs_due, interrupts, blocking, load, demand, least_live}
use Rattle.demand.specs.Busy.{least_holding, busy_load, busy_sum, busy_length, tight_sum, tight_window}
use Rattle.demand.specs.Split.{piece_of, late_jitter, first_piece, last_piece, tight_first, both_pass, greatest_split}
use Rattle.demand.specs.Verdict.{verdict, verdict_of}
use Rattle.demand.specs.Worked.{paid, only_cost}
use Rattle.task.specs.Names.{name_byte, formed, same_name}
use Rattle.task.specs.Tasks.{whole_piece, sized_machine, fault_of, state_fault}
use Rattle.walks.specs.Halves.{denser}
use Rattle.plan.specs.Walk.{walked}
use Rattle.plan.specs.Layout.{none, put_of}
use Rattle.plan.specs.Plan.{no_plan, plan_of}
use Rattle.edits.specs.Edits.{edit_fault, edit_of}
use Rattle.edits.specs.Worked.{letter, fitted, simple, machine_with, two_letters, crowd, state_with, missed}
use Rattle.edits.specs.Worked.{three, plan_rows, state_rows, add_rows, withdraw_rows, retime_rows, name_with, name_rows}

pub trials-hold : (missed plan_rows ≡ []) × (missed state_rows ≡ []) × (missed add_rows ≡ []) × (missed withdraw_rows ≡ [])
    × (missed retime_rows ≡ []) × (missed name_rows ≡ [])
unfolding letter fitted simple machine_with two_letters crowd state_with missed three plan_rows state_rows add_rows withdraw_rows retime_rows name_with name_rows
    paid only_cost padded sized sized_costs charge ipi_cost charged core_of stall ceil jobs_due interrupts blocking load demand least_live least_holding
    busy_load busy_sum busy_length tight_sum tight_window piece_of late_jitter first_piece last_piece tight_first both_pass greatest_split verdict verdict_of
    name_byte formed same_name whole_piece sized_machine fault_of state_fault denser walked none put_of no_plan plan_of edit_fault edit_of
trials-hold = (refl, refl, refl, refl, refl, refl)
