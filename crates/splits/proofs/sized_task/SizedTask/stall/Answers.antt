-- `SizedTask::stall` meets its contract: the costs are within their sizes.
use mathlib.Core.Path.{◌∙◌}
use native.Mathlib.Omega.{arith}
use Rattle.demand.proofs.ChargeLaws.{stall-within, stall-le}
use Rattle.splits.proofs.sized_task.SizedTask.stall.Goals as goal

pub returns : goal.returns
returns c = record {
  exact = c.stall_of.ensures.exact ∙ stall-within c.args.self.costs c.args.self.costs_sized;
  within = omega (arith, c.stall_of.ensures.exact, stall-le c.args.self.costs);
}
