-- `starts::tight_end` meets its contract: the last piece needs a window, and from the high end on more is due than the stall leaves room for.
use native.Mathlib.Omega.{arith}
use Rattle.demand.proofs.ChargeLaws.{all-recurs}
use Rattle.splits.proofs.SkipLaws.{ends-lowered}
use Rattle.splits.proofs.starts.tight_end.Goals as goal

pub returns : goal.returns
returns c =
    let s = c.args in
    let g = s.given in
    let qs = s.core.now in (
      ends-lowered g.costs qs g.task (all-recurs qs c.requires.ranged) g.sized c.due_most-most.result c.saturating_sub-end.result
          c.lowered.result c.due_most-most.ensures.0 c.saturating_sub-end.ensures c.lowered.ensures,
      omega (arith, c.lowered.ensures.most, c.saturating_sub-end.ensures),
    )
