-- `split_search::excess_at` meets its contract: w is the largest window, so the test decides the blocking.
use native.Mathlib.Omega.{arith}
use Rattle.demand.proofs.DemandLaws.{demand-below, demand-above}
use Rattle.splits.proofs.split_search.excess_at.Goals as goal

pub returns-then-t-w : goal.returns-then-t-w
returns-then-t-w c =
    let s = c.args in
    omega (arith, c.saturating_sub.ensures, demand-below s.b s.alone.now s.t (omega (arith, c.requires)), (c.sum-loads.ensures.within c.requires.2).0)

pub returns : goal.returns
returns c =
    let s = c.args in
    omega (arith, c.saturating_sub-2.ensures, demand-above s.b s.alone.now s.t (omega (arith, c.requires)), (c.sum-loads.ensures.within c.requires.2).0)
