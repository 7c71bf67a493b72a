-- `demands::blocking_at` meets its contract: the stall counts below the largest window.
use native.Mathlib.Omega.{arith}
use borrow.Author.Tests.{lt-ltb, le-ltb}
use Rattle.demand.specs.Demand.{blocking}
use Rattle.verdicts.proofs.demands.blocking_at.Goals as goal

pub returns-then-t-core : goal.returns-then-t-core
unfolding blocking
returns-then-t-core c =
    let core = c.args.core.now in
    (rw (← core.widest_is, lt-ltb c.args.t core.widest c.if-t-core.true), core.stall_fits)

pub returns-else-t-core : goal.returns-else-t-core
unfolding blocking
returns-else-t-core c =
    let core = c.args.core.now in
    (rw (← core.widest_is, le-ltb c.args.t core.widest c.if-t-core.false), omega arith)
