-- `stretches::stretch_start` meets its contract: the start never falls.
use Rattle.std.proofs.Common.{◌≤◌}
use Rattle.verdicts.proofs.stretches.stretch_start.Given as goal

abbrev pub invariant-loop-q : goal.invariant-loop-q
invariant-loop-q l = l.from ≤ l.start
