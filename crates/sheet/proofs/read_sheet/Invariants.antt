-- `read_sheet` meets its contract: the draft holds what stands above a line, and the runs that are left decide the outcome as the whole sheet does.
-- The measure is how many lines are left.
-- Assumes nothing.
use lib.ListN.{length}
use Rattle.lines.specs.Lines.{newline, runs_in}
use Rattle.sheet.proofs.ReadLaws.{Reading}
use Rattle.sheet.proofs.read_sheet.Given as goal

abbrev pub invariant-loop-rest : goal.invariant-loop-rest
invariant-loop-rest l = Reading l.bytes l.draft l.run (runs_in newline l.rest) l.line

abbrev pub decreases-loop-rest : goal.decreases-loop-rest
decreases-loop-rest l = length (runs_in newline l.rest)
