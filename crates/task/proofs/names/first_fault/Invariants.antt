-- `names::first_fault` meets its contract: what is left of the list has the same first fault.
use Rattle.std.proofs.Common.{◌≡◌, [], take, drop}
use Rattle.task.specs.Tasks.{first_fault}
use Rattle.task.proofs.names.first_fault.Given as goal

abbrev pub invariant-loop-place : goal.invariant-loop-place
invariant-loop-place l = first_fault [] l.tasks ≡ first_fault (take l.place l.tasks) (drop l.place l.tasks)
