-- `numbers::note_number` meets its contract: a length, or a refusal, and no refusal has the number 0.
use Rattle.task.proofs.FaultLaws.{number-some}
use native.Mathlib.Omega.{arith}
use borrow.Author.Tests.{ne_eqb}
use Rattle.task.specs.Faults.{number_of}
use Rattle.spardimple.proofs.numbers.note_number.Goals as goal

pub returns-in-Ok : goal.returns-in-Ok
returns-in-Ok c = rw c.in-Ok.is c.numbered.ensures

pub returns-in-Err : goal.returns-in-Err
returns-in-Err c =
    let some = ne_eqb (number_of c.in-Err.why.fault) 0 (number-some c.in-Err.why.fault) in
    rw (c.in-Err.is, some) (omega (arith, c.refusal_number.ensures))
