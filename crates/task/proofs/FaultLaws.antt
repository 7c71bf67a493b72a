-- Laws of refusals by name.
-- Assumes nothing.
--
--   number-some      a refusal has a number, and it is not 0
use Rattle.std.proofs.Common.{◌≡◌, arith}
use Rattle.task.specs.declared.faults.Fault.{Fault}
use Rattle.task.specs.declared.faults.Fault.TheVariants.{Machine, Costs, Times, Twin, Unknown, TooMany, NoRoom, Form, TooLong, TooShort}
use Rattle.task.specs.Faults.{number_of}

pub number-some : (f : Fault) → number_of f ≡ 0 → ⊥
number-some Machine e = absurd (omega arith)
number-some Costs e = absurd (omega arith)
number-some Times e = absurd (omega arith)
number-some Twin e = absurd (omega arith)
number-some Unknown e = absurd (omega arith)
number-some TooMany e = absurd (omega arith)
number-some NoRoom e = absurd (omega arith)
number-some Form e = absurd (omega arith)
number-some TooLong e = absurd (omega arith)
number-some TooShort e = absurd (omega arith)
