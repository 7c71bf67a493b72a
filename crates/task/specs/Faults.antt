-- Refusals by name, and their numbers: document 01, "Refusal numbers". The definitions of what is refused speak of numbers, as the document does; 0 is none.
--
--   number_of f           the number of the refusal f
--   fault_number r        that of an answer: 0 where nothing is refused
--   refused_as why        what it is here that a run of records is refused
use Rattle.std.specs.Prelude.{ℕ, Result, Ok, Err}
use Rattle.demand.specs.declared.Refusal.{Refusal}
use Rattle.demand.specs.declared.Refusal.TheVariants.{TooMany as TooManyRecords, BadCosts, BadRecord}
use Rattle.task.specs.declared.faults.Refused.{Refused}
use Rattle.task.specs.declared.faults.Fault.{Fault}
use Rattle.task.specs.declared.faults.Fault.TheVariants.{Machine, Costs, Times, Twin, Unknown, TooMany, NoRoom, Form, TooLong, TooShort}

abbrev pub number_of : Fault → ℕ
number_of Machine = 1
number_of Costs = 2
number_of Times = 3
number_of Twin = 4
number_of Unknown = 5
number_of TooMany = 6
number_of NoRoom = 7
number_of Form = 8
number_of TooLong = 9
number_of TooShort = 10

abbrev pub fault_number : Result Unit Fault → ℕ
fault_number (Ok done) = 0
fault_number (Err f) = number_of f

abbrev pub refused_as : Refusal → Refused
refused_as TooManyRecords = record { fault = TooMany; carries = 0 }
refused_as BadCosts = record { fault = Costs; carries = 0 }
refused_as (BadRecord place) = record { fault = Times; carries = place }
