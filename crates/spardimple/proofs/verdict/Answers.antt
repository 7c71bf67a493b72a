-- `verdict` meets its contract: the number of what is said of the records.
use mathlib.Core.Path.{ap, ◌∙◌}
use native.Mathlib.Omega.{arith}
use Rattle.demand.specs.Answer.{Told}
use Rattle.spardimple.specs.Numbers.{number, verdict_number}
use Rattle.spardimple.proofs.NumberLaws.{reply-carries}
use Rattle.spardimple.proofs.verdict.Goals as goal

pub number_of-requires : goal.number_of-requires
number_of-requires c = omega (arith, ap (λ (t : Told). t.carries) c.judged.ensures, reply-carries c.args.records.now c.args.costs.now)

pub returns : goal.returns
unfolding verdict_number
returns c = record { exact = c.number_of.ensures ∙ ap number c.judged.ensures }
