-- `demands::ceil_div` meets its contract: it is the definition, and a ceiling is at most its dividend.
use native.Mathlib.Omega.{arith}
use Rattle.demand.specs.Demand.{ceil}
use Rattle.demand.proofs.Division.{ceil-le}
use borrow.Author.Rules.{rules}
use Rattle.verdicts.proofs.demands.ceil_div.Goals as goal

pub returns : goal.returns
returns c = (unfold ceil in search rules, unfold ceil in omega (arith, ceil-le c.args.a {k = c.args.b} (search rules)))
