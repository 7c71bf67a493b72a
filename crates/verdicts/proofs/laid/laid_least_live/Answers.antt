-- `laid::laid_least_live` meets its contract: the definition is the least.
use Rattle.std.proofs.Common.{arith, rules}
use Rattle.std.proofs.lemmas.Grind.{common_steps}
use Rattle.demand.specs.Ways.Ranges.{no_charge}
use Rattle.verdicts.proofs.CoreLaws.{least-live-none, least-live-bounds, least-live-greatest}
use Rattle.verdicts.proofs.laid.laid_least_live.Goals as goal

pub returns : goal.returns
returns c = record {
  exact =
      let qs = c.args.pieces.now in
      let bounds = least-live-bounds qs in
      let greatest = least-live-greatest qs no_charge c.unwrap_or.result (search rules) (search rules) in
      let none = least-live-none qs in
      grind (arith, common_steps, bounds, greatest, none);
}
