-- `laid::laid_largest_window` meets its contract: the definition is the greatest.
use Rattle.std.proofs.Common.{refl, arith, rules}
use Rattle.std.proofs.lemmas.Grind.{common_steps}
use Rattle.std.proofs.lemmas.List.Recursion.{max_bounds, max_least}
use Rattle.demand.specs.declared.Charged.{Charged}
use Rattle.demand.specs.Demand.{largest_window}
use Rattle.demand.specs.Ways.Ranges.{no_charge}
use Rattle.verdicts.proofs.laid.laid_largest_window.Goals as goal

pub returns : goal.returns
returns c = record {
  exact =
      let qs = c.args.pieces.now in
      let bounds = max_bounds largest_window (λ (q : Charged). q.window) refl (λ _ _. refl) qs in
      let least = max_least largest_window (λ (q : Charged). q.window) refl (λ _ _. refl) qs no_charge c.unwrap_or.result (search rules) in
      grind (arith, common_steps, bounds, least);
}
