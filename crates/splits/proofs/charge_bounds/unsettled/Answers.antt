-- `charge_bounds::unsettled` meets its contract: where the climb finds nothing, no greater charge leaves a busy length either.
use mathlib.Core.Path.{◌≡◌, refl, sym, ◌∙◌}
use mathlib.Core.List.{[], ◌∷◌, ◌++◌}
use Rattle.splits.specs.Ways.ChargeBounds.{with_charge, Unsettled}
use Rattle.splits.proofs.BenchLaws.{laid-with}
use Rattle.splits.proofs.ChargeBoundLaws.{unsettled-from}
use Rattle.splits.proofs.MonotoneSearchLaws.{shows-none}
use Rattle.splits.proofs.charge_bounds.unsettled.Goals as goal

pub returns : goal.returns
returns c =
    let s = c.args in
    let qs = s.bench.now.core in
    let r = with_charge s.q s.f in
    let laid : c.both.result ≡ qs ++ (r ∷ []) = c.both.ensures.exact ∙ laid-with qs r c.put.new.self c.put.ensures.core c.put.ensures.tried in (
      shows-none (Unsettled qs s.q s.f) c.busy_length.result c.is_none.result c.is_none.ensures
          (λ none. unsettled-from qs s.q r refl refl refl c.both.result laid (sym c.busy_length.ensures.within ∙ none)),
      c.put.ensures.core,
    )
