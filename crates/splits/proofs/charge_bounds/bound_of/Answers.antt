-- `charge_bounds::bound_of` meets its contract: the cap of the far length and the short walk, the probes where there is no busy length, or
-- what the busy length tells.
use mathlib.Core.Path.{refl, sym, ap, ◌∙◌}
use Rattle.demand.specs.declared.Charged.{Charged}
use Rattle.demand.proofs.BusyLaws.{busy-length-within}
use Rattle.splits.specs.Ways.Bench.{both}
use Rattle.splits.proofs.ChargeBoundLaws.{unsettled-from}
use Rattle.splits.proofs.charge_bounds.bound_of.Goals as goal

pub busy_cap-requires-clause-unsettled : goal.busy_cap-requires-clause-unsettled
busy_cap-requires-clause-unsettled c =
    let t = c.args.bench.now in
    let q = c.tried-q.result in
    let laid = c.both-2.ensures.exact ∙ sym (ap (λ (r : Charged). both (record t { tried = r })) c.tried-q.ensures.exact) in
    (c.guess-from.ensures, unsettled-from t.core q q refl refl refl c.both-2.result laid (sym c.busy_length.ensures.within ∙ c.in-None.is))

pub bound_within-requires-clause-bounds : goal.bound_within-requires-clause-bounds
bound_within-requires-clause-bounds c =
    (c.requires.0, c.least_live-a.ensures.within, busy-length-within c.both-2.result c.in-Some.l (sym c.busy_length.ensures.within ∙ c.in-Some.is), c.requires.1)
