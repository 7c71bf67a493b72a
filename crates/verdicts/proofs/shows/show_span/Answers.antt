-- `shows::show_span` meets its contract: the search tells the verdict, and its own length or the least slack is shown.
use mathlib.Core.Path.{◌≡◌, sym, ap, ◌∙◌}
use Prim.Native.Nat.{ℕ, ◌-◌}
use Rattle.demand.specs.Demand.{demand, least_live}
use Rattle.demand.specs.Verdict.{scan}
use Rattle.demand.specs.Why.{least_slack}
use Rattle.demand.proofs.BusyLaws.{busy-length-within, busy-length-some}
use Rattle.demand.proofs.WhyLaws.{shown-over, shown-calm}
use Rattle.verdicts.proofs.HuntLaws.{hit-scans, quiet-scans}
use Rattle.verdicts.proofs.shows.show_span.Goals as goal

pub seek-requires : goal.seek-requires
seek-requires c =
    let qs = c.args.core.now.pieces.now in
    (c.requires.2, busy-length-some qs c.args.l c.requires.3, busy-length-within qs c.args.l c.requires.3)

pub returns-in-Over : goal.returns-in-Over
returns-in-Over c =
    let s = c.args in
    let b = s.core.now.stall in
    let qs = s.core.now.pieces.now in
    let hit = c.in-Over.hit in
    let so = c.in-Over.ensures in
    let over = hit-scans b qs s.a s.l hit.length so.0 ∙ ap (λ (a : ℕ). scan b qs a s.l) c.requires.1 in
    rw (c.blocking_at.ensures.0, so.1) (sym (shown-over b qs c.requires.0 s.l c.requires.3 hit.length over))

pub returns-in-Least : goal.returns-in-Least
returns-in-Least c =
    let s = c.args in
    let b = s.core.now.stall in
    let qs = s.core.now.pieces.now in
    let so = c.in-Least.ensures in
    let calm = quiet-scans b qs s.a s.l so.0 ∙ ap (λ (a : ℕ). scan b qs a s.l) c.requires.1 in
    let least : c.in-Least.calm.length ≡ least_slack (demand b qs) (least_live qs) (s.l - 1) = so.1 ∙ ap (λ (a : ℕ). least_slack (demand b qs) a (s.l - 1)) c.requires.1 in
    rw (c.blocking_at-in-Least.ensures.0, so.2, least) (sym (shown-calm b qs c.requires.0 s.l c.requires.3 calm))
