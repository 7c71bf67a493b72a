-- `starts::start_of` meets its contract: no allowed split is above what is left below the end, nor above what the core has room for in the widest of
-- their windows.
use mathlib.Core.Path.{refl, sym, ap, subst, ◌∙◌}
use Prim.Native.Nat.{ℕ, ◌+◌, ◌-◌}
use native.Mathlib.Omega.{arith}
use Rattle.demand.specs.declared.Charged.{Charged}
use Rattle.demand.proofs.ChargeLaws.{all-recurs}
use Rattle.demand.proofs.ChargedSplitLaws.{first-charge}
use Rattle.splits.specs.Ways.SplitSearch.{Starts}
use Rattle.splits.proofs.BenchLaws.{first-behind}
use mathlib.Core.List.{List}
use Rattle.demand.specs.Charge.{charged, stall}
use Rattle.demand.specs.Demand.{least_live}
use Rattle.demand.specs.Split.{first_piece}
use Rattle.demand.specs.Ways.ChargedSplit.{with_first}
use Rattle.splits.proofs.BenchLaws.{first-behind}
use Rattle.splits.proofs.ChargeBoundLaws.{caps-as}
use Rattle.splits.proofs.SkipLaws.{starts_none, starts-capped}
use Rattle.splits.proofs.starts.start_of.Goals as goal

pub returns-then-x-eq0 : goal.returns-then-x-eq0
returns-then-x-eq0 c =
    let s = c.args in
    let g = s.given in
    let qs = s.bench.now.core in
    let starts =
    starts_none g.costs qs g.task (all-recurs qs c.core.ensures.ready.ranged) g.sized c.tight_end-end.result c.min-x.result
    (rw c.core.ensures.exact at c.tight_end-end.ensures.0) (omega (arith, c.min-x.ensures, c.saturating_sub.ensures, c.requires.0)) in
    (subst (λ (x : ℕ). Starts g.costs qs g.task x) c.if-x-eq0.true starts, refl)

pub overflow_sub-q : goal.overflow_sub-q
overflow_sub-q c =
    let g = c.args.given in
    omega (arith, ap (λ (q : Charged). q.charge) c.first-q.ensures.exact, first-charge g.costs g.task c.min-x.result (g.task.jitter + (c.tight_end-end.result - 1)))

pub returns : goal.returns
returns c =
    let s = c.args in
    let g = s.given in
    let qs = s.bench.now.core in
    let recurs = all-recurs qs c.core.ensures.ready.ranged in
    let end = c.tight_end-end.result in
    let x = c.min-x.result in
    let w = g.task.jitter + (end - 1) in
    let q = charged g.costs (first_piece g.task x w) in
    let is = c.first-q.ensures.exact in
    let ends = rw c.core.ensures.exact at c.tight_end-end.ensures.0 in
    let starts = starts_none g.costs qs g.task recurs g.sized end x ends (omega (arith, c.min-x.ensures, c.saturating_sub.ensures, c.requires.0)) in
    let laid = c.both.ensures.exact ∙ first-behind g.costs qs g.task x w c.put.new.self c.put.ensures.core (c.put.ensures.tried ∙ is) in
    let start = c.least_live-a.ensures.exact ∙ ap (λ (rs : List Charged). least_live rs) laid in
    let caps =
    caps-as c.stall.result (stall g.costs) c.core-2.result qs c.first-q.result q c.first-q.result.charge c.least_live-a.result (least_live (with_first g.costs qs g.task x w)) c.cap_of-cap.result
    c.stall.ensures.exact (c.core-2.ensures.exact ∙ c.put.ensures.core) is start c.cap_of-cap.ensures in
    let capped =
    starts-capped g.costs qs g.task recurs g.sized end x w c.first-q.result.charge c.cap_of-cap.result ends starts refl (ap (λ (r : Charged). r.charge) is) caps in
    (subst (λ (y : ℕ). Starts g.costs qs g.task y) (sym c.saturating_sub-2.ensures) capped, c.put.ensures.core)
