-- `charge_bounds::fit_stalled` meets its contract: the two sums with q behind tell what it asks for beside its jobs, and how many jobs there are.
use mathlib.Core.Path.{◌∙◌}
use native.Mathlib.Omega.{arith}
use Rattle.splits.specs.Ways.ChargeBounds.{with_charge}
use Rattle.splits.proofs.BenchLaws.{laid-with}
use Rattle.splits.proofs.ChargeBoundLaws.{stalled-rest, stalled-jobs, stalled-over, stalled-fits}
use Rattle.splits.proofs.charge_bounds.fit_stalled.Goals as goal

pub returns-then-t-b : goal.returns-then-t-b
returns-then-t-b c =
    let s = c.args in
    let qs = s.bench.now.core in
    let same = c.put-2.ensures.core ∙ c.put.ensures.core in
    let first = c.both.ensures.exact ∙ laid-with qs (with_charge s.q 0) c.put.new.self c.put.ensures.core c.put.ensures.tried in
    let second = c.both-2.ensures.exact ∙ laid-with qs (with_charge s.q 1) c.put-2.new.self same c.put-2.ensures.tried in
    let rest = stalled-rest qs s.q s.t c.both.result c.sum-rest.result first (c.sum-rest.ensures.within c.requires.bounds.2).0 in
    let jobs =
    stalled-jobs qs s.q s.t c.both-2.result c.sum.result c.sum-rest.result c.saturating_sub-jobs.result second (c.sum.ensures.within c.requires.bounds.2).0 rest c.saturating_sub-jobs.ensures in
    (stalled-over qs s.q s.t s.b c.sum-rest.result c.saturating_sub-jobs.result rest jobs c.requires.bounds.1 c.if-t-b.true, same)

pub returns : goal.returns
returns c =
    let s = c.args in
    let qs = s.bench.now.core in
    let same = c.put-2.ensures.core ∙ c.put.ensures.core in
    let first = c.both.ensures.exact ∙ laid-with qs (with_charge s.q 0) c.put.new.self c.put.ensures.core c.put.ensures.tried in
    let second = c.both-2.ensures.exact ∙ laid-with qs (with_charge s.q 1) c.put-2.new.self same c.put-2.ensures.tried in
    let rest = stalled-rest qs s.q s.t c.both.result c.sum-rest.result first (c.sum-rest.ensures.within c.requires.bounds.2).0 in
    let jobs =
    stalled-jobs qs s.q s.t c.both-2.result c.sum.result c.sum-rest.result c.saturating_sub-jobs.result second (c.sum.ensures.within c.requires.bounds.2).0 rest c.saturating_sub-jobs.ensures in
    (stalled-fits qs s.q s.t s.b c.sum-rest.result c.saturating_sub-jobs.result rest jobs c.requires.bounds.1 c.if-t-b.false (omega (arith, c.if-jobs-eq0.false)) c.min.result c.min.ensures, same)
