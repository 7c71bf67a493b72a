-- `demands::jobs_due` meets its contract: each return is `jobs_due` with the test that led there decided. Nothing wraps, since t and the
-- jitter are within their sizes and a quotient is at most its dividend.
use Prim.Native.Nat.{◌+◌, ◌-◌}
use native.Mathlib.Omega.{arith}
use native.Mathlib.Nat.{div-le_self}
use mathlib.Core.Path.{sym}
use Rattle.demand.proofs.DemandLaws.{jobs-due-none, jobs-due-some}
use borrow.Author.Rules.{rules}
use Rattle.verdicts.proofs.demands.jobs_due.Goals as goal

pub returns-then-t-q : goal.returns-then-t-q
returns-then-t-q c =
    let a = c.args in
    (sym (jobs-due-none a.q a.t c.if-t-q.true), search rules)

pub returns : goal.returns
returns c =
    let a = c.args in
    (sym (jobs-due-some a.q a.t c.if-t-q.false), omega (arith, div-le_self (a.t + a.q.jitter - a.q.window) a.q.period))
