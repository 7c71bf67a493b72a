-- `lent::measure` meets its contract: refused by the form, or measured.
use mathlib.Core.Logic.{inl}
use native.Mathlib.Omega.{arith}
use Rattle.spardimple.proofs.LentLaws.{unmeasured, is-measured}
use Rattle.spardimple.proofs.lent.measure.Goals as goal

pub returns-then-records-ne0 : goal.returns-then-records-ne0
returns-then-records-ne0 c =
    inl (unmeasured c.args.records.now c.args.costs.now (λ whole nine. omega (arith, c.then-records-ne0.either, whole, nine)), c.from.ensures)

pub returns : goal.returns
returns c = is-measured c.args.records.now c.args.costs.now c.if-records-ne0.false c.if-costs-ne36.false
