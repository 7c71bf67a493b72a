-- `fields::numbers_of` meets its contract: the numbers that are read, and the fields that are left, decide the answer as all the fields do.
-- Assumes nothing.
use mathlib.Core.Path.{◌≡◌, sym, ap, ◌∙◌}
use Rattle.std.proofs.Common.{◌+◌, ◌++◌, [], ◌∷◌, Some, None, length, take, set, arith}
use Rattle.std.proofs.lemmas.List.{take_more_set, length-set, length-replicate}
use lib.Seq.{take_all, length-take-le}
use Rattle.lines.specs.Lines.{tab, up_to, beyond, runs_in, fields}
use Rattle.lines.specs.Forms.{number_in}
use Rattle.lines.proofs.FormLaws.{going, going_none, going-bad, going-more, going-short, going-over, going_all}
use Rattle.lines.proofs.fields.numbers_of.Goals as goal

pub loop-value-init : goal.loop-value-init
loop-value-init g c = (length-replicate g.row.N 0, going_none g.row.N (fields c.args.s.now))

pub returns-in_err-rest : goal.returns-in_err-rest
returns-in_err-rest g c =
    let loop = c.loop-value in
    let us = take loop.value-index loop.value-items in
    let read : length us ≡ loop.value-index = length-take-le loop.value-index loop.value-items (omega (arith, loop.invariant.0)) in
    c.from_residual.ensures
    ∙ sym (loop.invariant.1 ∙ ap (λ r. going g.row.N us (runs_in tab r)) c.in_err-rest.was ∙ going-short g.row.N us (omega (arith, read, c.loop-value-test.true)))

pub returns-in_err-value : goal.returns-in_err-value
returns-in_err-value g c =
    let loop = c.loop-value in
    let us = take loop.value-index loop.value-items in
    let r = c.in_ok-rest.field-0.now in
    let none : number_in (up_to tab r) ≡ None = ap number_in (sym c.until.ensures.run) ∙ sym c.number_of.ensures ∙ c.in_err-value.was in
    c.from_residual-in_err-value.ensures
    ∙ sym (loop.invariant.1 ∙ ap (λ q. going g.row.N us (runs_in tab q)) c.in_ok-rest.was ∙ going-bad g.row.N us (up_to tab r) (beyond tab r) none)

pub loop-value-preserved : goal.loop-value-preserved
loop-value-preserved g c =
    let loop = c.loop-value in
    let us = take loop.value-index loop.value-items in
    let r = c.in_ok-rest.field-0.now in
    let v = c.in_ok-value.field-0 in
    let number : number_in (up_to tab r) ≡ Some v = ap number_in (sym c.until.ensures.run) ∙ sym c.number_of.ensures ∙ c.in_ok-value.was in
    let put : take (loop.value-index + 1) (set loop.value-items loop.value-index v) ≡ us ++ (v ∷ []) =
    take_more_set loop.value-items loop.value-index v (omega (arith, loop.invariant.0, c.loop-value-test.true)) in (
      length-set loop.value-items loop.value-index v ∙ loop.invariant.0,
      loop.invariant.1
          ∙ ap (λ q. going g.row.N us (runs_in tab q)) c.in_ok-rest.was
          ∙ going-more g.row.N us (up_to tab r) (beyond tab r) v number
          ∙ rw (put, c.until.ensures.others),
    )

pub returns-in-Some : goal.returns-in-Some
returns-in-Some g c =
    let loop = c.loop-value in
    let us = take loop.value-index loop.value-items in
    let r = c.in-Some.field-0.now in
    let read : length us ≡ loop.value-index = length-take-le loop.value-index loop.value-items (omega (arith, loop.invariant.0)) in
    sym (loop.invariant.1 ∙ ap (λ q. going g.row.N us (runs_in tab q)) c.in-Some.is
    ∙ going-over g.row.N us (up_to tab r) (beyond tab r) (omega (arith, read, c.loop-value-test.false)))

pub returns-in-None : goal.returns-in-None
returns-in-None g c =
    let loop = c.loop-value in
    let us = take loop.value-index loop.value-items in
    let read : length us ≡ loop.value-index = length-take-le loop.value-index loop.value-items (omega (arith, loop.invariant.0)) in
    let all : us ≡ loop.value-items = take_all loop.value-index loop.value-items (omega (arith, loop.invariant.0, c.loop-value-test.false)) in
    sym (loop.invariant.1 ∙ ap (λ q. going g.row.N us (runs_in tab q)) c.in-None.is
    ∙ going_all g.row.N us (omega (arith, read, c.loop-value-test.false)) ∙ ap Some all)
