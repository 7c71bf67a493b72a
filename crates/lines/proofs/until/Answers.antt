-- `until` meets its contract: by the place of the byte, or by its absence.
-- Assumes nothing.
use mathlib.Core.Path.{refl}
use Rattle.std.proofs.Common.{◌+◌, eqb, rules, tests}
use Rattle.std.proofs.lemmas.Iterator.{YieldsList-from_slice}
use Rattle.std.proofs.lemmas.Iterator.Search.{position_from_yields_List}
use Rattle.std.proofs.lemmas.List.{take_rest}
use Rattle.lines.proofs.LineLaws.{run-found, run-none, until-found, until-none}
use Rattle.lines.proofs.until.Goals as goal

pub returns-in-Some : goal.returns-in-Some
returns-in-Some c =
    let s = c.args.s.now in
    let b = c.args.b in
    let place = position_from_yields_List (λ x. eqb x b) _ _ c.position.result c.position.ensures.ran
    (YieldsList-from_slice s c.iter.ensures.rest) (λ x t q k. search (rules, tests)) in
    let found = run-found b s c.position.result place c.in-Some.e c.in-Some.is in
    let behind = take_rest s (c.in-Some.e + 1) in
    record { exact = until-found b s c.position.result place c.in-Some.e c.in-Some.is _ _ refl behind; run = found.0; others = rw behind found.2 }

pub returns-in-None : goal.returns-in-None
returns-in-None c =
    let s = c.args.s.now in
    let b = c.args.b in
    let place = position_from_yields_List (λ x. eqb x b) _ _ c.position.result c.position.ensures.ran
    (YieldsList-from_slice s c.iter.ensures.rest) (λ x t q k. search (rules, tests)) in
    let none = run-none b s c.position.result place c.in-None.is in
    record { exact = until-none b s c.position.result place c.in-None.is s refl; run = none.0; others = none.1 }
