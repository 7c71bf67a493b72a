-- `drafts::part_fault` meets its contract: the rules in their order.
-- Assumes nothing.
use mathlib.Core.Path.{◌≡◌, sym, ◌∙◌}
use borrow.Author.Tests.{not-true, not-false, le-ltb, lt-ltb}
use Rattle.std.proofs.Common.{true, false, eqb, rules, tests, length}
use Rattle.std.proofs.lemmas.Iterator.{YieldsList-from_slice}
use Rattle.std.proofs.lemmas.Iterator.Search.{any_from_yields_List}
use Rattle.demand.specs.Sizes.{sized}
use Rattle.task.specs.declared.Part.{Part}
use Rattle.task.specs.Names.{same_name}
use Rattle.task.specs.Tasks.{whole_piece}
use Rattle.task.proofs.TaskLaws.{any-place}
use Rattle.sheet.specs.Sheet.{among_parts, part_free, part_fault}
use Rattle.sheet.specs.Ways.ReaderHolds.{stage_number}
use Rattle.sheet.proofs.drafts.part_fault.Goals as goal

pub returns-then-any : goal.returns-then-any
unfolding part_fault
returns-then-any c =
    let p = c.args.part in
    let ps = c.args.parts.now in
    let at : eqb (stage_number c.args.stage) among_parts ≡ true = search rules in
    let fits : sized (whole_piece p.times) ≡ true = search rules in
    let found = any_from_yields_List (λ (q : Part). same_name p.name q.name) _ _ c.any.result c.any.ensures.ran
    (YieldsList-from_slice ps c.iter.ensures.rest) (λ x b q k. search (rules, tests)) in
    let taken : part_free p.name ps ≡ false = not-true (part_free p.name ps) (sym (found ∙ any-place (λ (q : Part). q.name) p.name 0 ps) ∙ c.if-any.true) in
    rw (at, fits, taken)

pub returns-then-parts-ge-TASKS_MOST : goal.returns-then-parts-ge-TASKS_MOST
unfolding part_fault
returns-then-parts-ge-TASKS_MOST c =
    let p = c.args.part in
    let ps = c.args.parts.now in
    let at : eqb (stage_number c.args.stage) among_parts ≡ true = search rules in
    let fits : sized (whole_piece p.times) ≡ true = search rules in
    let found = any_from_yields_List (λ (q : Part). same_name p.name q.name) _ _ c.any.result c.any.ensures.ran
    (YieldsList-from_slice ps c.iter.ensures.rest) (λ x b q k. search (rules, tests)) in
    let free : part_free p.name ps ≡ true = not-false (part_free p.name ps) (sym (found ∙ any-place (λ (q : Part). q.name) p.name 0 ps) ∙ c.if-any.false) in
    rw (at, fits, free, le-ltb (length ps) 64 c.if-parts-ge-TASKS_MOST.true)

pub returns : goal.returns
unfolding part_fault
returns c =
    let p = c.args.part in
    let ps = c.args.parts.now in
    let at : eqb (stage_number c.args.stage) among_parts ≡ true = search rules in
    let fits : sized (whole_piece p.times) ≡ true = search rules in
    let found = any_from_yields_List (λ (q : Part). same_name p.name q.name) _ _ c.any.result c.any.ensures.ran
    (YieldsList-from_slice ps c.iter.ensures.rest) (λ x b q k. search (rules, tests)) in
    let free : part_free p.name ps ≡ true = not-false (part_free p.name ps) (sym (found ∙ any-place (λ (q : Part). q.name) p.name 0 ps) ∙ c.if-any.false) in
    rw (at, fits, free, lt-ltb (length ps) 64 c.if-parts-ge-TASKS_MOST.false)
