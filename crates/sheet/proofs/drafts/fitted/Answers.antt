-- `drafts::fitted` meets its contract: the rules in their order, and the part that the search finds.
-- Assumes nothing.
use mathlib.Core.Path.{◌≡◌, sym, ap, ◌∙◌}
use native.Mathlib.Omega.{arith}
use borrow.Author.Tests.{not-true, not-false, eq-eqb, le-ltb, lt-ltb}
use Rattle.std.proofs.Common.{true, false, leb, rules, tests, length}
use Rattle.std.specs.Option.{option_map}
use Rattle.std.proofs.lemmas.Iterator.{YieldsList-from_slice}
use Rattle.std.proofs.lemmas.Iterator.Search.{any_from_yields_List, find_from_yields_List}
use Rattle.task.specs.declared.Task.{Task}
use Rattle.task.specs.Names.{same_name}
use Rattle.task.specs.Tasks.{task_of}
use Rattle.task.proofs.TaskLaws.{any-place}
use Rattle.sheet.specs.Sheet.{among_parts, task_free, part_free, fit_fault}
use Rattle.sheet.specs.Ways.ReaderHolds.{stage_number}
use Rattle.sheet.proofs.DraftLaws.{has_name, found-none, found-some}
use Rattle.sheet.proofs.drafts.fitted.Goals as goal

pub returns-then-any : goal.returns-then-any
unfolding fit_fault
returns-then-any c =
    let n = c.args.task in
    let p = c.args.part in
    let ts = c.args.tasks.now in
    let ps = c.args.parts.now in
    let late : leb among_parts (stage_number c.args.stage) ≡ true = search rules in
    let taken = any_from_yields_List (λ (t : Task). same_name n t.name) _ _ c.any.result c.any.ensures.ran
    (YieldsList-from_slice ts c.iter.ensures.rest) (λ x b q k. search (rules, tests)) in
    let twin : task_free n ts ≡ false = not-true (task_free n ts) (sym (taken ∙ any-place (λ (t : Task). t.name) n 0 ts) ∙ c.if-any.true) in
    rw (late, twin)

pub returns-in_default : goal.returns-in_default
unfolding fit_fault
returns-in_default c =
    let n = c.args.task in
    let p = c.args.part in
    let ts = c.args.tasks.now in
    let ps = c.args.parts.now in
    let late : leb among_parts (stage_number c.args.stage) ≡ true = search rules in
    let taken = any_from_yields_List (λ (t : Task). same_name n t.name) _ _ c.any.result c.any.ensures.ran
    (YieldsList-from_slice ts c.iter.ensures.rest) (λ x b q k. search (rules, tests)) in
    let free : task_free n ts ≡ true = not-false (task_free n ts) (sym (taken ∙ any-place (λ (t : Task). t.name) n 0 ts) ∙ c.if-any.false) in
    let known = find_from_yields_List (has_name p) _ _ c.find.result c.find.ensures.ran
    (YieldsList-from_slice ps c.iter-2.ensures.rest) (λ x b q k. search (rules, tests)) in
    let none : part_free p ps ≡ true = eq-eqb _ 0 (found-none p 1 ps (sym known ∙ ap (option_map (λ x. x.now)) c.in_default.is)) in
    rw (late, free, none)

pub returns-then-tasks-ge-TASKS_MOST : goal.returns-then-tasks-ge-TASKS_MOST
unfolding fit_fault
returns-then-tasks-ge-TASKS_MOST c =
    let n = c.args.task in
    let p = c.args.part in
    let ts = c.args.tasks.now in
    let ps = c.args.parts.now in
    let late : leb among_parts (stage_number c.args.stage) ≡ true = search rules in
    let taken = any_from_yields_List (λ (t : Task). same_name n t.name) _ _ c.any.result c.any.ensures.ran
    (YieldsList-from_slice ts c.iter.ensures.rest) (λ x b q k. search (rules, tests)) in
    let free : task_free n ts ≡ true = not-false (task_free n ts) (sym (taken ∙ any-place (λ (t : Task). t.name) n 0 ts) ∙ c.if-any.false) in
    let known = find_from_yields_List (has_name p) _ _ c.find.result c.find.ensures.ran
    (YieldsList-from_slice ps c.iter-2.ensures.rest) (λ x b q k. search (rules, tests)) in
    let source = found-some p 1 ps c.in-Some.source.now (omega arith) (sym known ∙ ap (option_map (λ x. x.now)) c.in-Some.is) in
    rw (late, free, source.0, le-ltb (length ts) 64 c.if-tasks-ge-TASKS_MOST.true)

pub returns : goal.returns
unfolding fit_fault
returns c =
    let n = c.args.task in
    let p = c.args.part in
    let ts = c.args.tasks.now in
    let ps = c.args.parts.now in
    let late : leb among_parts (stage_number c.args.stage) ≡ true = search rules in
    let taken = any_from_yields_List (λ (t : Task). same_name n t.name) _ _ c.any.result c.any.ensures.ran
    (YieldsList-from_slice ts c.iter.ensures.rest) (λ x b q k. search (rules, tests)) in
    let free : task_free n ts ≡ true = not-false (task_free n ts) (sym (taken ∙ any-place (λ (t : Task). t.name) n 0 ts) ∙ c.if-any.false) in
    let known = find_from_yields_List (has_name p) _ _ c.find.result c.find.ensures.ran
    (YieldsList-from_slice ps c.iter-2.ensures.rest) (λ x b q k. search (rules, tests)) in
    let source = found-some p 1 ps c.in-Some.source.now (omega arith) (sym known ∙ ap (option_map (λ x. x.now)) c.in-Some.is) in
    (rw (late, free, source.0, lt-ltb (length ts) 64 c.if-tasks-ge-TASKS_MOST.false), c.task_of.ensures.exact ∙ ap (task_of n) (sym source.1))
