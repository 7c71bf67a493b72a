-- `place_of` meets its contract: the place that the search finds.
use Rattle.std.proofs.Common.{rules, tests, ◌∙◌, ap}
use Rattle.std.proofs.lemmas.Iterator.{YieldsList-from_slice}
use Rattle.std.proofs.lemmas.Iterator.Search.{position_from_yields_List}
use Rattle.task.specs.declared.Task.{Task}
use Rattle.task.specs.Names.{same_name}
use Rattle.task.specs.Tasks.{list_of, place_number}
use Rattle.task.proofs.TaskLaws.{position-place}
use Rattle.task.proofs.place_of.Goals as goal

pub returns : goal.returns
returns c =
    let name = c.args.name in
    let found = position_from_yields_List (λ (t : Task). same_name name t.name) _ _ c.position.result c.position.ensures.ran
    (YieldsList-from_slice (list_of c.args.tasks) (c.iter.ensures.rest ∙ c.held.ensures.exact)) (λ x b q k. search (rules, tests)) in
    record { exact = ap place_number found ∙ position-place (λ (t : Task). t.name) name (list_of c.args.tasks) }
