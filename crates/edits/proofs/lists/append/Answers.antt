-- `lists::append` meets its contract: an edit without a fault finds room.
-- Assumes nothing.
use Rattle.std.proofs.Common.{rules, ◌≡◌, length}
use Rattle.demand.proofs.RunLaws.{length-mapped}
use Rattle.edits.proofs.ListLaws.{lists-more}
use Rattle.edits.proofs.EditLaws.{add-less}
use Rattle.edits.proofs.lists.append.Goals as goal

pub bounds-next-tasks : goal.bounds-next-tasks
bounds-next-tasks c =
    let s = c.args in
    let long : length s.tasks.list ≡ 64 = search (rules, length-mapped) in
    add-less s.tasks long c.requires.0 s.task c.requires.1

pub returns : goal.returns
returns c =
    let s = c.args in
    let long : length s.tasks.list ≡ 64 = search (rules, length-mapped) in
    lists-more s.tasks long c.requires.0 s.task (add-less s.tasks long c.requires.0 s.task c.requires.1)
