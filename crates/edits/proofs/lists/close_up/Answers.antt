-- `lists::close_up` meets its contract: what stands behind the place is moved one place up.
-- Assumes nothing.
use Rattle.std.proofs.Common.{rules, ◌≡◌, length}
use Rattle.demand.proofs.RunLaws.{length-mapped}
use Rattle.edits.proofs.ListLaws.{lists-removed}
use Rattle.edits.proofs.lists.close_up.Goals as goal

pub returns : goal.returns
returns c =
    let s = c.args in
    let long : length s.tasks.list ≡ 64 = search (rules, length-mapped) in
    lists-removed s.tasks s.i _ long c.requires.0 c.requires.1 c.copy_within.ensures.after
