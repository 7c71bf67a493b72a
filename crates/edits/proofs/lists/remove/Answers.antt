-- `lists::remove` meets its contract: an edit without a fault finds its task.
-- Assumes nothing.
use Rattle.std.proofs.Common.{rules, ◌≡◌, ◌∙◌, sym, ap, length, suc}
use Rattle.demand.proofs.RunLaws.{length-mapped}
use Rattle.task.specs.Tasks.{list_of, place_number, place_of}
use Rattle.edits.proofs.ListLaws.{place-low, lists-less}
use Rattle.edits.proofs.EditLaws.{withdraw-known, found-there}
use Rattle.edits.proofs.lists.remove.Goals as goal

pub unwrap-place-requires : goal.unwrap-place-requires
unwrap-place-requires c =
    let s = c.args in
    found-there s.name (list_of s.tasks) c.place_of.result c.place_of.ensures.exact (withdraw-known s.name (list_of s.tasks) c.requires.1)

pub close_up-requires : goal.close_up-requires
close_up-requires c =
    let s = c.args in
    let long : length s.tasks.list ≡ 64 = search (rules, length-mapped) in
    let place : suc c.unwrap-place.result ≡ place_of 1 s.name (list_of s.tasks) = sym (ap place_number c.unwrap-place.ensures) ∙ c.place_of.ensures.exact in
    (c.requires.0, place-low s.tasks long c.requires.0 s.name c.unwrap-place.result place)

pub returns : goal.returns
returns c =
    let s = c.args in
    let long : length s.tasks.list ≡ 64 = search (rules, length-mapped) in
    let place : suc c.unwrap-place.result ≡ place_of 1 s.name (list_of s.tasks) = sym (ap place_number c.unwrap-place.ensures) ∙ c.place_of.ensures.exact in
    lists-less s.tasks long c.requires.0 s.name c.unwrap-place.result place c.close_up.result c.close_up.ensures
