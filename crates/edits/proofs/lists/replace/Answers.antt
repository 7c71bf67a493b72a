-- `lists::replace` meets its contract: an edit without a fault finds its task.
-- Assumes nothing.
use Rattle.std.proofs.Common.{rules, arith, ◌≡◌, ◌∙◌, sym, ap, refl, length, suc}
use Rattle.demand.proofs.RunLaws.{length-mapped}
use Rattle.task.specs.Tasks.{list_of, place_number, place_of}
use Rattle.edits.proofs.ListLaws.{place-low, lists-put}
use Rattle.edits.proofs.EditLaws.{retime-known, found-there}
use Rattle.edits.proofs.lists.replace.Goals as goal

pub unwrap-place-requires : goal.unwrap-place-requires
unwrap-place-requires c =
    let s = c.args in
    found-there s.task.name (list_of s.tasks) c.place_of.result c.place_of.ensures.exact (retime-known s.task (list_of s.tasks) c.requires.1)

pub offset_bounds-next-place : goal.offset_bounds-next-place
offset_bounds-next-place c =
    let s = c.args in
    let long : length s.tasks.list ≡ 64 = search (rules, length-mapped) in
    let place : suc c.unwrap-place.result ≡ place_of 1 s.task.name (list_of s.tasks) = sym (ap place_number c.unwrap-place.ensures) ∙ c.place_of.ensures.exact in
    record { fits = omega (arith, c.requires.0, place-low s.tasks long c.requires.0 s.task.name c.unwrap-place.result place) }

pub bounds-next-place : goal.bounds-next-place
bounds-next-place c =
    let s = c.args in
    let long : length s.tasks.list ≡ 64 = search (rules, length-mapped) in
    let place : suc c.unwrap-place.result ≡ place_of 1 s.task.name (list_of s.tasks) = sym (ap place_number c.unwrap-place.ensures) ∙ c.place_of.ensures.exact in
    omega (arith, c.requires.0, place-low s.tasks long c.requires.0 s.task.name c.unwrap-place.result place)

pub returns : goal.returns
returns c =
    let s = c.args in
    let long : length s.tasks.list ≡ 64 = search (rules, length-mapped) in
    let place : suc c.unwrap-place.result ≡ place_of 1 s.task.name (list_of s.tasks) = sym (ap place_number c.unwrap-place.ensures) ∙ c.place_of.ensures.exact in
    lists-put s.tasks long c.requires.0 s.task.name c.unwrap-place.result place s.task refl
