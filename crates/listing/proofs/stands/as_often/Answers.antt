-- `as_often` meets its contract: each that has the rank is as often.
use mathlib.Core.Path.{◌≡◌, ◌∙◌}
use mathlib.Core.Bool.{not, ◌||◌}
use Prim.Native.Nat.{ℕ}
use borrow.Author.Rules.{rules}
use borrow.Author.Tests.{tests}
use lib.Dec.{eqb}
use Rattle.std.specs.List.{list_all}
use Rattle.std.proofs.lemmas.Iterator.{YieldsList-from_slice}
use Rattle.std.proofs.lemmas.Iterator.Search.{all_from_yields_List}
use Rattle.walks.specs.Way.{Placed}
use Rattle.listing.specs.declared.Ranked.{Ranked}
use Rattle.listing.specs.Diff.{as_often}
use Rattle.listing.specs.Ways.RankArrays.{seat, placed}
use Rattle.listing.proofs.RankLaws.{all-picked}
use Rattle.listing.proofs.stands.as_often.Goals as goal

pub returns : goal.returns
returns c =
    let s = c.args in
    let l = placed s.stands.now in
    let k = placed s.others.now in
    let mine = λ (e : Placed ℕ). eqb e.item s.rank in
    let told : c.all.result ≡ list_all (λ (e : Ranked). not (mine (seat e)) || as_often eqb l k (seat e)) s.stands.now =
    all_from_yields_List (λ (e : Ranked). not (mine (seat e)) || as_often eqb l k (seat e)) _ _ c.all.result c.all.ensures.ran (YieldsList-from_slice s.stands.now cc) (λ x b q k. search (rules, tests)) in
    told ∙ all-picked mine (as_often eqb l k) s.stands.now
