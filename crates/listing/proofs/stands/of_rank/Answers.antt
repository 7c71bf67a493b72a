-- `of_rank` meets its contract: what is counted has that rank.
use mathlib.Core.Path.{◌≡◌, ◌∙◌}
use borrow.Author.Rules.{rules}
use Prim.Native.Nat.{ℕ}
use lib.Dec.{eqb}
use Rattle.std.specs.Prelude.{count_by}
use Rattle.walks.specs.Way.{Placed}
use Rattle.listing.specs.declared.Ranked.{Ranked}
use Rattle.listing.specs.Ways.RankArrays.{seat}
use Rattle.listing.proofs.RankLaws.{picked}
use Rattle.listing.proofs.stands.of_rank.Goals as goal

pub returns : goal.returns
returns c =
    let s = c.args in
    let counted : c.count.result ≡ count_by (λ (e : Ranked). eqb e.rank s.rank) s.stands.now = search rules in
    counted ∙ picked seat (λ (e : Placed ℕ). eqb e.item s.rank) s.stands.now
