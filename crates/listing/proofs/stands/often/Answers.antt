-- `often` meets its contract: what is counted is the same.
use mathlib.Core.Path.{◌≡◌, ap, ◌∙◌}
use borrow.Author.Rules.{rules}
use mathlib.Core.Bool.{Bool}
use lib.Dec.{eqb}
use Rattle.std.specs.Prelude.{count_by}
use Rattle.listing.specs.declared.Ranked.{Ranked}
use Rattle.listing.specs.contracts.RankedPartialEq.TheImpl as ranked_eq
use Rattle.listing.specs.Diff.{same_placed}
use Rattle.listing.specs.Ways.RankArrays.{seat}
use Rattle.listing.proofs.RankLaws.{picked, same-ranked}
use Rattle.listing.proofs.stands.often.Goals as goal

pub returns : goal.returns
returns c =
    let s = c.args in
    let counted : c.count.result ≡ count_by (λ (f : Ranked). (ranked_eq.ghosts).eq f s.e) s.stands.now = search rules in
    let same : (λ (f : Ranked). (ranked_eq.ghosts).eq f s.e) ≡ (λ (f : Ranked). same_placed eqb (seat s.e) (seat f)) = (λ i f. same-ranked s.e f i) in
    counted ∙ (ap (λ (t : Ranked → Bool). count_by t s.stands.now) same ∙ picked seat (same_placed eqb (seat s.e)) s.stands.now)
