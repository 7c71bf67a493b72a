-- `write_diff` meets its contract: both plans are laid out once, and their writer writes how they differ.
use native.Mathlib.Omega.{arith}
use borrow.Author.Rules.{rules}
use lib.ListN.{length-take}
use Rattle.listing.specs.Diff.{diff_of}
use Rattle.listing.proofs.DiffPlanLaws.{stands-low, diff-wrote}
use Rattle.listing.proofs.write_diff.Goals as goal

pub write_whole-requires : goal.write_whole-requires
write_whole-requires c =
    let s = c.args in
    let first-low = stands-low s.first.layout c.lay_ranks.new.ranks _ c.lay_stands-n.ensures.0 in
    let second-low = stands-low s.second.layout c.lay_ranks-2.new.ranks _ c.lay_stands-m.ensures.0 in
    record { at = λ a. search (rules, arith) }

pub returns : goal.returns
returns c = record {
  exact =
      let s = c.args in
      let whole = c.write_whole.ensures (diff_of s.first s.second) (λ lent left r e. (
        diff-wrote s.first s.second c.lay_ranks.new.ranks c.lay_ranks-2.new.ranks _ _ r _ left.now c.lay_ranks.ensures c.lay_ranks-2.ensures c.lay_stands-n.ensures.0
            c.lay_stands-m.ensures.0 (search rules),
        search (rules, length-take c.lay_stands-n.result c.lay_stands-n.new.stands, length-take c.lay_stands-m.result c.lay_stands-m.new.stands),
      )) in
      (whole.0, whole.1, omega (arith, whole.2, c.lay_stands-n.ensures.1, c.lay_stands-m.ensures.1));
}
