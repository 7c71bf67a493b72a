-- `release_sums::held_from` meets its contract: marks that are all 0 are made those of the core, and walked over.
use Prim.Native.Nat.{ℕ}
use lib.ListN.{length-replicate}
use Rattle.verdicts.proofs.ReleaseSumLaws.{under_none}
use Rattle.verdicts.proofs.release_sums.held_from.Goals as goal

pub mark_all-requires : goal.mark_all-requires
mark_all-requires c =
    (c.requires.0, length-replicate {A = ℕ} 1024 0, under_none 1024)
