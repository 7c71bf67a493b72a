-- A core on the bench, and behind it the piece that is tried. It is a way and no meaning.
--
--   OnBench        the pieces of the core, and the piece
--   both t       the core with the piece behind
--   Weighs q     q is charged something
--   Ready qs     the pieces qs are fit to be counted with, and there is room for one more
use Rattle.std.specs.Prelude.{List, [], ◌∷◌, ◌++◌, ◌≤◌, ◌<◌, length}
use Rattle.demand.specs.declared.Charged.{Charged}
use Rattle.demand.specs.Sizes.{run_most, Each}
use Rattle.demand.specs.Ways.Ranges.{Ranged}

pub record OnBench : Type 0 where
  pub core : List Charged
  pub tried : Charged

abbrev pub both : OnBench → List Charged
both t = t.core ++ (t.tried ∷ [])

pub record Weighs (q : Charged) : Type 0 where
  pub some : 1 ≤ q.charge

pub record Ready (qs : List Charged) : Type 0 where
  pub room : length qs < run_most
  pub ranged : Each Ranged qs
  pub weighs : Each Weighs qs
