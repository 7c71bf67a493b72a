-- What a plan is, whichever walk made it: document 01, "The C=D walk". Every item is divided into pieces, in order.
--
--   Kinds ks             the kinds of an item's pieces: whole, or first and last
--   Divides m w l        the spots l divide the whole piece w: right kinds, on different cores below m, budgets of at least 1 that add to C, windows that add to D
--   Shares Q past items log   log is, item by item and in order, spots that have Q of what was placed before them and of the item; past was placed before all
use Rattle.std.specs.Prelude.{◌≡◌, List, [], ◌∷◌, ◌++◌, map, ℕ, ◌≤◌, ◌<◌}
use Rattle.demand.specs.declared.Kind.{Kind}
use Rattle.demand.specs.declared.Kind.TheVariants.{Whole, First, Last}
use Rattle.demand.specs.declared.Piece.{Piece}
use Rattle.demand.specs.Sizes.{Each}
use Rattle.walks.specs.Lists.{Apart, sum_by}
use Rattle.walks.specs.Way.{Spot, Placed, placed_as}

pub data Kinds : List Kind → Type 0 where
  in-one : Kinds (Whole ∷ [])
  in-two : Kinds (First ∷ Last ∷ [])

pub record Divides (m : ℕ) (w : Piece) (l : List Spot) : Type 0 where
  pub kinds : Kinds (map (λ e. e.piece.kind) l)
  pub apart : Apart (λ e. e.on) l
  pub within : Each (λ e. e.on < m) l
  pub some : Each (λ e. 1 ≤ e.piece.budget) l
  pub budgets : sum_by (λ e. e.piece.budget) l ≡ w.budget
  pub windows : sum_by (λ e. e.piece.window) l ≡ w.window

pub data Shares {A : Type 0} (Q : List (Placed A) → A → List Spot → Type 0) : List (Placed A) → List A → List (Placed A) → Type 0 where
  nil : {past : List (Placed A)} → Shares Q past [] []
  more : {past : List (Placed A)} {a : A} {k : List Spot} {l : List (Placed A)} {rest : List A} → Q past a k → Shares Q (past ++ map (placed_as a) k) rest l → Shares Q past (a ∷ rest) (map (placed_as a) k ++ l)
