-- A way to place items on cores, and the walk that goes by it: document 01, "The C=D walk", with what is special to C=D left open (`Halves` has it).
-- A way knows a state, an item and pieces. That a piece is of an item is the walk's to say, so a walk over places in a list is the walk over its tasks.
--
--   Spot               a piece, and the core that it is on, from 0
--   Landing S          what becomes of one item: the new state and the spots that it gets; or a refusal's number
--   Way A              which item beats which in packing order, a state to begin with, and where an item goes from a state
--   Placed A           a piece, the item that it is of, and the core that it is on
--   Ending S A         a walk at its end: its state and what it placed, in placement order; or the item that it stuck at and the refusal's number
--   walk W s items     the items in turn, from the state s
--   walk_over W items   the same from the beginning
--   walk_of W items     the walk over all items in packing order, from the beginning
--   placed_until W s items      what is placed before the first item that is refused, or of all of them, in placement order
--   SticksAt W s items a n     a is the first of the items that has no place: those ahead of it are placed, and where they end it is refused with n
--   through f W        the same way for items that stand for others: places in a list for its tasks
--   relabelled f o     the same ending, of what the items stand for
--   on_core q log       what is on core q, in placement order
--   row_of q log        its row of pieces
use Rattle.std.specs.Prelude.{◌≡◌, Bool, List, [], ◌∷◌, ◌++◌, map, ℕ, eqb}
use Rattle.demand.specs.declared.Piece.{Piece}
use Rattle.walks.specs.Lists.{only}
use Rattle.walks.specs.Order.{pack}

pub record Spot : Type 0 where
  pub on : ℕ
  pub piece : Piece

pub data Landing (S : Type 0) : Type 0 where
  lands : S → List Spot → Landing S
  refuses : ℕ → Landing S

pub record Way (A : Type 0) : Type 1 where
  pub beats : A → A → Bool
  pub State : Type 0
  pub begin : State
  pub place : State → A → Landing State

pub record Placed (A : Type 0) : Type 0 where
  pub on : ℕ
  pub item : A
  pub piece : Piece

pub data Ending (S A : Type 0) : Type 0 where
  fine : S → List (Placed A) → Ending S A
  stuck : A → ℕ → Ending S A

-- ---- the walk

abbrev pub placed_as : {A : Type 0} → A → Spot → Placed A
placed_as a e = record { on = e.on; item = a; piece = e.piece }

abbrev pub landed : {S A : Type 0} → A → Landing S → Ending S A
landed a (lands s l) = fine s (map (placed_as a) l)
landed a (refuses n) = stuck a n

-- what was placed before, and then this
abbrev pub behind : {S A : Type 0} → List (Placed A) → Ending S A → Ending S A
behind log (fine s l) = fine s (log ++ l)
behind log (stuck a n) = stuck a n

-- on from where a walk ends
abbrev pub onward : {S A : Type 0} → Ending S A → (S → Ending S A) → Ending S A
onward (fine s l) go = behind l (go s)
onward (stuck a n) go = stuck a n

-- the same of what is placed: where a walk sticks, nothing more is
abbrev pub onward_placed : {S A : Type 0} → Ending S A → (S → List (Placed A)) → List (Placed A)
onward_placed (fine s l) go = l ++ go s
onward_placed (stuck a n) go = []

module _ {A : Type 0} (W : Way A) where
  abbrev pub walk : W.State → List A → Ending W.State A
  walk s [] = fine s []
  walk s (a ∷ rest) = onward (landed a (W.place s a)) (λ t. walk t rest)

  abbrev pub walk_over : List A → Ending W.State A
  walk_over items = walk W.begin items

  abbrev pub walk_of : List A → Ending W.State A
  walk_of items = walk_over (pack W.beats items)

  abbrev pub placed_until : W.State → List A → List (Placed A)
  placed_until s [] = []
  placed_until s (a ∷ rest) = onward_placed (landed a (W.place s a)) (λ t. placed_until t rest)

-- a is the first of the items that has no place
pub record SticksAt {A : Type 0} (W : Way A) (s : W.State) (items : List A) (a : A) (n : ℕ) : Type 0 where
  pub ahead : List A
  pub later : List A
  pub at : W.State
  pub order : items ≡ ahead ++ (a ∷ later)
  pub reached : walk W s ahead ≡ fine at (placed_until W s items)
  pub refused : W.place at a ≡ refuses n

-- ---- items that stand for others

module _ {A B : Type 0} (f : A → B) where
  abbrev pub through : Way B → Way A
  through W = record { beats = λ a b. W.beats (f a) (f b); State = W.State; begin = W.begin; place = λ s a. W.place s (f a) }

  abbrev pub relabel : Placed A → Placed B
  relabel e = record { on = e.on; item = f e.item; piece = e.piece }

  abbrev pub relabelled : {S : Type 0} → Ending S A → Ending S B
  relabelled (fine s l) = fine s (map relabel l)
  relabelled (stuck a n) = stuck (f a) n

-- ---- what was placed

module _ {A : Type 0} where
  abbrev pub on_core : ℕ → List (Placed A) → List (Placed A)
  on_core q log = only (λ e. eqb e.on q) log

  abbrev pub row_of : ℕ → List (Placed A) → List Piece
  row_of q log = map (λ e. e.piece) (on_core q log)
