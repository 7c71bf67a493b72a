-- C=D as a way: document 01, "The C=D walk". A task is given as its whole piece: C, D, T, J, P and M.
--
--   denser p q             the whole piece p has the greater C/D, compared as whole products
--   Stand                  the state: a core, from 0, and the row of pieces on it
--   in_one, in_two           a task placed whole on a core, and one by a split on a core and the next
--   from_core c g w n p row the whole piece w from core p on, with n cores after it and that row on it: the four rules
--   halving c g m whole    the way on m cores, at the costs c and the grain g, for items of which each has its whole piece
--   Shared c g w past a l  l is all of an item a with the whole piece w, where past was placed before it: whole on a core that passes with it; or, where one does
--                          not, by a greatest split beside what stood there, on that core and the next
--   split_count l           how many pieces depart: a split makes one
use Rattle.std.specs.Prelude.{◌≡◌, Bool, true, false, cond, List, [], ◌∷◌, ◌++◌, ℕ, zero, suc, ◌-◌, ◌*◌, ltb, None, Some}
use Rattle.demand.specs.Kinds.{departs}
use Rattle.demand.specs.declared.Piece.{Piece}
use Rattle.demand.specs.declared.Costs.{Costs}
use Rattle.demand.specs.declared.Verdict.TheVariants.{Passes}
use Rattle.demand.specs.Verdict.{verdict_of}
use Rattle.demand.specs.Split.{cut_at, first_piece, last_piece, passes, greatest_split, Splits}
use Rattle.walks.specs.Lists.{sum_by}
use Rattle.walks.specs.Way.{Landing, lands, refuses, Way, Placed, row_of}

unfoldable pub denser : Piece → Piece → Bool
denser p q = ltb (q.budget * p.window) (p.budget * q.window)

pub record Stand : Type 0 where
  pub core : ℕ
  pub row : List Piece

module _ (c : Costs) (g : ℕ) (w : Piece) where
  abbrev pub in_one : ℕ → List Piece → Landing Stand
  in_one p row = lands (record { core = p; row = row ++ (w ∷ []) }) (record { on = p; piece = w } ∷ [])

  abbrev pub in_two : ℕ → (x v : ℕ) → Landing Stand
  in_two p x v = lands (record { core = suc p; row = last_piece c w x v ∷ [] }) (record { on = p; piece = first_piece w x v } ∷ record { on = suc p; piece = last_piece c w x v } ∷ [])

  -- 1: whole, where the core then passes. 2: else 7 at the last core. 3: else split here. 4: else the same on the next core.
  abbrev pub from_core : (n p : ℕ) → List Piece → Landing Stand
  from_core zero p row = elim (passes (verdict_of c (row ++ (w ∷ [])))) [ true ↦ in_one p row | false ↦ refuses 7 ]
  from_core (suc n) p row = elim (passes (verdict_of c (row ++ (w ∷ [])))) [
    | true ↦ in_one p row
    | false ↦ (elim (greatest_split c g row w) [ Some s ↦ in_two p s.budget s.window | None ↦ from_core n (suc p) [] ])
  ]

abbrev pub halving : {A : Type 0} → Costs → ℕ → ℕ → (A → Piece) → Way A
halving c g m whole = record {
  beats = λ a b. denser (whole a) (whole b);
  State = Stand;
  begin = record { core = 0; row = [] };
  place = λ s a. from_core c g (whole a) (m - 1 - s.core) s.core s.row;
}

pub data Shared {A : Type 0} (c : Costs) (g : ℕ) (w : Piece) (past : List (Placed A)) (a : A) : List (Placed A) → Type 0 where
  one_piece : {p : ℕ} → verdict_of c (row_of p past ++ (w ∷ [])) ≡ Passes → Shared c g w past a (record { on = p; item = a; piece = w } ∷ [])
  two-pieces : {p x v : ℕ} → (verdict_of c (row_of p past ++ (w ∷ [])) ≡ Passes → ⊥) → Splits c g (row_of p past) w (cut_at x v) → Shared c g w past a (record { on = p; item = a; piece = first_piece w x v } ∷ record { on = suc p; item = a; piece = last_piece c w x v } ∷ [])

abbrev pub split_count : {A : Type 0} → List (Placed A) → ℕ
split_count l = sum_by (λ e. cond (departs e.piece.kind) 1 0) l
