-- C=D as a way: one placement divides its task and leaves its cores passing. All the rest is `SoundLaws` and `KeptLaws`.
-- Assumes nothing.
--
--   stands-meet          where two walks come to stand at the same core with the same row, they come to the same state
--   from_one, from-stuck, from-both, from_next      document 01's four rules, in its order 1, 2, 3, 4
--   from-seven, sticks-seven      no other number than 7 comes of them
--   Right w              the whole piece w is within the sizes
--   Fine c row           the row is within the sizes and passes
--   Fit m done s log     the row at the core is the state's, none is begun after it, and there are no more pieces than items and cores before it
--   refused-last         where an item is refused, the last core, as its row stands, does not pass with it
--   halves c g m whole   what is claimed of C=D
--   halving-sound        each placement has it
--   shared-firsts, shares-firsts  an item has one piece, and another where it has a first piece
--   shared-jitters                a piece that came from elsewhere is late, and every other has its item's jitter
--   shared-free                   with costs, J and P zero the window of a first piece is its budget
use Rattle.std.specs.Prelude.{None, Option, Some}
use mathlib.Core.Path.{◌≡◌, refl, ap, ◌∙◌, subst}
use mathlib.Core.Bool.{Bool, true, false, cond}
use mathlib.Core.List.{List, [], ◌∷◌, ◌++◌, append-nil, map}
use Prim.Native.Nat.{ℕ, zero, suc, ◌+◌, ◌-◌, ◌≤◌, ◌<◌}
use native.Mathlib.Omega.{arith}
use borrow.Author.Tests.{eq-eqb, ne_eqb}
use lib.ListN.{length, length-append}
use Rattle.demand.specs.declared.Kind.TheVariants.{Whole, First}
use Rattle.demand.specs.declared.Piece.{Piece}
use Rattle.demand.specs.declared.Costs.{Costs}
use Rattle.demand.specs.declared.Verdict.{Verdict}
use Rattle.demand.specs.declared.Verdict.TheVariants.{Passes, Overloaded, Undecided}
use Rattle.demand.specs.Sizes.{Sized, SizedCosts, Each}
use Rattle.demand.specs.Charge.{core_of, stall}
use Rattle.demand.specs.Verdict.{verdict_of}
use Rattle.demand.specs.Kinds.{departs, arrives}
use Rattle.demand.specs.Split.{cut_at, late_jitter, piece_of, first_piece, last_piece, passes, greatest_split, Splits}
use Rattle.demand.proofs.Sums.{each_snoc}
use Rattle.demand.proofs.BusyLaws.{least-unique}
use Rattle.demand.proofs.VerdictLaws.{verdict-empty}
use Rattle.demand.proofs.SplitLaws.{Parts, split_parts, split-exact, Free, tight-is-budget}
use Rattle.walks.specs.Way.{Spot, Placed, placed_as, Landing, refuses, fine, stuck, walk_over, row_of}
use Rattle.walks.specs.Shares.{Divides, Kinds, Shares, nil, more}
use Rattle.walks.specs.Kept.{Meet}
use Rattle.walks.specs.Halves.{Stand, in_one, in_two, from_core, halving, Shared, one_piece, two-pieces, split_count}
use Rattle.walks.proofs.ListLaws.{sum-append}
use Rattle.walks.proofs.WayLaws.{IfLands, stuck-where}
use Rattle.walks.proofs.SoundLaws.{row-append, Claim, Sound}
use Rattle.demand.specs.declared.Cut.{Cut}

module _ {A : Type 0} (c : Costs) (g m : ℕ) (whole : A → Piece) where
  pub stands-meet : (p p' : List A) (s s' : Stand) (l l' : List (Placed A)) → walk_over (halving c g m whole) p ≡ fine s l
      → walk_over (halving c g m whole) p' ≡ fine s' l' → s.core ≡ s'.core → s.row ≡ s'.row → Meet (halving c g m whole) p p'
  stands-meet p p' s s' l l' old new core row =
      let same : ◌≡◌ {A = Stand} (record { core = s'.core; row = s'.row }) (record { core = s.core; row = s.row }) = cc in
      record { at = s; old-log = l; new-log = l'; old-walk = old; new-walk = new ∙ ap (λ (t : Stand). fine t l') same }

-- ---- the four rules

module _ (c : Costs) (g : ℕ) (w : Piece) (p : ℕ) (row : List Piece) where
  abbrev whole-fits : Bool
  whole-fits = passes (verdict_of c (row ++ (w ∷ [])))

  pub from_one : (n : ℕ) → whole-fits ≡ true → from_core c g w n p row ≡ in_one c g w p row
  from_one zero e = ap (λ (t : Bool). elim t [ true ↦ in_one c g w p row | false ↦ refuses 7 ]) e
  from_one (suc n) e =
      ap (λ (t : Bool). elim t [
        | true ↦ in_one c g w p row
        | false ↦
            (elim (greatest_split c g row w) [ Some s ↦ in_two c g w p s.budget s.window | None ↦ from_core c g w n (suc p) [] ])
      ]) e

  pub from-stuck : whole-fits ≡ false → from_core c g w zero p row ≡ refuses 7
  from-stuck e = ap (λ (t : Bool). elim t [ true ↦ in_one c g w p row | false ↦ refuses 7 ]) e

  from-else : (n : ℕ) → whole-fits ≡ false → from_core c g w (suc n) p row
      ≡ elim (greatest_split c g row w) [ Some s ↦ in_two c g w p s.budget s.window | None ↦ from_core c g w n (suc p) [] ]
  from-else n e =
      ap (λ (t : Bool). elim t [
        | true ↦ in_one c g w p row
        | false ↦
            (elim (greatest_split c g row w) [ Some s ↦ in_two c g w p s.budget s.window | None ↦ from_core c g w n (suc p) [] ])
      ]) e

  pub from-both : (n x v : ℕ) → whole-fits ≡ false → greatest_split c g row w ≡ cut_at x v → from_core c g w (suc n) p row ≡ in_two c g w p x v
  from-both n x v e s = from-else n e ∙ ap (λ (t : Option Cut). elim t [ Some s ↦ in_two c g w p s.budget s.window | None ↦ from_core c g w n (suc p) [] ]) s

  pub from_next : (n : ℕ) → whole-fits ≡ false → greatest_split c g row w ≡ None → from_core c g w (suc n) p row ≡ from_core c g w n (suc p) []
  from_next n e s = from-else n e ∙ ap (λ (t : Option Cut). elim t [ Some s ↦ in_two c g w p s.budget s.window | None ↦ from_core c g w n (suc p) [] ]) s

-- no other number than 7 comes of them
abbrev Seven : Landing Stand → Type 0
Seven o = (n : ℕ) → o ≡ refuses n → n ≡ 7

module _ (c : Costs) (g : ℕ) (w : Piece) where
  one-seven : (p : ℕ) (row : List Piece) → Seven (in_one c g w p row)
  one-seven p row n e = let z : ◌≡◌ {A = ℕ} 0 1 = cc in absurd (omega arith)

  two-seven : (p x v : ℕ) → Seven (in_two c g w p x v)
  two-seven p x v n e = let z : ◌≡◌ {A = ℕ} 0 1 = cc in absurd (omega arith)

  pub from-seven : (n p : ℕ) (row : List Piece) → Seven (from_core c g w n p row)
  from-seven zero p row = by (passes (verdict_of c (row ++ (w ∷ []))))
    where
      by : (t : Bool) → Seven (elim t [ true ↦ in_one c g w p row | false ↦ refuses 7 ])
      by true = one-seven p row
      by false = λ n e. (cc)
  from-seven (suc n) p row = by (passes (verdict_of c (row ++ (w ∷ [])))) (greatest_split c g row w) (from-seven n (suc p) [])
    where
      by : (t : Bool) (u : Option Cut) → Seven (from_core c g w n (suc p) [])
          → Seven (elim t [ true ↦ in_one c g w p row | false ↦ (elim u [ Some s ↦ in_two c g w p s.budget s.window | None ↦ from_core c g w n (suc p) [] ]) ])
      by true u rec = one-seven p row
      by false (Some s) rec = two-seven p s.budget s.window
      by false None rec = rec

pub sticks-seven : {A : Type 0} (c : Costs) (g m : ℕ) (whole : A → Piece) (xs : List A) (a : A) (n : ℕ) → walk_over (halving c g m whole) xs ≡ stuck a n → n ≡ 7
sticks-seven c g m whole xs a n e =
    let at = stuck-where (halving c g m whole) (halving c g m whole).begin xs a n e in
    from-seven c g (whole a) (m - 1 - at.at.core) at.at.core at.at.row n at.refused

-- ---- what one placement keeps

pub record Right (w : Piece) : Type 0 where
  pub size : Sized w
  pub kind : w.kind ≡ Whole

pub record Fine (c : Costs) (row : List Piece) : Type 0 where
  pub sizes : Each Sized row
  pub passing : verdict_of c row ≡ Passes

fine-empty : (c : Costs) → Fine c []
unfolding verdict_of core_of
fine-empty c = record { sizes = tt; passing = verdict-empty (stall c) }

passes-is : (v : Verdict) → passes v ≡ true → v ≡ Passes
passes-is Passes e = refl
passes-is (Overloaded t) e = let z : ◌≡◌ {A = ℕ} 0 1 = cc in absurd (omega arith)
passes-is Undecided e = let z : ◌≡◌ {A = ℕ} 0 1 = cc in absurd (omega arith)

passes-not : (v : Verdict) → passes v ≡ false → v ≡ Passes → ⊥
passes-not v e is = let z : ◌≡◌ {A = ℕ} 0 1 = cc in omega arith

pub record Fit {A : Type 0} (m : ℕ) (done : List A) (s : Stand) (log : List (Placed A)) : Type 0 where
  pub here : row_of s.core log ≡ s.row
  pub ahead : (q : ℕ) → s.core < q → row_of q log ≡ []
  pub below : s.core < m
  pub count : length log ≤ length done + s.core

-- ---- 7, at the last core

-- what stands on the last core where n come after this one
abbrev last_row : ℕ → List Piece → List Piece
last_row zero row = row
last_row (suc n) row = []

module _ (c : Costs) (g : ℕ) (w : Piece) (j : ℕ) where
  from-refused : (n p : ℕ) (row : List Piece) → from_core c g w n p row ≡ refuses j → verdict_of c (last_row n row ++ (w ∷ [])) ≡ Passes → ⊥
  from-refused zero p row e fits = by (passes (verdict_of c (row ++ (w ∷ [])))) refl e
    where
      by : (t : Bool) → passes (verdict_of c (row ++ (w ∷ []))) ≡ t
          → ◌≡◌ {A = Landing Stand} (elim t [ true ↦ in_one c g w p row | false ↦ refuses 7 ]) (refuses j) → ⊥
      by true told h = let z : ◌≡◌ {A = ℕ} 0 1 = cc in omega arith
      by false told h = passes-not (verdict_of c (row ++ (w ∷ []))) told fits
  from-refused (suc n) p row e fits =
      by (passes (verdict_of c (row ++ (w ∷ [])))) (greatest_split c g row w) e (λ h. from-refused n (suc p) [] h (none n))
    where
      none : (k : ℕ) → verdict_of c (last_row k [] ++ (w ∷ [])) ≡ Passes
      none zero = fits
      none (suc k) = fits

      by : (t : Bool) (u : Option Cut)
          → ◌≡◌ {A = Landing Stand}
          (elim t [ true ↦ in_one c g w p row | false ↦ (elim u [ Some s ↦ in_two c g w p s.budget s.window | None ↦ from_core c g w n (suc p) [] ]) ]) (refuses j)
          → (from_core c g w n (suc p) [] ≡ refuses j → ⊥) → ⊥
      by true u h rec = let z : ◌≡◌ {A = ℕ} 0 1 = cc in omega arith
      by false (Some s) h rec = let z : ◌≡◌ {A = ℕ} 0 1 = cc in omega arith
      by false None h rec = rec h

-- the last core, as its row stands, does not pass with an item that is refused
pub refused-last : {A : Type 0} (c : Costs) (g m : ℕ) (whole : A → Piece) (done : List A) (s : Stand) (log : List (Placed A)) (a : A) (j : ℕ)
    → Fit m done s log → (halving c g m whole).place s a ≡ refuses j → verdict_of c (row_of (m - 1) log ++ (whole a ∷ [])) ≡ Passes → ⊥
refused-last c g m whole done s log a j fit none fits =
    from-refused c g (whole a) j (m - 1 - s.core) s.core s.row none (subst (λ (row : List Piece). verdict_of c (row ++ (whole a ∷ [])) ≡ Passes)
    (last (m - 1 - s.core) refl) fits)
  where
    last : (n : ℕ) → m - 1 - s.core ≡ n → row_of (m - 1) log ≡ last_row n s.row
    last zero e = (let core : m - 1 ≡ s.core = omega (arith, fit.below) in ap (λ (q : ℕ). row_of q log) core ∙ fit.here)
    last (suc n) e = fit.ahead (m - 1) (omega arith)

abbrev pub halves : {A : Type 0} → Costs → ℕ → ℕ → (A → Piece) → Claim A Stand
halves c g m whole = record {
  cores = m;
  whole = whole;
  Good = λ a. Right (whole a);
  Row = Fine c;
  Share = λ past a l. Shared c g (whole a) past a (map (placed_as a) l);
  Faithful = Fit m;
}

module _ {A : Type 0} (c : Costs) (g m : ℕ) (costs : SizedCosts c) (w : Piece) (right : Right w) (a : A) (done : List A) (log : List (Placed A)) where
  abbrev Kept : Stand → List Spot → Type 0
  Kept t l = Fit m (done ++ (a ∷ [])) t (log ++ map (placed_as a) l) × Divides m w l × Shared c g w log a (map (placed_as a) l)
      × Each (λ e. Fine c (row_of e.on (log ++ map (placed_as a) l))) l

  row_here : (q : ℕ) (row : List Piece) (x : Piece) → row_of q log ≡ row → row_of q (log ++ (record { on = q; item = a; piece = x } ∷ [])) ≡ row ++ (x ∷ [])
  row_here q row x h = row-append q log (record { on = q; item = a; piece = x } ∷ []) ∙ rw (h, eq-eqb q q refl)

  row_other : (p q : ℕ) (x : Piece) → (p ≡ q → ⊥) → row_of q (log ++ (record { on = p; item = a; piece = x } ∷ [])) ≡ row_of q log
  row_other p q x never = row-append q log (record { on = p; item = a; piece = x } ∷ []) ∙ rw (ne_eqb p q never, append-nil)

  keeps-one : (p : ℕ) (row : List Piece) → Fit m done (record { core = p; row = row }) log → Fine c row
      → passes (verdict_of c (row ++ (w ∷ []))) ≡ true → IfLands Kept (in_one c g w p row)
  keeps-one p row h has e = (
    record {
      here = row_here p row w h.here;
      ahead = λ q g. row_other p q w (λ z. omega arith) ∙ h.ahead q g;
      below = h.below;
      count = simp length-append (omega (arith, h.count));
    },
    record {
      kinds = rw right.kind Kinds.in-one;
      apart = (tt, tt);
      within = (h.below, tt);
      some = (right.size.budget-some, tt);
      budgets = omega arith;
      windows = omega arith;
    },
    one_piece {p = p} (rw h.here (passes-is (verdict_of c (row ++ (w ∷ []))) e)),
    (
      rw (row_here p row w h.here)
          (record { sizes = each_snoc Sized row w has.sizes right.size; passing = passes-is (verdict_of c (row ++ (w ∷ []))) e }),
      tt,
    ),
  )

  keeps-two : (p : ℕ) (row : List Piece) (x v : ℕ) → Fit m done (record { core = p; row = row }) log → suc p < m → Fine c row
      → passes (verdict_of c (row ++ (w ∷ []))) ≡ false → greatest_split c g row w ≡ cut_at x v → IfLands Kept (in_two c g w p x v)
  keeps-two p row x v h next has never e =
      let parts = split_parts c g row w costs right.size x v e in
      let f = first_piece w x v in
      let l = last_piece c w x v in
      let pair : List (Placed A) = record { on = p; item = a; piece = f } ∷ record { on = suc p; item = a; piece = l } ∷ [] in
      let on-first : row_of p (log ++ pair) ≡ row ++ (f ∷ []) = row-append p log pair ∙ rw (h.here, eq-eqb p p refl, ne_eqb (suc p) p (λ z. omega arith)) in
      let on-next : row_of (suc p) (log ++ pair) ≡ l ∷ [] = row-append (suc p) log pair
      ∙ rw (h.ahead (suc p) (omega arith), eq-eqb (suc p) (suc p) refl, ne_eqb p (suc p) (λ z. omega arith)) in (
        record {
          here = on-next;
          ahead = λ q g. row-append q log pair ∙ rw (ne_eqb p q (λ z. omega arith), ne_eqb (suc p) q (λ z. omega arith), append-nil) (h.ahead q (omega arith));
          below = next;
          count = simp length-append (omega (arith, h.count));
        },
        halved p x v next parts,
        two-pieces {p = p} {x = x} {v = v} (rw h.here (passes-not (verdict_of c (row ++ (w ∷ []))) never))
            (rw h.here ((split-exact c g row w (cut_at x v)).0 e)),
        (
          rw on-first (record { sizes = each_snoc Sized row f has.sizes parts.first-sized; passing = parts.first_passes }),
          (rw on-next (record { sizes = (parts.last-sized, tt); passing = parts.last-passes }), tt),
        ),
      )
    where
      halved : (p x v : ℕ) → suc p < m → Parts c row w x v
          → Divides m w (record { on = p; piece = first_piece w x v } ∷ record { on = suc p; piece = last_piece c w x v } ∷ [])
      halved p x v next parts = unfold first_piece last_piece piece_of in record {
        kinds = Kinds.in-two;
        apart = (((λ z. omega arith), tt), (tt, tt));
        within = (omega arith, (next, tt));
        some = (parts.some, (omega (arith, parts.less), tt));
        budgets = omega (arith, parts.less);
        windows = omega (arith, parts.inside);
      }

  keeps-from : (n p : ℕ) (row : List Piece) → p + n + 1 ≡ m → Fit m done (record { core = p; row = row }) log → Fine c row
      → IfLands Kept (from_core c g w n p row)
  keeps-from zero p row left h has = by (passes (verdict_of c (row ++ (w ∷ [])))) refl
    where
      by : (t : Bool) → passes (verdict_of c (row ++ (w ∷ []))) ≡ t → IfLands Kept (elim t [ true ↦ in_one c g w p row | false ↦ refuses 7 ])
      by true e = keeps-one p row h has e
      by false e = tt
  keeps-from (suc n) p row left h has =
      by (passes (verdict_of c (row ++ (w ∷ [])))) refl (greatest_split c g row w) refl (keeps-from n (suc p) [] (omega arith) next (fine-empty c))
    where
      next : Fit m done (record { core = suc p; row = [] }) log
      next = record { here = h.ahead (suc p) (omega arith); ahead = λ q g. h.ahead q (omega arith); below = omega arith; count = omega (arith, h.count) }

      by : (t : Bool) → passes (verdict_of c (row ++ (w ∷ []))) ≡ t → (u : Option Cut) → greatest_split c g row w ≡ u
          → IfLands Kept (from_core c g w n (suc p) [])
          → IfLands Kept (elim t [
            | true ↦ in_one c g w p row
            | false ↦ (elim u [ Some s ↦ in_two c g w p s.budget s.window | None ↦ from_core c g w n (suc p) [] ])
          ])
      by true e u s rec = keeps-one p row h has e
      by false e (Some k) s rec = keeps-two p row k.budget k.window h (omega arith) has e s
      by false e None s rec = rec

pub halving-sound : {A : Type 0} (c : Costs) (g m : ℕ) (whole : A → Piece) → SizedCosts c → 1 ≤ m → Sound (halving c g m whole) (halves c g m whole)
halving-sound c g m whole costs some = record {
  empty = fine-empty c;
  begins = record { here = refl; ahead = λ q less. refl; below = some; count = omega arith };
  step =
      λ done s log a right h rows. keeps-from c g m costs (whole a) right a done log (m - 1 - s.core) s.core s.row
      (omega (arith, h.below)) h (subst (Fine c) h.here (rows s.core));
}

-- ---- C=D's share of an item

module _ {A : Type 0} (c : Costs) (g : ℕ) (w : Piece) (past : List (Placed A)) (a : A) where
  pub shared-firsts : w.kind ≡ Whole → {l : List (Placed A)} → Shared c g w past a l → length l ≡ 1 + split_count l
  unfolding first_piece last_piece piece_of
  shared-firsts plain (one_piece pass) = rw plain
  shared-firsts plain (two-pieces never cut) = refl

  pub shared-jitters : w.kind ≡ Whole → {l : List (Placed A)} → Shared c g w past a l
      → Each (λ e. e.piece.jitter ≡ cond (arrives e.piece.kind) (late_jitter c) w.jitter) l
  unfolding first_piece last_piece piece_of
  shared-jitters plain (one_piece pass) = (rw plain, tt)
  shared-jitters plain (two-pieces never cut) = (refl, (refl, tt))

  module _ (size : Sized w) where
    cut-free : Free c w → (row : List Piece) (x v : ℕ) → Splits c g row w (cut_at x v) → v ≡ x
    cut-free free row x v s =
        omega (arith, s.2, free.jitter-none, least-unique s.1.allowed.tight (tight-is-budget c row w free x s.1.candidate.some))

    pub shared-free : Free c w → w.kind ≡ Whole → {l : List (Placed A)} → Shared c g w past a l
        → Each (λ e. e.piece.kind ≡ First → e.piece.window ≡ e.piece.budget) l
    unfolding first_piece last_piece piece_of
    shared-free free plain (one_piece pass) = ((λ e. let z : ◌≡◌ {A = ℕ} 0 1 = cc in absurd (omega arith)), tt)
    shared-free free plain (two-pieces {p = p} {x = x} {v = v} never cut) = (
      (λ e. cut-free free (row_of p past) x v cut),
      ((λ e. let z : ◌≡◌ {A = ℕ} 0 1 = cc in absurd (omega arith)), tt),
    )

-- so there is a piece for each item, and one more for each split
module _ {A : Type 0} (c : Costs) (g m : ℕ) (w : A → Piece) (plain : (a : A) → (w a).kind ≡ Whole) where
  pub shares-firsts : {past : List (Placed A)} {xs : List A} {log : List (Placed A)}
      → Shares (λ past a l. Divides m (w a) l × Shared c g (w a) past a (map (placed_as a) l)) past xs log → length log ≡ length xs + split_count log
  shares-firsts nil = refl
  shares-firsts (more {past = past} {a = a} {k = k} {l = l} s r) =
      omega (
        arith,
        length-append (map (placed_as a) k) l,
        sum-append (λ (e : Placed A). cond (departs e.piece.kind) 1 0) (map (placed_as a) k) l,
        shares-firsts r,
        shared-firsts c g (w a) past a (plain a) s.1,
      )
