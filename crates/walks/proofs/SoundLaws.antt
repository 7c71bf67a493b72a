-- What every walk's plan is, by one argument: what a way shows of one placement holds of all it places.
-- Assumes nothing.
--
--   Claim A S              what is claimed of a way: the cores, an item's whole piece, which items are good, what every row has, what an item's spots have
--                          beside dividing it, and how a state is faithful to the items done and what is placed
--   Sound W C              what a way has to show for it, of ONE placement
--   Planned C xs s log     what then holds of a walk over the items xs
--   walk-sound             and why
--   share-of               all that is placed of an item is its share
--   spots-within           every piece is on one of the cores
--   few-on-core            no core has more pieces than there are items
--   apart-on               an item has at most one piece on a core
--   pieces-each            what holds of the pieces of every row holds of all that are placed
--   on-append, row-append, on-here, on-other      what is on a core, of two logs one after another
use mathlib.Core.Path.{◌≡◌, refl, sym, ap, ◌∙◌, subst}
use mathlib.Core.Bool.{Bool, true, false}
use mathlib.Core.Logic.{◌⊎◌, inl, inr, ⊎_elim}
use mathlib.Core.List.{List, [], ◌∷◌, ◌++◌, append-nil, append_assoc, map-append, map}
use Prim.Native.Nat.{ℕ, ◌<◌, ◌≤◌}
use native.Mathlib.Omega.{arith}
use borrow.Author.Tests.{eqb-true, eq-eqb, ne_eqb}
use lib.Dec.{eqb}
use lib.ListN.{length, length-append}
use Rattle.demand.specs.declared.Piece.{Piece}
use Rattle.demand.specs.Sizes.{Each}
use Rattle.demand.proofs.Sums.{each-imp, each_map}
use Rattle.walks.specs.Lists.{Lacks, Apart, keep}
use Rattle.walks.specs.Way.{Spot, Placed, placed_as, Landing, lands, refuses, Way, fine, walk_over, on_core, row_of}
use Rattle.walks.specs.Shares.{Divides, Shares, nil, more}
use Rattle.walks.specs.Edits.{Keyed}
use Rattle.walks.specs.Kept.{of_key, Among}
use Rattle.walks.proofs.ListLaws.{each-join, each-only, only-append, only_none, only-all}
use Rattle.walks.proofs.WayLaws.{IfLands, over-keeps, shares-snoc, placed-each}
use Rattle.walks.proofs.KeyLaws.{Exact, among-key, same-other, same-own}

-- ---- rows

module _ {A : Type 0} where
  pub on-append : (q : ℕ) (k l : List (Placed A)) → on_core q (k ++ l) ≡ on_core q k ++ on_core q l
  on-append q k l = only-append (λ e. eqb e.on q) k l

  pub row-append : (q : ℕ) (k l : List (Placed A)) → row_of q (k ++ l) ≡ row_of q k ++ row_of q l
  row-append q k l = rw (on-append q k l, map-append)

  pub on_none : (q : ℕ) (l : List (Placed A)) → Lacks (λ e. e.on) q l → on_core q l ≡ []
  on_none q l h = only_none (λ e. eqb e.on q) l (each-imp (λ e. e.on ≡ q → ⊥) (λ e. eqb e.on q ≡ false) (λ e never. ne_eqb e.on q never) l h)

  -- a core that nothing is on, or that has what each core with a piece has
  pub on_some : (P : ℕ → Type 0) (q : ℕ) (l : List (Placed A)) → Each (λ e. P e.on) l → (on_core q l ≡ []) ⊎ P q
  on_some P q [] h = inl refl
  on_some P q (e ∷ l) h = by (eqb e.on q) refl (on_some P q l h.1)
    where
      by : (t : Bool) → eqb e.on q ≡ t → (on_core q l ≡ []) ⊎ P q → (keep t e (on_core q l) ≡ []) ⊎ P q
      by true told rec = inr (subst P (eqb-true e.on q told) h.0)
      by false told rec = rec

  -- where cores are apart, none has more than one piece
  pub on_one : (q : ℕ) (l : List (Placed A)) → Apart (λ e. e.on) l → length (on_core q l) ≤ 1
  on_one q [] apart = omega arith
  on_one q (e ∷ l) apart = by (eqb e.on q) refl (on_one q l apart.1)
    where
      by : (t : Bool) → eqb e.on q ≡ t → length (on_core q l) ≤ 1 → length (keep t e (on_core q l)) ≤ 1
      by true told rec = rw (on_none q l (subst (λ (p : ℕ). Lacks (λ e. e.on) p l) (eqb-true e.on q told) apart.0)) (omega arith)
      by false told rec = rec

  -- what holds of the pieces of every row
  pub pieces-each : (P : Piece → Type 0) (log : List (Placed A)) → ((q : ℕ) → Each P (row_of q log)) → Each (λ e. P e.piece) log
  pieces-each P [] rows = tt
  pieces-each P (e ∷ l) rows = (
    first (eqb e.on e.on) (eq-eqb e.on e.on refl) (rows e.on),
    pieces-each P l (λ q. rest q (eqb e.on q) (rows q)),
  )
    where
      first : (t : Bool) → t ≡ true → Each P (map (λ x. x.piece) (keep t e (on_core e.on l))) → P e.piece
      first true told h = h.0
      first false told h = let z : ◌≡◌ {A = ℕ} 0 1 = cc in absurd (omega arith)

      rest : (q : ℕ) (t : Bool) → Each P (map (λ x. x.piece) (keep t e (on_core q l))) → Each P (row_of q l)
      rest q true h = h.1
      rest q false h = h

module _ {A : Type 0} (log : List (Placed A)) (e : Placed A) where
  pub on-here : (q : ℕ) → e.on ≡ q → on_core q (log ++ (e ∷ [])) ≡ on_core q log ++ (e ∷ [])
  on-here q h = on-append q log (e ∷ []) ∙ simp (eq-eqb e.on q h)

  pub on-other : (q : ℕ) → (e.on ≡ q → ⊥) → on_core q (log ++ (e ∷ [])) ≡ on_core q log
  on-other q h = on-append q log (e ∷ []) ∙ simp (ne_eqb e.on q h, append-nil)

-- ---- one placement, and the walk

pub record Claim (A S : Type 0) : Type 1 where
  pub cores : ℕ
  pub whole : A → Piece
  pub Good : A → Type 0
  pub Row : List Piece → Type 0
  pub Share : List (Placed A) → A → List Spot → Type 0
  pub Faithful : List A → S → List (Placed A) → Type 0

pub record Sound {A : Type 0} (W : Way A) (C : Claim A W.State) : Type 0 where
  pub empty : C.Row []
  pub begins : C.Faithful [] W.begin []
  pub step : (done : List A) (s : W.State) (log : List (Placed A)) (a : A) → C.Good a → C.Faithful done s log → ((q : ℕ) → C.Row (row_of q log)) →
      IfLands (λ t l. C.Faithful (done ++ (a ∷ [])) t (log ++ map (placed_as a) l) × Divides C.cores (C.whole a) l × C.Share log a l
      × Each (λ e. C.Row (row_of e.on (log ++ map (placed_as a) l))) l) (W.place s a)

pub record Planned {A S : Type 0} (C : Claim A S) (items : List A) (s : S) (log : List (Placed A)) : Type 0 where
  pub faithful : C.Faithful items s log
  pub shares : Shares (λ past a l. Divides C.cores (C.whole a) l × C.Share past a l) [] items log
  pub rows : (q : ℕ) → C.Row (row_of q log)

module _ {A : Type 0} (W : Way A) (C : Claim A W.State) (sound : Sound W C) where
  rows_more : (log : List (Placed A)) (a : A) (l : List Spot) → ((q : ℕ) → C.Row (row_of q log))
      → Each (λ e. C.Row (row_of e.on (log ++ map (placed_as a) l))) l → (q : ℕ) → C.Row (row_of q (log ++ map (placed_as a) l))
  rows_more log a l old new q =
      let new-log = map (placed_as a) l in
      let none : on_core q new-log ≡ [] → C.Row (row_of q (log ++ new-log)) = λ h.
      subst C.Row (sym (row-append q log new-log
      ∙ (ap (λ (z : List (Placed A)). row_of q log ++ map (λ e. e.piece) z) h ∙ append-nil (row_of q log)))) (old q) in
      ⊎_elim none (λ h. h) (on_some (λ p. C.Row (row_of p (log ++ new-log))) q new-log (each_map (λ (e : Spot). C.Row
      (row_of e.on (log ++ new-log))) (λ (e : Placed A). C.Row (row_of e.on (log ++ new-log))) (placed_as a) (λ e h. h) l new))

  plan-step : (done : List A) (s : W.State) (log : List (Placed A)) (a : A) → C.Good a → Planned C done s log
      → IfLands (λ t l. Planned C (done ++ (a ∷ [])) t (log ++ map (placed_as a) l)) (W.place s a)
  plan-step done s log a good h = by (W.place s a) (sound.step done s log a good h.faithful h.rows)
    where
      by : (o : Landing W.State)
          → IfLands (λ t l. C.Faithful (done ++ (a ∷ [])) t (log ++ map (placed_as a) l) × Divides C.cores (C.whole a) l × C.Share log a l
          × Each (λ e. C.Row (row_of e.on (log ++ map (placed_as a) l))) l) o
          → IfLands (λ t l. Planned C (done ++ (a ∷ [])) t (log ++ map (placed_as a) l)) o
      by (lands t l) g = record {
        faithful = g.0;
        shares = shares-snoc (λ past b r. Divides C.cores (C.whole b) r × C.Share past b r) a l
            h.shares (g.1, g.2);
        rows = rows_more log a l h.rows g.3;
      }
      by (refuses n) g = tt

  pub walk-sound : (xs : List A) → Each C.Good xs → (t : W.State) (l : List (Placed A)) → walk_over W xs ≡ fine t l → Planned C xs t l
  walk-sound xs good = over-keeps W C.Good (Planned C) plan-step (record { faithful = sound.begins; shares = nil; rows = λ q. sound.empty }) xs good

-- ---- what is placed of one item

module _ {A K : Type 0} (N : Keyed A K) (exact : Exact N) (Q : List (Placed A) → A → List Spot → Type 0) where
  -- an item has the key k, and all that is placed of the key is its share: behind `past`, and before `later`
  pub record Has (begun : List (Placed A)) (k : K) (log : List (Placed A)) : Type 0 where
    pub item : A
    pub own : N.key item ≡ k
    pub past : List (Placed A)
    pub spots : List Spot
    pub later : List (Placed A)
    pub order : begun ++ log ≡ past ++ (map (placed_as item) spots ++ later)
    pub is : of_key N k log ≡ map (placed_as item) spots
    pub has : Q past item spots

  none_of : (k : K) {past : List (Placed A)} {xs : List A} {log : List (Placed A)} → Shares Q past xs log → Lacks N.key k xs → of_key N k log ≡ []
  none_of k nil lacks = refl
  none_of k (more {a = a} {k = x} {l = l} s r) lacks =
      only-append (λ e. N.same k (N.key e.item)) (map (placed_as a) x) l
      ∙ rw (
        only_none (λ e. N.same k (N.key e.item)) (map (placed_as a) x) (placed-each (λ b. N.same k (N.key b) ≡ false) a
            (same-other N exact k (N.key a) (λ e. lacks.0 (sym e))) x),
        none_of k r lacks.1,
      )

  pub share-of : (k : K) {past : List (Placed A)} {xs : List A} {log : List (Placed A)} → Shares Q past xs log → Apart N.key xs → Among N k xs → Has past k log
  share-of k nil apart among = absurd among
  share-of k {past = past} (more {a = a} {k = x} {l = l} {rest = rest} s r) apart (inl own) = record {
    item = a;
    own = own;
    past = past;
    spots = x;
    later = l;
    order = refl;
    is = only-append (λ e. N.same k (N.key e.item)) (map (placed_as a) x) l
        ∙ rw (
          only-all (λ e. N.same k (N.key e.item)) (map (placed_as a) x) (placed-each (λ b. N.same k (N.key b) ≡ true) a
              (same-own N exact k (N.key a) (sym own)) x),
          none_of k r (subst (λ (j : K). Lacks N.key j rest) own apart.0),
          append-nil,
        );
    has = s;
  }
  share-of k {past = past} (more {a = a} {k = x} {l = l} {rest = rest} s r) apart (inr among) =
      let h = share-of k r apart.1 among in
      let differs : k ≡ N.key a → ⊥ = among-key N (λ j. j ≡ N.key a → ⊥) rest among apart.0 in
      record {
        item = h.item;
        own = h.own;
        past = h.past;
        spots = h.spots;
        later = h.later;
        order = sym (append_assoc past (map (placed_as a) x) l) ∙ h.order;
        is = only-append (λ e. N.same k (N.key e.item)) (map (placed_as a) x) l
            ∙ (rw (only_none (λ e. N.same k (N.key e.item)) (map (placed_as a) x)
            (placed-each (λ b. N.same k (N.key b) ≡ false) a (same-other N exact k (N.key a) differs) x)) h.is);
        has = h.has;
      }

-- ---- how many, and where

module _ {A : Type 0} (m : ℕ) (whole : A → Piece) (R : List (Placed A) → A → List Spot → Type 0) where
  abbrev pub Divided : List (Placed A) → A → List Spot → Type 0
  Divided past a l = Divides m (whole a) l × R past a l

  apart-as : (a : A) (l : List Spot) → Apart (λ e. e.on) l → Apart (λ e. e.on) (map (placed_as a) l)
  apart-as a [] h = tt
  apart-as a (e ∷ l) h = (
    each_map (λ (f : Spot). f.on ≡ e.on → ⊥) (λ (f : Placed A). f.on ≡ e.on
        → ⊥) (placed_as a) (λ f never. never) l h.0,
    apart-as a l h.1,
  )

  pub spots-within : {past : List (Placed A)} {xs : List A} {log : List (Placed A)} → Shares Divided past xs log → Each (λ e. e.on < m) log
  spots-within nil = tt
  spots-within (more {a = a} {k = k} {l = l} s r) =
      each-join (λ e. e.on < m) (map (placed_as a) k) l
      (each_map (λ (e : Spot). e.on < m) (λ (e : Placed A). e.on < m) (placed_as a) (λ e low. low) k s.0.within) (spots-within r)

  module _ (q : ℕ) where
    pub few-on-core : {past : List (Placed A)} {xs : List A} {log : List (Placed A)} → Shares Divided past xs log → length (on_core q log) ≤ length xs
    few-on-core nil = omega arith
    few-on-core (more {a = a} {k = k} {l = l} s r) =
        rw (on-append q (map (placed_as a) k) l, length-append)
        (omega (arith, on_one q (map (placed_as a) k) (apart-as a k s.0.apart), few-on-core r))

    module _ {K : Type 0} (key : A → K) where
      items-on : (P : A → Type 0) {past : List (Placed A)} {xs : List A} {log : List (Placed A)} → Shares Divided past xs log → Each P xs → Each (λ e. P e.item) log
      items-on P nil all = tt
      items-on P (more {a = a} {k = k} {l = l} s r) all =
          each-join (λ e. P e.item) (map (placed_as a) k) l (placed-each P a all.0 k) (items-on P r all.1)

      pub apart-on : {past : List (Placed A)} {xs : List A} {log : List (Placed A)} → Shares Divided past xs log → Apart key xs → Apart (λ e. key e.item) (on_core q log)
      apart-on nil apart = tt
      apart-on (more {a = a} {k = k} {l = l} s r) apart =
          rw (on-append q (map (placed_as a) k) l)
          (one (on_core q (map (placed_as a) k)) (on_one q (map (placed_as a) k) (apart-as a k s.0.apart)) (each-only (λ e. key
          e.item ≡ key a) (λ e. eqb e.on q) (map (placed_as a) k) (placed-each (λ b. key b ≡ key a) a refl k)) (apart-on r apart.1)
          (each-only (λ e. key e.item ≡ key a → ⊥) (λ e. eqb e.on q) l (items-on (λ b. key b ≡ key a → ⊥) r apart.0)))
        where
          one : (x : List (Placed A)) → length x ≤ 1 → Each (λ e. key e.item ≡ key a) x → Apart (λ e. key e.item) (on_core q l)
              → Lacks (λ e. key e.item) (key a) (on_core q l) → Apart (λ e. key e.item) (x ++ on_core q l)
          one [] few own old new = old
          one (e ∷ []) few own old new = (rw own.0 new, old)
          one (e ∷ f ∷ x) few own old new = absurd (omega arith)
