-- Laws of a walk, over any way.
-- Assumes nothing.
--
--   IfLands, IfFine       what holds of a placement that is not refused, and of a walk that does not stick
--   walk-append           the walk over xs, then ys, is the walk over ys from where xs ends
--   Parts, in_parts       a walk that does not stick, in two parts: what is placed only grows
--   rest-same             equal states have equal rests
--   until-fine            where a walk does not stick, what is placed before it does is all that it places
--   until-stuck           where it sticks, it is what the items ahead of that one place
--   stuck-where           a walk that sticks does at the first item that has no place, with that one's number
--   Reaches, until-reaches      stuck or not, it is what some items at the front place, over which the walk does not stick
--   walk-keeps, over-keeps      what every placement keeps, of the items so far, the state and what is placed, the walk keeps
--   shares-snoc           the share of one item more
--   walk-items            what holds of each item holds of each that is placed
--   walk-snoc, walk-stuck, until-still      items more, as a loop goes
--   walk-map, of_map      the walk over items that stand for others is the walk over those
use mathlib.Core.Path.{◌≡◌, refl, sym, ap, ◌∙◌, subst}
use mathlib.Core.List.{List, [], ◌∷◌, ◌++◌, append_assoc, append-nil, map, map-append}
use Prim.Native.Nat.{ℕ}
use native.Mathlib.Omega.{arith}
use Rattle.demand.specs.Sizes.{Each}
use Rattle.walks.specs.Order.{pack}
use Rattle.walks.specs.Way.{Spot, Placed, placed_as, Landing, lands, refuses, Way, Ending, fine, stuck, behind}
use Rattle.walks.specs.Way.{onward, landed, walk, walk_over, walk_of, onward_placed, placed_until, SticksAt, through, relabel, relabelled}
use Rattle.walks.specs.Shares.{Shares, nil, more}
use Rattle.walks.proofs.ListLaws.{each-join}
use Rattle.walks.proofs.OrderLaws.{pack-map}

abbrev pub IfLands : {S : Type 0} → (S → List Spot → Type 0) → Landing S → Type 0
IfLands P (lands s l) = P s l
IfLands P (refuses n) = Unit {0}

abbrev pub IfFine : {S A : Type 0} → (S → List (Placed A) → Type 0) → Ending S A → Type 0
IfFine P (fine s l) = P s l
IfFine P (stuck a n) = Unit {0}

-- ---- one walk after another

module _ {S A : Type 0} where
  behind-nil : (o : Ending S A) → behind [] o ≡ o
  behind-nil (fine s l) = refl
  behind-nil (stuck a n) = refl

  behind-behind : (k l : List (Placed A)) (o : Ending S A) → behind k (behind l o) ≡ behind (k ++ l) o
  behind-behind k l (fine s r) = ap (fine s) (sym (append_assoc k l r))
  behind-behind k l (stuck a n) = refl

  onward-behind : (k : List (Placed A)) (o : Ending S A) (go : S → Ending S A) → behind k (onward o go) ≡ onward (behind k o) go
  onward-behind k (fine s l) go = behind-behind k l (go s)
  onward-behind k (stuck a n) go = refl

  onward-end : (o : Ending S A) → onward o (λ s. fine s []) ≡ o
  onward-end (fine s l) = ap (fine s) (append-nil l)
  onward-end (stuck a n) = refl

module _ {A : Type 0} (W : Way A) where
  pub walk-append : (s : W.State) (xs ys : List A) → walk W s (xs ++ ys) ≡ onward (walk W s xs) (λ t. walk W t ys)
  walk-append s [] ys = sym (behind-nil (walk W s ys))
  walk-append s (x ∷ xs) ys = by (W.place s x) (λ t. walk-append t xs ys)
    where
      by : (o : Landing W.State) → ((t : W.State) → walk W t (xs ++ ys) ≡ onward (walk W t xs) (λ u. walk W u ys))
          → onward (landed x o) (λ t. walk W t (xs ++ ys)) ≡ onward (onward (landed x o) (λ t. walk W t xs)) (λ u. walk W u ys)
      by (lands t k) rec = ap (behind (map (placed_as x) k)) (rec t) ∙ onward-behind (map (placed_as x) k) (walk W t xs) (λ u. walk W u ys)
      by (refuses n) rec = refl

  pub record Parts (s : W.State) (xs ys : List A) (end : W.State) (log : List (Placed A)) : Type 0 where
    pub at : W.State
    pub past : List (Placed A)
    pub rest : List (Placed A)
    pub first : walk W s xs ≡ fine at past
    pub second : walk W at ys ≡ fine end rest
    pub joins : log ≡ past ++ rest

  pub in_parts : (s : W.State) (xs ys : List A) (end : W.State) (log : List (Placed A)) → walk W s (xs ++ ys) ≡ fine end log → Parts s xs ys end log
  in_parts s xs ys end log e = by (walk W s xs) refl (sym (walk-append s xs ys) ∙ e)
    where
      then : (t : W.State) (k : List (Placed A)) → walk W s xs ≡ fine t k → (o : Ending W.State A) → walk W t ys ≡ o
          → behind k o ≡ fine end log → Parts s xs ys end log
      then t k f (fine u l) g h = record {
        at = t;
        past = k;
        rest = l;
        first = f;
        second = g ∙ (let z : u ≡ end = cc in ap (λ (v : W.State). fine v l) z);
        joins = cc;
      }
      then t k f (stuck b n) g h = let z : ◌≡◌ {A = ℕ} 0 1 = cc in absurd (omega arith)

      by : (o : Ending W.State A) → walk W s xs ≡ o → onward o (λ t. walk W t ys) ≡ fine end log → Parts s xs ys end log
      by (fine t k) f h = then t k f (walk W t ys) refl h
      by (stuck b n) f h = let z : ◌≡◌ {A = ℕ} 0 1 = cc in absurd (omega arith)

  pub rest-same : {s t : W.State} {end end' : W.State} {k l : List (Placed A)} (xs : List A) → s ≡ t → walk W s xs ≡ fine end k
      → walk W t xs ≡ fine end' l → (end ≡ end') × (k ≡ l)
  rest-same {s} {t} {end} {end'} {k} {l} xs e f g =
      let both : fine end k ≡ fine end' l = sym f ∙ (ap (λ (z : W.State). walk W z xs) e ∙ g) in
      ((cc), (cc))

  -- ---- where a walk sticks

  -- what is placed before a walk sticks, in two parts
  until-append : (s t : W.State) (xs ys : List A) (l : List (Placed A)) → walk W s xs ≡ fine t l → placed_until W s (xs ++ ys) ≡ l ++ placed_until W t ys
  until-append s t [] ys l e =
      let same : s ≡ t = cc in
      let none : [] ≡ l = cc in
      ap (λ (z : W.State). placed_until W z ys) same ∙ ap (λ (z : List (Placed A)). z ++ placed_until W t ys) none
  until-append s t (x ∷ xs) ys l e = by (W.place s x) e (λ u k h. until-append u t xs ys k h)
    where
      then : (u : W.State) (k : List (Placed A))
          → ((r : List (Placed A)) → walk W u xs ≡ fine t r → placed_until W u (xs ++ ys) ≡ r ++ placed_until W t ys)
          → (o : Ending W.State A) → walk W u xs ≡ o → behind k o ≡ fine t l → k ++ placed_until W u (xs ++ ys) ≡ l ++ placed_until W t ys
      then u k rec (fine v r) is h =
          let same : v ≡ t = cc in
          let joins : k ++ r ≡ l = cc in
          ap (λ (z : List (Placed A)). k ++ z) (rec r (is ∙ ap (λ (z : W.State). fine z r) same))
          ∙ (sym (append_assoc k r (placed_until W t ys)) ∙ ap (λ (z : List (Placed A)). z ++ placed_until W t ys) joins)
      then u k rec (stuck b n) is h = let z : ◌≡◌ {A = ℕ} 0 1 = cc in absurd (omega arith)

      by : (o : Landing W.State) → onward (landed x o) (λ u. walk W u xs) ≡ fine t l
          → ((u : W.State) (k : List (Placed A)) → walk W u xs ≡ fine t k → placed_until W u (xs ++ ys) ≡ k ++ placed_until W t ys)
          → onward_placed (landed x o) (λ u. placed_until W u (xs ++ ys)) ≡ l ++ placed_until W t ys
      by (lands u k) h rec = then u (map (placed_as x) k) (rec u) (walk W u xs) refl h
      by (refuses n) h rec = let z : ◌≡◌ {A = ℕ} 0 1 = cc in absurd (omega arith)

  pub until-fine : (s t : W.State) (xs : List A) (l : List (Placed A)) → walk W s xs ≡ fine t l → placed_until W s xs ≡ l
  until-fine s t xs l e = ap (placed_until W s) (sym (append-nil xs)) ∙ (until-append s t xs [] l e ∙ append-nil l)

  pub until-stuck : (s t : W.State) (xs ys : List A) (a : A) (n : ℕ) (l : List (Placed A)) → walk W s xs ≡ fine t l → W.place t a ≡ refuses n
      → placed_until W s (xs ++ (a ∷ ys)) ≡ l
  until-stuck s t xs ys a n l e none = until-append s t xs (a ∷ ys) l e
      ∙ (ap (λ (z : Landing W.State). l ++ onward_placed (landed a z) (λ u. placed_until W u ys)) none ∙ append-nil l)

  pub stuck-where : (s : W.State) (xs : List A) (a : A) (n : ℕ) → walk W s xs ≡ stuck a n → SticksAt W s xs a n
  stuck-where s [] a n e = let z : ◌≡◌ {A = ℕ} 0 1 = cc in absurd (omega arith)
  stuck-where s (x ∷ xs) a n e = by (W.place s x) refl e (λ t h. stuck-where t xs a n h)
    where
      inside : (k : List (Placed A)) (o : Ending W.State A) → behind k o ≡ stuck a n → o ≡ stuck a n
      inside k (fine t l) h = let z : ◌≡◌ {A = ℕ} 0 1 = cc in absurd (omega arith)
      inside k (stuck b j) h = h

      by : (o : Landing W.State) → W.place s x ≡ o → onward (landed x o) (λ t. walk W t xs) ≡ stuck a n
          → ((t : W.State) → walk W t xs ≡ stuck a n → SticksAt W t xs a n) → SticksAt W s (x ∷ xs) a n
      by (lands t k) f h rec =
          let r = rec t (inside (map (placed_as x) k) (walk W t xs) h) in
          let past = map (placed_as x) k in
          let until : past ++ placed_until W t xs ≡ placed_until W s (x ∷ xs) =
          ap (λ (z : Landing W.State). onward_placed (landed x z) (λ u. placed_until W u xs)) (sym f) in
          record {
            ahead = x ∷ r.ahead;
            later = r.later;
            at = r.at;
            order = ap (λ (z : List A). x ∷ z) r.order;
            reached = ap (λ (z : Landing W.State). onward (landed x z) (λ u. walk W u r.ahead)) f
                ∙ (ap (behind past) r.reached ∙ ap (fine r.at) until);
            refused = r.refused;
          }
      by (refuses j) f h rec =
          let own : x ≡ a = cc in
          let number : j ≡ n = cc in
          record {
            ahead = [];
            later = xs;
            at = s;
            order = ap (λ (z : A). z ∷ xs) own;
            reached = ap (λ (z : Landing W.State). fine s (onward_placed (landed x z) (λ u. placed_until W u xs))) (sym f);
            refused = ap (W.place s) (sym own) ∙ (f ∙ ap refuses number);
          }

  -- stuck or not, a walk does not stick over the items ahead of where it does
  pub record Reaches (s : W.State) (xs : List A) : Type 0 where
    pub ahead : List A
    pub rest : List A
    pub at : W.State
    pub order : xs ≡ ahead ++ rest
    pub reached : walk W s ahead ≡ fine at (placed_until W s xs)

  pub until-reaches : (s : W.State) (xs : List A) → Reaches s xs
  until-reaches s xs = by (walk W s xs) refl
    where
      by : (o : Ending W.State A) → walk W s xs ≡ o → Reaches s xs
      by (fine t l) e =
          record { ahead = xs; rest = []; at = t; order = sym (append-nil xs); reached = e ∙ ap (fine t) (sym (until-fine s t xs l e)) }
      by (stuck a n) e =
          (let h = stuck-where s xs a n e in record { ahead = h.ahead; rest = a ∷ h.later; at = h.at; order = h.order; reached = h.reached })

  -- ---- as code goes: one item more

  pub walk-snoc : (s t : W.State) (xs : List A) (x : A) (l : List (Placed A)) → walk W s xs ≡ fine t l
      → walk W s (xs ++ (x ∷ [])) ≡ behind l (landed x (W.place t x))
  walk-snoc s t xs x l e = walk-append s xs (x ∷ [])
      ∙ (ap (λ (o : Ending W.State A). onward o (λ u. walk W u (x ∷ []))) e ∙ ap (behind l) (onward-end (landed x (W.place t x))))

  pub walk-stuck : (s : W.State) (xs ys : List A) (a : A) (n : ℕ) → walk W s xs ≡ stuck a n → walk W s (xs ++ ys) ≡ stuck a n
  walk-stuck s xs ys a n e = walk-append s xs ys ∙ ap (λ (o : Ending W.State A). onward o (λ u. walk W u ys)) e

  pub until-still : (s : W.State) (xs ys : List A) (a : A) (n : ℕ) → walk W s xs ≡ stuck a n → placed_until W s (xs ++ ys) ≡ placed_until W s xs
  until-still s xs ys a n e =
      let at = stuck-where s xs a n e in
      let order : xs ++ ys ≡ at.ahead ++ (a ∷ (at.later ++ ys)) =
      ap (λ (z : List A). z ++ ys) at.order ∙ append_assoc at.ahead (a ∷ at.later) ys in
      ap (placed_until W s) order
      ∙ until-stuck s at.at at.ahead (at.later ++ ys) a n (placed_until W s xs) at.reached at.refused

-- ---- what a walk keeps

module _ {A : Type 0} (W : Way A) (Good : A → Type 0) (I : List A → W.State → List (Placed A) → Type 0)
    (step : (done : List A) (s : W.State) (log : List (Placed A)) (a : A) → Good a → I done s log
    → IfLands (λ t l. I (done ++ (a ∷ [])) t (log ++ map (placed_as a) l)) (W.place s a)) where
  pub walk-keeps : (done : List A) (s : W.State) (log : List (Placed A)) (xs : List A) → Each Good xs → I done s log
      → IfFine (λ t l. I (done ++ xs) t (log ++ l)) (walk W s xs)
  walk-keeps done s log [] good h = rw (append-nil done, append-nil log) h
  walk-keeps done s log (x ∷ xs) good h = by (W.place s x) (step done s log x good.0 h) (λ t k g. walk-keeps (done ++ (x ∷ [])) t (log ++ k) xs good.1 g)
    where
      join : (k : List (Placed A)) (o : Ending W.State A) → IfFine (λ t l. I ((done ++ (x ∷ [])) ++ xs) t ((log ++ k) ++ l)) o
          → IfFine (λ t l. I (done ++ (x ∷ xs)) t (log ++ l)) (behind k o)
      join k (fine t l) g =
          subst (λ (z : List A). I z t (log ++ (k ++ l))) (append_assoc done (x ∷ []) xs)
          (subst (λ (z : List (Placed A)). I ((done ++ (x ∷ [])) ++ xs) t z) (append_assoc log k l) g)
      join k (stuck b n) g = tt

      by : (o : Landing W.State) → IfLands (λ t l. I (done ++ (x ∷ [])) t (log ++ map (placed_as x) l)) o
          → ((t : W.State) (k : List (Placed A)) → I (done ++ (x ∷ [])) t (log ++ k)
          → IfFine (λ u l. I ((done ++ (x ∷ [])) ++ xs) u ((log ++ k) ++ l)) (walk W t xs))
          → IfFine (λ t l. I (done ++ (x ∷ xs)) t (log ++ l)) (onward (landed x o) (λ t. walk W t xs))
      by (lands t k) g rec = join (map (placed_as x) k) (walk W t xs) (rec t (map (placed_as x) k) g)
      by (refuses n) g rec = tt

  -- from the beginning
  pub over-keeps : I [] W.begin [] → (xs : List A) → Each Good xs → (t : W.State) (l : List (Placed A)) → walk_over W xs ≡ fine t l → I xs t l
  over-keeps start xs good t l e = subst (IfFine (I xs)) e (walk-keeps [] W.begin [] xs good start)

-- ---- item by item

module _ {A : Type 0} (Q : List (Placed A) → A → List Spot → Type 0) where
  pub shares-snoc : {past : List (Placed A)} {xs : List A} {log : List (Placed A)} (a : A) (l : List Spot) → Shares Q past xs log → Q (past ++ log) a l
      → Shares Q past (xs ++ (a ∷ [])) (log ++ map (placed_as a) l)
  shares-snoc {past = past} a l nil h =
      subst (Shares Q past (a ∷ [])) (append-nil (map (placed_as a) l)) (more (subst (λ (z : List (Placed A)). Q z a l) (append-nil past) h) nil)
  shares-snoc {past = past} a l (more {a = b} {k = k} {l = r} {rest = rest} g t) h =
      let later : Q ((past ++ map (placed_as b) k) ++ r) a l = subst (λ (z : List (Placed A)). Q z a l) (sym (append_assoc past (map (placed_as b) k) r)) h in
      subst (Shares Q past (b ∷ (rest ++ (a ∷ [])))) (sym (append_assoc (map (placed_as b) k) r (map (placed_as a) l))) (more g (shares-snoc a l t later))

-- what is placed is of the items walked
module _ {A : Type 0} (P : A → Type 0) (a : A) (good : P a) where
  pub placed-each : (l : List Spot) → Each (λ e. P e.item) (map (placed_as a) l)
  placed-each [] = tt
  placed-each (e ∷ l) = (good, placed-each l)

pub walk-items : {A : Type 0} (W : Way A) (P : A → Type 0) (s t : W.State) (xs : List A) (l : List (Placed A)) → Each P xs
    → walk W s xs ≡ fine t l → Each (λ e. P e.item) l
walk-items {A} W P s t xs l all e =
    subst (IfFine (λ u k. Each (λ (x : Placed A). P x.item) k)) e
    (walk-keeps W P (λ done u k. Each (λ (x : Placed A). P x.item) k) step [] s [] xs all tt)
  where
    step : (done : List A) (u : W.State) (log : List (Placed A)) (a : A) → P a → Each (λ (x : Placed A). P x.item) log
        → IfLands (λ v k. Each (λ (x : Placed A). P x.item) (log ++ map (placed_as a) k)) (W.place u a)
    step done u log a good old = by (W.place u a)
      where
        by : (o : Landing W.State) → IfLands (λ v k. Each (λ (x : Placed A). P x.item) (log ++ map (placed_as a) k)) o
        by (lands v k) = each-join (λ (x : Placed A). P x.item) log (map (placed_as a) k) old (placed-each P a good k)
        by (refuses n) = tt

-- ---- items that stand for others

module _ {A B : Type 0} (f : A → B) where
  placed-as : (a : A) (l : List Spot) → map (relabel f) (map (placed_as a) l) ≡ map (placed_as (f a)) l
  placed-as a [] = refl
  placed-as a (e ∷ l) = ap (λ (z : List (Placed B)). placed_as (f a) e ∷ z) (placed-as a l)

  behind-map : {S : Type 0} (l : List (Placed A)) (o : Ending S A) → relabelled f (behind l o) ≡ behind (map (relabel f) l) (relabelled f o)
  behind-map l (fine s k) = rw map-append
  behind-map l (stuck a n) = refl

  pub walk-map : (W : Way B) (s : W.State) (xs : List A) → relabelled f (walk (through f W) s xs) ≡ walk W s (map f xs)
  walk-map W s [] = refl
  walk-map W s (x ∷ xs) = by (W.place s (f x)) (λ t. walk-map W t xs)
    where
      by : (o : Landing W.State) → ((t : W.State) → relabelled f (walk (through f W) t xs) ≡ walk W t (map f xs))
          → relabelled f (onward (landed x o) (λ t. walk (through f W) t xs)) ≡ onward (landed (f x) o) (λ t. walk W t (map f xs))
      by (lands t k) rec = behind-map (map (placed_as x) k) (walk (through f W) t xs)
          ∙ (ap (λ (z : List (Placed B)). behind z (relabelled f (walk (through f W) t xs))) (placed-as x k)
          ∙ ap (behind (map (placed_as (f x)) k)) (rec t))
      by (refuses n) rec = refl

  -- in packing order
  pub of_map : (W : Way B) (xs : List A) → relabelled f (walk_of (through f W) xs) ≡ walk_of W (map f xs)
  of_map W xs = walk-map W W.begin (pack (through f W).beats xs) ∙ ap (walk_over W) (pack-map f W.beats xs)
