-- Demand 3's second and third sentences, for any way: what the walks over two lists that differ by one item have in common.
-- Assumes nothing.
--
--   share_on N k q log         the pieces on core q of the item with the key k
--   share-first, share-last   all of a key's pieces come from the part of a walk that has the key
--   first-kept                walks over orders with one beginning give each key in it the same pieces
--   last-kept                 so do walks over orders with one end, where their states are equal before it
--   Between, Around           two lists that are one list, each with an item of one key put in at one place or without it
--   Sorts N Good l            what the packing order needs of a list: keys apart, items good
--   kept-before               each item before the edited one in both packing orders keeps its pieces
--   kept-after                where the states are equal at a later item, it and all later ones keep theirs
use mathlib.Core.Path.{◌≡◌, refl, sym, ap, ◌∙◌, subst}
use mathlib.Core.Bool.{false}
use mathlib.Core.Logic.{◌⊎◌, inl, inr, ⊎_elim}
use mathlib.Core.List.{List, [], ◌∷◌, ◌++◌, append-nil, map, map-append}
use Prim.Native.Nat.{ℕ}
use lib.Dec.{eqb}
use Rattle.demand.specs.declared.Piece.{Piece}
use Rattle.demand.specs.Sizes.{Each}
use Rattle.demand.proofs.Sums.{each-imp}
use Rattle.walks.specs.Lists.{Apart}
use Rattle.walks.specs.Order.{pack}
use Rattle.walks.specs.Way.{Placed, Way, fine, walk, walk_over, walk_of, on_core}
use Rattle.walks.specs.Edits.{Keyed}
use Rattle.walks.specs.Kept.{of_key, Among, Before, Behind, Meet}
use Rattle.walks.proofs.ListLaws.{each-parts, each-only, apart-less, only-append, only_none}
use Rattle.walks.proofs.OrderLaws.{Lawful, pack-gap, pack-apart}
use Rattle.walks.proofs.WayLaws.{Parts, in_parts, rest-same, walk-items}
use Rattle.walks.proofs.KeyLaws.{Exact, same-other, apart-first, apart-last}
use Rattle.walks.proofs.TouchLaws.{Touch, Fore, fore, hind, gap-put}

-- ---- what is placed of a key

module _ {A K : Type 0} (N : Keyed A K) where
  abbrev pub share_on : K → ℕ → List (Placed A) → List Piece
  share_on k q log = map (λ e. e.piece) (of_key N k (on_core q log))

  module _ (exact : Exact N) (k : K) (q : ℕ) where
    other : (e : Placed A) → (N.key e.item ≡ k → ⊥) → N.same k (N.key e.item) ≡ false
    other e never = same-other N exact k (N.key e.item) (λ e. never (sym e))

    pub share-append : (l r : List (Placed A)) → share_on k q (l ++ r) ≡ share_on k q l ++ share_on k q r
    share-append l r = rw (only-append, only-append, map-append)

    share-none : (l : List (Placed A)) → Each (λ e. N.key e.item ≡ k → ⊥) l → share_on k q l ≡ []
    share-none l never =
        let none : of_key N k (on_core q l) ≡ [] =
        only_none (λ e. N.same k (N.key e.item)) (on_core q l)
        (each-imp (λ e. N.key e.item ≡ k → ⊥) (λ e. N.same k (N.key e.item) ≡ false) other (on_core q l)
        (each-only (λ e. N.key e.item ≡ k → ⊥) (λ e. eqb e.on q) l never)) in
        ap (map (λ (e : Placed A). e.piece)) none

-- ---- two walks

module _ {A K : Type 0} (W : Way A) (N : Keyed A K) (exact : Exact N) (b : K) (q : ℕ) where
  module _ {s : W.State} {xs ys : List A} {end : W.State} {log : List (Placed A)} (apart : Apart N.key (xs ++ ys)) (parts : Parts W s xs ys end log) where
    pub share-first : Among N b xs → share_on N b q log ≡ share_on N b q parts.past
    share-first m =
        let none =
        share-none N exact b q parts.rest
        (walk-items W (λ a. N.key a ≡ b → ⊥) parts.at end ys parts.rest (apart-first N b xs ys apart m) parts.second) in
        ap (share_on N b q) parts.joins ∙ (share-append N exact b q parts.past parts.rest ∙ rw none (append-nil (share_on N b q parts.past)))

    pub share-last : Among N b ys → share_on N b q log ≡ share_on N b q parts.rest
    share-last m =
        let none =
        share-none N exact b q parts.past
        (walk-items W (λ a. N.key a ≡ b → ⊥) s parts.at xs parts.past (apart-last N b xs ys apart m) parts.first) in
        ap (share_on N b q) parts.joins ∙ (share-append N exact b q parts.past parts.rest ∙ rw none)

  module _ (s : W.State) {end end' : W.State} {log log' : List (Placed A)} where
    pub first-kept : (xs ys zs : List A) → Apart N.key (xs ++ ys) → Apart N.key (xs ++ zs) → walk W s (xs ++ ys) ≡ fine end log
        → walk W s (xs ++ zs) ≡ fine end' log' → Among N b xs → share_on N b q log ≡ share_on N b q log'
    first-kept xs ys zs apart apart' w v m =
        let x = in_parts W s xs ys end log w in
        let y = in_parts W s xs zs end' log' v in
        let same = rest-same W xs refl x.first y.first in
        share-first apart x m ∙ (ap (share_on N b q) same.1 ∙ sym (share-first apart' y m))

    pub last-kept : (xs ys zs : List A) (t : W.State) (k l : List (Placed A)) → Apart N.key (xs ++ zs) → Apart N.key (ys ++ zs)
        → walk W s (xs ++ zs) ≡ fine end log → walk W s (ys ++ zs) ≡ fine end' log' →
        walk W s xs ≡ fine t k → walk W s ys ≡ fine t l → Among N b zs → share_on N b q log ≡ share_on N b q log'
    last-kept xs ys zs t k l apart apart' w v old new m =
        let x = in_parts W s xs zs end log w in
        let y = in_parts W s ys zs end' log' v in
        let at = (rest-same W xs refl x.first old).0 ∙ sym (rest-same W ys refl y.first new).0 in
        let same = rest-same W zs at x.second y.second in
        share-last apart x m ∙ (ap (share_on N b q) same.1 ∙ sym (share-last apart' y m))

-- ---- demand 3

-- l is xs and ys, or has one item with the key k between them; old and new are so of the same xs and ys
abbrev pub Between : {A K : Type 0} → Keyed A K → K → List A → List A → List A → Type 0
Between {A} N k xs ys l = (l ≡ xs ++ ys) ⊎ ((a : A) × (N.key a ≡ k) × (l ≡ xs ++ (a ∷ ys)))

pub record Around {A K : Type 0} (N : Keyed A K) (k : K) (old new : List A) : Type 0 where
  pub xs : List A
  pub ys : List A
  pub in-old : Between N k xs ys old
  pub in-new : Between N k xs ys new

pub record Sorts {A K : Type 0} (N : Keyed A K) (Good : A → Type 0) (l : List A) : Type 0 where
  pub apart : Apart N.key l
  pub good : Each Good l

module _ {A K : Type 0} (W : Way A) (Good : A → Type 0) (lawful : Lawful Good W.beats) (N : Keyed A K) (exact : Exact N) where
  between-touch : {n : K} {l : List A} (xs ys : List A) → Sorts N Good l → Between N n xs ys l → Touch N n (pack W.beats l) (pack W.beats (xs ++ ys))
  between-touch xs ys sorts (inl e) = inl (ap (pack W.beats) e)
  between-touch {n} {l} xs ys sorts (inr h) =
      let good = each-parts Good xs (h.0 ∷ ys) (subst (Each Good) h.2 sorts.good) in
      let u = gap-put N (pack-gap Good W.beats lawful h.0 xs ys good.1.0 good.0 good.1.1) in
      inr (record {
        front = u.front;
        item = u.item;
        back = u.back;
        own = u.own ∙ h.1;
        more = ◌∙◌ {c = u.front ++ (u.item ∷ u.back)} (ap (pack W.beats) h.2) u.more;
        less = u.less;
      })

  between-apart : {n : K} {l : List A} (xs ys : List A) → Apart N.key l → Between N n xs ys l → Apart N.key (xs ++ ys)
  between-apart xs ys apart (inl e) = subst (Apart N.key) e apart
  between-apart xs ys apart (inr h) = apart-less N.key xs h.0 ys (subst (Apart N.key) h.2 apart)

  module _ {n : K} {old new : List A} (around : Around N n old new) (sorts : Sorts N Good old) (sorts' : Sorts N Good new)
      {end end' : W.State} {log log' : List (Placed A)} (plan : walk_of W old ≡ fine end log) (plan' : walk_of W new ≡ fine end' log') where
    abbrev order : List A → List A
    order l = pack W.beats l

    touch : Touch N n (order old) (order (around.xs ++ around.ys))
    touch = between-touch around.xs around.ys sorts around.in-old

    touch' : Touch N n (order new) (order (around.xs ++ around.ys))
    touch' = between-touch around.xs around.ys sorts' around.in-new

    abbrev Walks : List A → W.State → List (Placed A) → Type 0
    Walks l s k = walk_over W l ≡ fine s k

    pub kept-before : (b : K) → Before N n b (order old) → Before N n b (order new) → (q : ℕ) → share_on N b q log ≡ share_on N b q log'
    kept-before b before before' q = ⊎_elim alike within (fore N n b touch touch' before before')
      where
        alike : order old ≡ order new → share_on N b q log ≡ share_on N b q log'
        alike e =
            let both : fine end log ≡ fine end' log' = sym plan ∙ (ap (walk_over W) e ∙ plan') in
            let same : log ≡ log' = cc in
            ap (share_on N b q) same

        within : Fore N b (order old) (order new) → share_on N b q log ≡ share_on N b q log'
        within f =
            first-kept W N exact b q W.begin f.front f.old-rest f.new-rest
            (subst (Apart N.key) f.old-is (pack-apart N.key W.beats old sorts.apart))
            (subst (Apart N.key) f.new_is (pack-apart N.key W.beats new sorts'.apart))
            (subst (λ (z : List A). Walks z end log) f.old-is plan) (subst (λ (z : List A). Walks z end' log') f.new_is plan') f.among

    pub kept-after : {p r p' r' : List A} {b b' : A} → Behind N n (order old) p b r → Behind N n (order new) p' b' r' → N.key b ≡ N.key b'
        → Meet W p p' → (d : K) → Among N d (b ∷ r) → (q : ℕ) → share_on N d q log ≡ share_on N d q log'
    kept-after {p} {r} {p'} {r'} {b} {b'} behind behind' same meet d among q =
        let rest : b ∷ r ≡ b' ∷ r' =
        hind N p p' touch touch' (pack-apart N.key W.beats (around.xs ++ around.ys) (between-apart around.xs around.ys
        sorts.apart around.in-old)) behind.order behind'.order behind.later behind'.later same in
        let is-so : order new ≡ p' ++ (b ∷ r) = behind'.order ∙ ap (λ (z : List A). p' ++ z) (sym rest) in
        last-kept W N exact d q W.begin p p' (b ∷ r) meet.at meet.old-log meet.new-log
        (subst (Apart N.key) behind.order (pack-apart N.key W.beats old sorts.apart))
        (subst (Apart N.key) is-so (pack-apart N.key W.beats new sorts'.apart))
        (subst (λ (z : List A). Walks z end log) behind.order plan) (subst (λ (z : List A). Walks z end' log') is-so plan')
        meet.old-walk meet.new-walk among
