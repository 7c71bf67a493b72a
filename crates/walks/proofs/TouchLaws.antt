-- Lists that differ by one item, which is known by its key.
-- Assumes nothing.
--
--   meet                   two ways to part one list in two
--   Touch n l k            l is k, or k with one item of the key n put in
--   Fore, fore             two lists that touch one list begin alike, up to what is put in
--   hind                   and end alike, from an item behind it
--   gap-put                a slot puts one in
use mathlib.Core.Path.{◌≡◌, refl, sym, ap, ◌∙◌, subst}
use mathlib.Core.Logic.{◌⊎◌, inl, inr, ⊎_elim}
use mathlib.Core.List.{List, [], ◌∷◌, ◌++◌, append_assoc}
use Rattle.walks.specs.Lists.{Lacks, Apart}
use Rattle.walks.specs.Edits.{Keyed}
use Rattle.walks.specs.Kept.{Among, Before}
use Rattle.walks.proofs.ListLaws.{apart-end}
use Rattle.walks.proofs.OrderLaws.{Gap, here, there}
use Rattle.walks.proofs.KeyLaws.{among-key, among-middle}

pub meet : {A : Type 0} (p x q y : List A) → p ++ x ≡ q ++ y → ((r : List A) × (q ≡ p ++ r) × (x ≡ r ++ y)) ⊎ ((r : List A) × (p ≡ q ++ r) × (y ≡ r ++ x))
meet [] x q y e = inl (q, refl, e)
meet (a ∷ p) x [] y e = inr (a ∷ p, refl, sym e)
meet (a ∷ p) x (b ∷ q) y e =
    let head : a ≡ b = cc in
    let tail : p ++ x ≡ q ++ y = cc in
    ⊎_elim (λ z. inl (z.0, (let u = z.1 in cc), z.2)) (λ z. inr (z.0, (let u = z.1 in cc), z.2)) (meet p x q y tail)

module _ {A K : Type 0} (N : Keyed A K) where
  pub record Put (n : K) (l k : List A) : Type 0 where
    pub front : List A
    pub item : A
    pub back : List A
    pub own : N.key item ≡ n
    pub more : l ≡ front ++ (item ∷ back)
    pub less : k ≡ front ++ back

  abbrev pub Touch : K → List A → List A → Type 0
  Touch n l k = (l ≡ k) ⊎ Put n l k

  -- two orders with one beginning that has b in it
  pub record Fore (b : K) (old new : List A) : Type 0 where
    pub front : List A
    pub old-rest : List A
    pub new-rest : List A
    pub old-is : old ≡ front ++ old-rest
    pub new_is : new ≡ front ++ new-rest
    pub among : Among N b front

  fore-flip : {b : K} {old new : List A} → Fore b old new → Fore b new old
  fore-flip f = record { front = f.front; old-rest = f.new-rest; new-rest = f.old-rest; old-is = f.new_is; new_is = f.old-is; among = f.among }

  module _ (n b : K) where
    fore-one : {l k : List A} → Put n l k → Before N n b l → Fore b l k
    fore-one u before = record {
      front = u.front;
      old-rest = u.item ∷ u.back;
      new-rest = u.back;
      old-is = u.more;
      new_is = u.less;
      among = before u.front u.back u.item u.more u.own;
    }

    fore-two : {old new rest : List A} (u : Put n old rest) (v : Put n new rest) → Before N n b old → (r : List A) → v.front ≡ u.front ++ r → Fore b old new
    fore-two u v before r e = record {
      front = u.front;
      old-rest = u.item ∷ u.back;
      new-rest = r ++ (v.item ∷ v.back);
      old-is = u.more;
      new_is = v.more ∙ (ap (λ (z : List A). z ++ (v.item ∷ v.back)) e ∙ append_assoc u.front r (v.item ∷ v.back));
      among = before u.front u.back u.item u.more u.own;
    }

    pub fore : {old new rest : List A} → Touch n old rest → Touch n new rest → Before N n b old → Before N n b new → (old ≡ new) ⊎ Fore b old new
    fore (inl e) (inl f) x y = inl (e ∙ sym f)
    fore {old} {new} (inl e) (inr v) x y = inr (subst (λ (z : List A). Fore b z new) (sym e) (fore-flip (fore-one v y)))
    fore {old} {new} (inr u) (inl f) x y = inr (subst (λ (z : List A). Fore b old z) (sym f) (fore-one u x))
    fore (inr u) (inr v) x y =
        inr (⊎_elim (λ z. fore-two u v x z.0 z.1) (λ z. fore-flip (fore-two v u y z.0 z.1))
        (meet u.front u.back v.front v.back (sym u.less ∙ v.less)))

  -- what stands behind the item put in is in both
  touch-end : (n : K) {l k : List A} (p z : List A) → Touch n l k → l ≡ p ++ z → (Among N n z → ⊥) → (y : List A) × (k ≡ y ++ z)
  touch-end n p z (inl e) whole never = (p, sym e ∙ whole)
  touch-end n {l} {k} p z (inr u) whole never =
      ⊎_elim (λ w. inside w.0 w.2) (λ w. absurd (never (has w.0 w.2)))
      (meet u.front (u.item ∷ u.back) p z (sym u.more ∙ whole))
    where
      has : (r : List A) → z ≡ r ++ (u.item ∷ u.back) → Among N n z
      has r e = subst (Among N n) (sym e) (subst (λ (x : K). Among N x (r ++ (u.item ∷ u.back))) u.own (among-middle N r u.item u.back))

      inside : (r : List A) → u.item ∷ u.back ≡ r ++ z → (y : List A) × (k ≡ y ++ z)
      inside [] e = absurd (never (has [] (sym e)))
      inside (c ∷ r) e =
          (let tail : u.back ≡ r ++ z = cc in
          (u.front ++ r, u.less ∙ (ap (λ (x : List A). u.front ++ x) tail ∙ sym (append_assoc u.front r z))))

  -- a key stands at one place
  once : (a c : A) (y z r : List A) → N.key a ≡ N.key c → Apart N.key (a ∷ y) → a ∷ y ≡ r ++ (c ∷ z) → a ∷ y ≡ c ∷ z
  once a c y z [] same apart e = e
  once a c y z (d ∷ r) same apart e =
      let tail : y ≡ r ++ (c ∷ z) = cc in
      absurd (among-key N (λ n. n ≡ N.key a → ⊥) (r ++ (c ∷ z)) (among-middle N r c z) (subst (Lacks N.key (N.key a)) tail apart.0) (sym same))

  pub hind : {n : K} {old new rest : List A} (p p' : List A) {r r' : List A} {a c : A} → Touch n old rest → Touch n new rest
      → Apart N.key rest → old ≡ p ++ (a ∷ r) → new ≡ p' ++ (c ∷ r') → (Among N n (a ∷ r) → ⊥) → (Among N n (c ∷ r') → ⊥)
      → N.key a ≡ N.key c → a ∷ r ≡ c ∷ r'
  hind {n} p p' {r} {r'} {a} {c} u v apart e f never never' same =
      let x = touch-end n p (a ∷ r) u e never in
      let y = touch-end n p' (c ∷ r') v f never' in
      ⊎_elim
      (λ z. once a c r r' z.0 same (apart-end N.key x.0 (a ∷ r) (subst (Apart N.key) x.1 apart)) z.2)
      (λ z. sym (once c a r' r z.0 (sym same) (apart-end N.key y.0 (c ∷ r') (subst (Apart N.key) y.1 apart)) z.2))
      (meet x.0 (a ∷ r) y.0 (c ∷ r') (sym x.1 ∙ y.1))

  pub gap-put : {a : A} {l k : List A} → Gap a l k → Put (N.key a) l k
  gap-put {a} (here {l = l}) = record { front = []; item = a; back = l; own = refl; more = refl; less = refl }
  gap-put (there {b = b} g) =
      let u = gap-put g in
      record {
        front = b ∷ u.front;
        item = u.item;
        back = u.back;
        own = u.own;
        more = ap (λ (z : List A). b ∷ z) u.more;
        less = ap (λ (z : List A). b ∷ z) u.less;
      }
