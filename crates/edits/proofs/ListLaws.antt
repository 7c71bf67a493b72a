-- Laws of lists of tasks in an array: one more, one less, one in the place of another.
-- Assumes nothing.
--
--   room-none, room-some           whether one more has room, by the count
--   Found, place-from              the place of a name: which list has it no more, and which has another there
--   place-low                      that place in an array is below the count
--   lists-more                     the list with one more at the end
--   lists-put                      the list with a task in the place of the one of its name
--   lists-removed, lists-less      the list without a task, by its place and by its name
use mathlib.Core.Path.{◌≡◌, refl, sym, ap, ◌∙◌}
use mathlib.Core.Bool.{Bool, true, false, cond}
use mathlib.Core.List.{List, [], ◌∷◌, ◌++◌}
use Prim.Native.Nat.{ℕ, suc, ◌+◌, ◌-◌, ◌≤◌, ◌<◌}
use native.Mathlib.Numerals.{add-one}
use native.Mathlib.Omega.{arith}
use borrow.Author.Tests.{lt-ltb, le-ltb}
use lib.Dec.{ltb}
use lib.ListN.{length, take, drop, set, length-append, length-take, length-drop, length-set}
use lib.Seq.{take-suc-set, take-set-lt, take-take, take-append-le, length-take-le}
use Rattle.task.specs.declared.Name.{Name}
use Rattle.task.specs.declared.Task.{Task}
use Rattle.task.specs.declared.Tasks.{Tasks}
use Rattle.task.specs.Names.{same_name}
use Rattle.task.specs.Tasks.{tasks_most, place_of, list_of}
use Rattle.walks.specs.Edits.{without, replaced}
use Rattle.edits.specs.Edits.{by_name}
use Rattle.std.specs.List.{copy_within}
use Rattle.std.proofs.lemmas.List.{drop-take}
use lib.Seq.{take_all}
use Rattle.edits.specs.Ways.ListInArray.{Lists, removed}

-- ---- room, by the count of an array that is full at 64

module _ (q : Tasks) (long : length q.list ≡ tasks_most) where
  pub room-none : tasks_most ≤ q.count → ltb (length (list_of q)) tasks_most ≡ false
  room-none full = le-ltb (length (list_of q)) tasks_most (omega (arith, length-take q.count q.list))

  pub room-some : q.count < tasks_most → ltb (length (list_of q)) tasks_most ≡ true
  room-some less = lt-ltb (length (list_of q)) tasks_most (omega (arith, length-take q.count q.list))

-- ---- the place of a name, from 0, in a list that has it

record Found (n : Name) (ts : List Task) (i : ℕ) : Type 0 where
  inside : i < length ts
  less : without by_name n ts ≡ removed i ts
  put : (a : Task) → a.name ≡ n → replaced by_name a ts ≡ set ts i a

-- counted from k
record From (k : ℕ) (n : Name) (ts : List Task) (p : ℕ) : Type 0 where
  low : k ≤ p
  found : Found n ts (p - k)

place-from : (k : ℕ) (n : Name) (ts : List Task) → 1 ≤ k → (place_of k n ts ≡ 0 → ⊥) → From k n ts (place_of k n ts)
place-from k n [] pos some = absurd (some refl)
place-from k n (t ∷ ts) pos some = by-test (same_name n t.name) refl (λ h. place-from (k + 1) n ts (omega arith) h) some
  where
    named : (a : Task) → a.name ≡ n → (b : Bool) → same_name n t.name ≡ b → same_name a.name t.name ≡ b
    named a name b e = ap (λ (m : Name). same_name m t.name) name ∙ e

    by-test : (b : Bool) → same_name n t.name ≡ b → ((place_of (k + 1) n ts ≡ 0 → ⊥) → From (k + 1) n ts (place_of (k + 1) n ts))
        → (cond b k (place_of (k + 1) n ts) ≡ 0 → ⊥) → From k n (t ∷ ts) (cond b k (place_of (k + 1) n ts))
    by-test true e h s =
        let here : k - k ≡ 0 = omega arith in
        record { low = omega arith; found = rw here (record { inside = omega arith; less = rw e; put = λ a name. rw (named a name true e) }) }
    by-test false e h s =
        let r = h s in
        let on : place_of (k + 1) n ts - k ≡ suc (place_of (k + 1) n ts - (k + 1)) = omega (arith, r.low) in
        record {
          low = omega (arith, r.low);
          found = rw on (record {
            inside = omega (arith, r.found.inside);
            less = rw e (ap (λ (l : List Task). t ∷ l) r.found.less);
            put = λ a name. rw (named a name false e) (ap (λ (l : List Task). t ∷ l) (r.found.put a name));
          });
        }

-- ---- one more, and one in the place of another

module _ (q : Tasks) (long : length q.list ≡ tasks_most) (few : q.count ≤ tasks_most) where
  whole : length (list_of q) ≡ q.count
  whole = length-take-le q.count q.list (omega arith)

  pub lists-more : (t : Task) → q.count < tasks_most → Lists (record { count = q.count + 1; list = set q.list q.count t }) (list_of q ++ (t ∷ []))
  lists-more t less = record {
    count = omega (arith, whole, length-append (list_of q) (t ∷ []));
    items = rw (add-one, take-suc-set q.list q.count t (omega arith));
  }

  module _ (n : Name) (i : ℕ) (place : suc i ≡ place_of 1 n (list_of q)) where
    found : Found n (list_of q) i
    found =
        let there : From 1 n (list_of q) (suc i) = rw place (place-from 1 n (list_of q) (omega arith) (λ none. omega (arith, place, none))) in
        let back : suc i - 1 ≡ i = omega arith in
        rw back at there.found

    pub place-low : i < q.count
    place-low = omega (arith, found.inside, whole)

    pub lists-put : (t : Task) → t.name ≡ n → Lists (record { count = q.count; list = set q.list i t }) (replaced by_name t (list_of q))
    lists-put t name = record {
      count = sym (ap length (found.put t name) ∙ length-set (list_of q) i t ∙ whole);
      items = take-set-lt q.count q.list i t place-low ∙ sym (found.put t name);
    }

    pub lists-less : (r : Tasks) → Lists r (removed i (list_of q)) → Lists r (without by_name n (list_of q))
    lists-less r ok = rw found.less ok

-- ---- one less: what stands behind place i moves up

pub lists-removed : (q : Tasks) (i : ℕ) (next : List Task) → length q.list ≡ tasks_most → q.count ≤ tasks_most → i < q.count
    → next ≡ copy_within q.list (i + 1) q.count i → Lists (record { count = q.count - 1; list = next }) (removed i (list_of q))
lists-removed q i next long few low is =
    let n = q.count in
    let back : take (n - (i + 1)) (drop (i + 1) q.list) ≡ drop (suc i) (take n q.list) =
    (let e : i + 1 + (n - (i + 1)) ≡ n = omega arith in sym (drop-take (i + 1) (n - (i + 1)) q.list) ∙ rw (e, add-one)) in
    let front : take i q.list ≡ take i (take n q.list) = sym (take-take i n q.list (omega arith)) in
    let made : next ≡ removed i (list_of q) ++ drop (i + (n - (i + 1))) q.list =
    is ∙ rw (front, back) in
    let size : length (removed i (list_of q)) ≡ n - 1 =
    omega (arith, length-append (take i (list_of q)) (drop (suc i) (list_of q)), length-take i (list_of q), length-drop (suc i) (list_of q), length-take n q.list) in
    record {
      count = sym size;
      items =
          rw made
          (take-append-le (n - 1) (removed i (list_of q)) (drop (i + (n - (i + 1))) q.list) (omega (arith, size))
          ∙ take_all (n - 1) (removed i (list_of q)) (omega (arith, size)));
    }
