-- Tasks of distinct names: what a faultless list has.
-- Assumes nothing.
--
--   Unnamed n ts           no task of ts is named n
--   name-exact             the test of names tells equal names from others
--   Across done items      no task of items has a name of done
--   Clean t                a task of right form and sizes
--   place_none, place-unnamed    the place of a name that no task has
--   faults-known, faults-none    no fault down a list, told by its tasks
use mathlib.Core.Path.{◌≡◌, refl, sym, ◌∙◌}
use mathlib.Core.Bool.{Bool, true, false, cond}
use mathlib.Core.List.{List, [], ◌∷◌, ◌++◌}
use Prim.Native.Nat.{ℕ, ◌+◌, ◌≤◌}
use native.Mathlib.Omega.{arith}
use borrow.Author.Tests.{eqb-true}
use lib.Dec.{eqb}
use Rattle.demand.specs.Sizes.{Each, sized}
use Rattle.demand.proofs.Sums.{each-imp, each_snoc, each-front, each_last}
use Rattle.task.specs.declared.Name.{Name}
use Rattle.task.specs.declared.Task.{Task}
use Rattle.task.specs.Names.{formed, same_name}
use Rattle.task.specs.Tasks.{whole_piece, place_of, rule, fault_of, first_fault}
use Rattle.task.proofs.NameLaws.{same-name-exact}
use Rattle.task.proofs.TaskLaws.{fault-free, rule-fine, or-else-fine}
use Rattle.walks.specs.Lists.{Lacks, Apart}
use Rattle.walks.proofs.KeyLaws.{Exact, same-other}
use Rattle.edits.specs.Edits.{by_name}

abbrev pub Unnamed : Name → List Task → Type 0
Unnamed n ts = Lacks (λ t. t.name) n ts

-- ---- two names

pub name-exact : Exact by_name
name-exact = record { told = λ a b. (same-name-exact a b).0; untold = differ }
  where
    differ : (a b : Name) → same_name a b ≡ false → a ≡ b → ⊥
    differ a b never same =
        let twice : true ≡ false = sym ((same-name-exact a b).1 same) ∙ never in
        let z : ◌≡◌ {A = ℕ} 0 1 = cc in
        omega arith

differ-name : (a b : Name) → (a ≡ b → ⊥) → same_name a b ≡ false
differ-name = same-other by_name name-exact

-- ---- no fault down a list

-- no task of items has a name of done
abbrev pub Across : List Task → List Task → Type 0
Across done items = Each (λ t. Unnamed t.name done) items

pub across-none : (items : List Task) → Across [] items
across-none [] = tt
across-none (t ∷ items) = (tt, across-none items)

pub record Clean (t : Task) : Type 0 where
  pub named : formed t.name ≡ true
  pub timed : sized (whole_piece t.times) ≡ true

-- the place of a name that no task has, and of one that a task has
pub place_none : (k : ℕ) (n : Name) (ts : List Task) → 1 ≤ k → place_of k n ts ≡ 0 → Unnamed n ts
place_none k n [] some e = tt
place_none k n (t ∷ ts) some e = by (same_name n t.name) refl e (λ h. place_none (k + 1) n ts (omega arith) h)
  where
    by : (x : Bool) → same_name n t.name ≡ x → cond x k (place_of (k + 1) n ts) ≡ 0 → (place_of (k + 1) n ts ≡ 0 → Unnamed n ts) → Unnamed n (t ∷ ts)
    by true told z rec = absurd (omega arith)
    by false told z rec = ((λ same. name-exact.untold n t.name told (sym same)), rec z)

pub place-unnamed : (k : ℕ) (n : Name) (ts : List Task) → Unnamed n ts → place_of k n ts ≡ 0
place-unnamed k n [] never = refl
place-unnamed k n (t ∷ ts) never = rw (differ-name n t.name (λ same. never.0 (sym same))) (place-unnamed (k + 1) n ts never.1)

fault-clean : (above : List Task) (t : Task) → fault_of above t ≡ 0 → Clean t × Unnamed t.name above
unfolding fault_of
fault-clean above t e =
    let alone : Bool = eqb (place_of 1 t.name above) 0 in
    let a = rule-fine (formed t.name) 7 (rule (sized (whole_piece t.times)) 3 (rule alone 4 0)) e in
    let b = rule-fine (sized (whole_piece t.times)) 2 (rule alone 4 0) a.1 in
    let d = rule-fine alone 3 0 b.1 in
    (record { named = a.0; timed = b.0 }, place_none 1 t.name above (omega arith) (eqb-true (place_of 1 t.name above) 0 d.0))

pub faults-known : (above ts : List Task) → first_fault above ts ≡ 0 → Each Clean ts × Across above ts × Apart (λ t. t.name) ts
faults-known above [] e = (tt, tt, tt)
faults-known above (t ∷ ts) e =
    let both = or-else-fine (fault_of above t) (first_fault (above ++ (t ∷ [])) ts) e in
    let one = fault-clean above t both.0 in
    let rest = faults-known (above ++ (t ∷ [])) ts both.1 in (
      (one.0, rest.0),
      (
        one.1,
        each-imp (λ u. Unnamed u.name (above ++ (t ∷ []))) (λ u. Unnamed u.name above)
            (λ u never. each-front (λ v. v.name ≡ u.name → ⊥) above t never) ts rest.1,
      ),
      (
        each-imp (λ u. Unnamed u.name (above ++ (t ∷ []))) (λ u. u.name ≡ t.name
            → ⊥) (λ u never same. each_last (λ v. v.name ≡ u.name → ⊥) above t never (sym same)) ts rest.1,
        rest.2,
      ),
    )

pub faults-none : (above ts : List Task) → Each Clean ts → Across above ts → Apart (λ t. t.name) ts → first_fault above ts ≡ 0
faults-none above [] clean across apart = refl
faults-none above (t ∷ ts) clean across apart =
    rw (fault-free above t clean.0.named clean.0.timed (place-unnamed 1 t.name above across.0))
    (faults-none (above ++ (t ∷ [])) ts clean.1 (more ts across.1 apart.0) apart.1)
  where
    more : (us : List Task) → Across above us → Unnamed t.name us → Across (above ++ (t ∷ [])) us
    more [] x y = tt
    more (u ∷ us) x y = (each_snoc (λ v. v.name ≡ u.name → ⊥) above t x.0 (λ same. y.0 (sym same)), more us x.1 y.1)
