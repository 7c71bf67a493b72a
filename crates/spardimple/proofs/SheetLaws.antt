-- From a sheet's bytes to its listing's, step by step as the code goes.
-- Assumes nothing.
--
--   paper-unread         a sheet that is refused comes to its refusal
--   paper-stuck          a sheet that is read and has no plan, to that one
--   paper-written        any other, to its plan's listing
--   plan-small, reply-small          how great the numbers of the plan's refusal are
--   told-long, told-short                     what is told of a listing, where the buffer is long enough and where not
--   over-length          a buffer that is written keeps its length
use mathlib.Core.Path.{◌≡◌, refl, sym, ap, subst, ◌∙◌}
use mathlib.Core.Logic.{◌⊎◌, inl, inr}
use mathlib.Core.Bool.{Bool, true, false, cond}
use mathlib.Core.List.{List, ◌++◌}
use Prim.Native.Nat.{ℕ, zero, suc, ◌≤◌, ◌<◌}
use native.Mathlib.Omega.{arith}
use borrow.Author.Tests.{le-leb, lt-leb, leb-true}
use lib.Dec.{leb}
use lib.ListN.{length, take, drop, length-take, length-drop, length-append}
use Rattle.demand.specs.declared.Costs.{Costs}
use Rattle.task.specs.declared.Task.{Task}
use Rattle.task.specs.declared.Machine.{Machine}
use Rattle.task.specs.Tasks.{state_fault}
use Rattle.task.proofs.TaskLaws.{state-sane}
use Rattle.plan.specs.Reply.{Reply}
use Rattle.walks.specs.Way.{Placed, fine, stuck}
use Rattle.walks.specs.Halves.{Stand}
use Rattle.plan.specs.Walk.{walked}
use Rattle.plan.specs.Plan.{finished, plan_of, refused as refused_plan}
use Rattle.plan.proofs.Theorems.{plan-or-stuck, no-room-place}
use Rattle.sheet.specs.Sheet.{Read}
use Rattle.sheet.specs.Sheet.{read_of}
use Rattle.sheet.proofs.RuleLaws.{breaks-no-rule}
use Rattle.listing.specs.Text.{over}
use Rattle.listing.specs.Listing.{listing_of}
use Rattle.listing.specs.Papers.{Paper, refused, written}
use Rattle.spardimple.specs.Sheets.{unless, plan_sheet, listed, planned, paper_of}
use Rattle.spardimple.specs.Sheets.{refusal, told_paper}

pub unless-some : (n k : ℕ) (rest : Paper) → (n ≡ 0 → ⊥) → unless n k rest ≡ refused n k
unless-some zero k rest some = absurd (some refl)
unless-some (suc n) k rest some = refl

-- the plan of a state that breaks no rule comes, or the walk sticks at one of its tasks
pub plan-small : (m : Machine) (c : Costs) (n : ℕ) (ts : List Task) → state_fault m c n ts ≡ 0 → ((plan_of m c n ts).number ≤ 7) × ((plan_of m c n ts).carries ≤ 64)
plan-small m c n ts good = by (plan-or-stuck m c n ts good)
  where
    by : ((s : Stand) × (l : List (Placed ℕ)) × (walked m c (take n ts) ≡ fine s l) × (plan_of m c n ts ≡ finished m c (take n ts) (fine s l)))
        ⊎ ((k : ℕ) × (walked m c (take n ts) ≡ stuck k 7) × (plan_of m c n ts ≡ refused_plan 7 (suc k)))
        → ((plan_of m c n ts).number ≤ 7) × ((plan_of m c n ts).carries ≤ 64)
    by (inl h) = rw h.3 (omega arith, omega arith)
    by (inr h) = rw h.2 (omega arith, omega (arith, no-room-place m c n ts good h.0 h.1, length-take n ts, (state-sane m c n ts good).few))

module _ (sheet : List ℕ) (r : Read) (is : r ≡ read_of sheet) where
  pub paper-unread : (r.number ≡ 0 → ⊥) → paper_of sheet ≡ refused r.number r.carries
  unfolding paper_of
  paper-unread some = ap planned (sym is) ∙ unless-some r.number r.carries (listed (plan_sheet r.sheet)) some

  module _ (whole : r.number ≡ 0) (q : Reply) (by-plan : q ≡ plan_sheet r.sheet) where
    read : paper_of sheet ≡ listed q
    unfolding paper_of
    read = ap planned (sym is) ∙ (ap (λ (n : ℕ). unless n r.carries (listed (plan_sheet r.sheet))) whole ∙ ap listed (sym by-plan))

    pub paper-stuck : (q.number ≡ 0 → ⊥) → paper_of sheet ≡ refused q.number q.carries
    paper-stuck some = read ∙ unless-some q.number q.carries (written (listing_of q.plan)) some

    pub paper-written : q.number ≡ 0 → paper_of sheet ≡ written (listing_of q.plan)
    paper-written none = read ∙ ap (λ (n : ℕ). unless n q.carries (written (listing_of q.plan))) none

    pub reply-small : (q.number ≤ 7) × (q.carries ≤ 64)
    reply-small =
        let good = breaks-no-rule sheet (ap (λ (t : Read). t.number) (sym is) ∙ whole) in
        subst (λ (t : Reply). (t.number ≤ 7) × (t.carries ≤ 64)) (sym (by-plan ∙ ap (λ (t : Read). plan_sheet t.sheet) is))
        (plan-small (read_of sheet).sheet.machine (read_of sheet).sheet.costs (read_of sheet).sheet.tasks.count (read_of sheet).sheet.tasks.list good)

-- ---- what is given back, and what the buffer holds

pub told-long : (text : List ℕ) (room : ℕ) → length text ≤ room → told_paper (written text) room ≡ record { which = 0; carries = length text }
told-long text room fits = ap (λ (b : Bool). cond b (record { which = 0; carries = length text }) (refusal 10 (length text))) (le-leb (length text) room fits)

pub told-short : (text : List ℕ) (room : ℕ) → room < length text → told_paper (written text) room ≡ refusal 10 (length text)
told-short text room short =
    ap (λ (b : Bool). cond b (record { which = 0; carries = length text }) (refusal 10 (length text))) (lt-leb (length text) room short)

-- the buffer keeps its length
pub over-length : (text old : List ℕ) → length (over text old) ≡ length old
unfolding over
over-length text old = by (leb (length text) (length old)) refl
  where
    by : (b : Bool) → leb (length text) (length old) ≡ b → length (cond b (text ++ drop (length text) old) old) ≡ length old
    by true e = length-append text (drop (length text) old) ∙ omega (arith, length-drop (length text) old, leb-true (length text) (length old) e)
    by false e = refl
