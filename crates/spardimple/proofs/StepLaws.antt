-- What sheets that are lent come to, step by step as the code goes.
-- Assumes nothing.
--
--   unread-plan, read-plan      the plan of what a sheet says
--   planning-paper, planning-from       what comes of it
--   planning-small, refusal-small, read-small     what its refusal carries
--   refusal-paper, refusal-from, plan-comes       what comes of a plan that is refused, and of one that comes
--   first-refused, second-refused, both-planned   what two sheets come to
--   refused-writes, written-writes      what is said of a paper, and what the buffer then holds
--   reached-never, reached-few          a sheet that is read has no fault that the walk would find, and where it sticks it is at one of 64 tasks
--   listed-numbered, core-shown-numbered, run-shown-numbered    the refusals have numbers
use Rattle.std.specs.Prelude.{Err, Ok, Result}
use mathlib.Core.Path.{◌≡◌, refl, sym, ap, subst, ◌∙◌}
use mathlib.Core.Logic.{◌⊎◌, inl, inr}
use mathlib.Core.Bool.{Bool, true, false, cond}
use mathlib.Core.List.{List}
use Prim.Native.Nat.{ℕ, zero, suc, ◌+◌, ◌^◌, ◌≤◌, ◌<◌}
use native.Mathlib.Omega.{arith}
use lib.Dec.{leb}
use lib.ListN.{length, take, length-take}
use Rattle.demand.specs.declared.Costs.{Costs}
use Rattle.task.specs.declared.Task.{Task}
use Rattle.task.specs.declared.Machine.{Machine}
use Rattle.task.specs.declared.faults.Refused.{Refused}
use Rattle.task.specs.Faults.{number_of}
use Rattle.task.specs.Tasks.{state_fault}
use Rattle.task.proofs.FaultLaws.{number-some}
use Rattle.task.proofs.TaskLaws.{state-sane}
use Rattle.walks.specs.Way.{Placed, fine, stuck}
use Rattle.walks.specs.Halves.{Stand}
use Rattle.plan.specs.declared.Plan.{Plan}
use Rattle.plan.specs.Reply.{Reply}
use Rattle.plan.specs.Walk.{walked}
use Rattle.plan.specs.Plan.{plan_of, reached_of, plan_reply, reached_reply, finished, no_plan, refused as refused_plan}
use Rattle.plan.proofs.Theorems.{plan-or-stuck, no-room-place, reached-ended}
use Rattle.sheet.specs.declared.Sheet.{Sheet}
use Rattle.sheet.specs.Sheet.{Read, read_of, read_shown}
use Rattle.sheet.proofs.RuleLaws.{breaks-no-rule}
use Rattle.sheet.proofs.SmallLaws.{read_small}
use Rattle.listing.specs.Text.{over}
use Rattle.listing.specs.Listing.{listing_of}
use Rattle.listing.specs.Papers.{Note, Paper, refused, written, note}
use Rattle.spardimple.specs.Numbers.{measured}
use Rattle.spardimple.specs.Sheets.{unless, plan_sheet, listed, paper_of}
use Rattle.spardimple.specs.Diffs.{second_from, unless_from, reply_from, plan_from, diff_paper}
use Rattle.listing.specs.Diff.{diff_of}
use Rattle.listing.specs.Why.{why_run}
use Rattle.spardimple.proofs.DiffLaws.{from_some}
use Rattle.spardimple.specs.Whys.{why_records, why_core, reached_sheet, why_reached}
use Rattle.spardimple.specs.Bytes.{pieces_of, costs_spelt}
use Rattle.spardimple.specs.Ways.Steps.{reply_unless, reply_after, planning, Writes}
use Rattle.spardimple.proofs.SheetLaws.{unless-some, plan-small}
use Rattle.spardimple.proofs.WhySteps.{Numbered, run-numbered, core-numbered}

-- ---- a sheet's plan

reply-some : (n k : ℕ) (rest : Reply) → (n ≡ 0 → ⊥) → reply_unless n k rest ≡ refused_plan n k
reply-some zero k rest some = absurd (some refl)
reply-some (suc n) k rest some = refl

module _ (sheet : List ℕ) where
  pub unread-plan : (r : Refused) → read_shown (Err r) ≡ read_of sheet → plan_reply (Err r) ≡ planning sheet
  unread-plan r is = sym (reply-some (number_of r.fault) r.carries (plan_sheet (read_shown (Err r)).sheet) (number-some r.fault)) ∙ ap reply_after is

  pub read-plan : (s : Sheet) → read_shown (Ok s) ≡ read_of sheet → (q : Reply) → q ≡ plan_sheet s → q ≡ planning sheet
  read-plan s is q e = e ∙ ap reply_after is

  pub planning-paper : paper_of sheet ≡ listed (planning sheet)
  unfolding paper_of
  planning-paper = by (read_of sheet).number (read_of sheet).carries (plan_sheet (read_of sheet).sheet)
    where
      by : (n k : ℕ) (q : Reply) → unless n k (listed q) ≡ listed (reply_unless n k q)
      by zero k q = refl
      by (suc n) k q = refl

  pub planning-from : (m : ℕ) (go : Plan → Paper) → plan_from m (read_of sheet) go ≡ reply_from m (planning sheet) go
  planning-from m go = by (read_of sheet).number (read_of sheet).carries (plan_sheet (read_of sheet).sheet)
    where
      by : (n k : ℕ) (q : Reply) → unless_from m n k (reply_from m q go) ≡ reply_from m (reply_unless n k q) go
      by zero k q = refl
      by (suc n) k q = refl

  pub planning-small : (planning sheet).carries ≤ 16385
  planning-small = by (read_of sheet).number refl
    where
      by : (n : ℕ) → (read_of sheet).number ≡ n → (reply_unless n (read_of sheet).carries (plan_sheet (read_of sheet).sheet)).carries ≤ 16385
      by zero whole =
          let s : Sheet = (read_of sheet).sheet in
          let small = plan-small s.machine s.costs s.tasks.count s.tasks.list (breaks-no-rule sheet whole) in
          omega (arith, small.1)
      by (suc n) some = (read_small sheet).1

  -- a plan that is refused, and one that comes
  module _ (why : Refused) (is : plan_reply (Err why) ≡ planning sheet) where
    pub refusal-small : why.carries < 2 ^ 32
    refusal-small = omega (arith, ap (λ (q : Reply). q.carries) is, planning-small)

    pub refusal-paper : paper_of sheet ≡ refused (number_of why.fault) why.carries
    refusal-paper = planning-paper ∙ (ap listed (sym is) ∙ unless-some (number_of why.fault) why.carries (written (listing_of (plan_reply (Err why)).plan)) (number-some why.fault))

    pub refusal-from : (m : ℕ) (go : Plan → Paper) → plan_from m (read_of sheet) go ≡ refused (m + number_of why.fault) why.carries
    refusal-from m go =
        planning-from m go
        ∙ (ap (λ (q : Reply). reply_from m q go) (sym is) ∙ from_some m (number_of why.fault) why.carries (go (plan_reply (Err why)).plan) (number-some why.fault))

  pub plan-comes : (p : Plan) → plan_reply (Ok p) ≡ planning sheet → (m : ℕ) (go : Plan → Paper) → plan_from m (read_of sheet) go ≡ go p
  plan-comes p is m go = planning-from m go ∙ ap (λ (q : Reply). reply_from m q go) (sym is)

  pub read-small : (why : Refused) → read_shown (Err why) ≡ read_of sheet → why.carries < 2 ^ 32
  read-small why is = omega (arith, ap (λ (r : Read). r.carries) is, (read_small sheet).1)

-- ---- two sheets

module _ (sheet sheet' : List ℕ) where
  pub first-refused : (why : Refused) → plan_reply (Err why) ≡ planning sheet → diff_paper sheet sheet' ≡ refused (0 + number_of why.fault) why.carries
  unfolding diff_paper
  first-refused why is = refusal-from sheet why is 0 (λ p. plan_from second_from (read_of sheet') (λ q. written (diff_of p q)))

  module _ (p : Plan) (planned : plan_reply (Ok p) ≡ planning sheet) where
    at-second : diff_paper sheet sheet' ≡ plan_from second_from (read_of sheet') (λ q. written (diff_of p q))
    unfolding diff_paper
    at-second = plan-comes sheet p planned 0 (λ p. plan_from second_from (read_of sheet') (λ q. written (diff_of p q)))

    pub second-refused : (why : Refused) → plan_reply (Err why) ≡ planning sheet' → diff_paper sheet sheet' ≡ refused (second_from + number_of why.fault) why.carries
    second-refused why is = at-second ∙ refusal-from sheet' why is second_from (λ q. written (diff_of p q))

    pub both-planned : (q : Plan) → plan_reply (Ok q) ≡ planning sheet' → diff_paper sheet sheet' ≡ written (diff_of p q)
    both-planned q is = at-second ∙ plan-comes sheet' q is second_from (λ q. written (diff_of p q))

-- ---- a text in a lent buffer

pub refused-writes : (p : Paper) (r : Refused) → p ≡ refused (number_of r.fault) r.carries → r.carries < 2 ^ 32 → (old : List ℕ) → Writes p old (Err r) old
refused-writes p r is small old = record { says = rw is; leaves = rw is; fits = small }

pub written-writes : (p : Paper) (text : List ℕ) → p ≡ written text → (old new : List ℕ) (n room : ℕ) → n ≡ length text → n < 2 ^ 32 → room ≡ length old
    → new ≡ over text old → (r : Result ℕ Refused) → note r ≡ record { number = cond (leb n room) 0 10; carries = n } → Writes p old r new
written-writes p text is old new n room long small size wrote r said = record {
  says = said ∙ rw (is, long, size);
  leaves = wrote ∙ rw is;
  fits = subst (λ (x : Note). x.carries < 2 ^ 32) (sym said) small;
}

-- ---- a walk that may stick

reached-small : (m : Machine) (c : Costs) (n : ℕ) (ts : List Task) → state_fault m c n ts ≡ 0 → (reached_of m c n ts).carries ≤ 64
reached-small m c n ts good =
    let ended = reached-ended m c n ts good in
    rw ended (by (plan-or-stuck m c n ts good))
  where
    by : ((s : Stand) × (l : List (Placed ℕ)) × (walked m c (take n ts) ≡ fine s l) × (plan_of m c n ts ≡ finished m c (take n ts) (fine s l)))
        ⊎ ((k : ℕ) × (walked m c (take n ts) ≡ stuck k 7) × (plan_of m c n ts ≡ refused_plan 7 (suc k)))
        → (finished m c (take n ts) (walked m c (take n ts))).carries ≤ 64
    by (inl h) = rw h.2 (omega arith)
    by (inr h) = rw h.1 (omega (arith, no-room-place m c n ts good h.0 h.1, length-take n ts, (state-sane m c n ts good).few))

module _ (sheet : List ℕ) (s : Sheet) (is : read_shown (Ok s) ≡ read_of sheet) where
  read-good : state_fault s.machine s.costs s.tasks.count s.tasks.list ≡ 0
  read-good =
      subst (λ (r : Read). state_fault r.sheet.machine r.sheet.costs r.sheet.tasks.count r.sheet.tasks.list ≡ 0) (sym is)
      (breaks-no-rule sheet (sym (ap (λ (r : Read). r.number) is)))

  pub reached-few : (reached_sheet s).carries ≤ 64
  reached-few = reached-small s.machine s.costs s.tasks.count s.tasks.list read-good

  -- a plan that holds nothing is of no core
  pub reached-never : (r : Refused) → reached_reply (Err r) ≡ reached_sheet s → ⊥
  unfolding no_plan
  reached-never r e =
      let none : 0 ≡ s.machine.cores = ap (λ (q : Reply). q.plan.machine.cores) (e ∙ reached-ended s.machine s.costs s.tasks.count s.tasks.list read-good) in
      omega (arith, none, (state-sane s.machine s.costs s.tasks.count s.tasks.list read-good).cores-some)

-- ---- the refusals have numbers

pub listed-numbered : (sheet : List ℕ) → Numbered (paper_of sheet)
listed-numbered sheet = subst Numbered (sym (planning-paper sheet)) (by (planning sheet).number (planning sheet).carries (listing_of (planning sheet).plan))
  where
    by : (n k : ℕ) (text : List ℕ) → Numbered (unless n k (written text))
    by zero k text = tt
    by (suc n) k text = λ e. omega arith

pub core-shown-numbered : (sheet : List ℕ) (core : ℕ) → Numbered (why_core sheet core)
unfolding why_core
core-shown-numbered sheet core = by (read_of sheet).number (read_of sheet).carries (reached_sheet (read_of sheet).sheet)
  where
    by : (n k : ℕ) (q : Reply) → Numbered (unless n k (why_reached q core))
    by zero k q = core-numbered q.plan q.carries core
    by (suc n) k q = λ e. omega arith

pub run-shown-numbered : (rs cs : List ℕ) → Numbered (why_records rs cs)
unfolding why_records
run-shown-numbered rs cs = by (measured rs cs) (why_run (costs_spelt cs) (length (pieces_of rs)) (pieces_of rs)) (run-numbered (costs_spelt cs) (length (pieces_of rs)) (pieces_of rs))
  where
    by : (b : Bool) (p : Paper) → Numbered p → Numbered (cond b p (refused 8 0))
    by true p ok = ok
    by false p ok = λ e. omega arith
