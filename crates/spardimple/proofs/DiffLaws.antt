-- Each answer of `diff_listing` comes exactly when its table says, and what it writes is what is meant.
-- Assumes nothing.
--
--   from_some, from-none      a refusal with m added to its number, and none
--   numbered-comes, numbered-kept      rules with m added to their numbers
--   Plans sheet               what a sheet comes to: a refusal that its rules give, or a plan that has what the walk placed
--   sheet-plans               so it comes
--   diff-settled              two sheets
--   diff-answered, diff-left  so their answers come by their table
use mathlib.Core.Path.{◌≡◌, refl, sym, ap, subst, ◌∙◌}
use mathlib.Core.List.{List, [], ◌∷◌, ◌++◌, map}
use Prim.Native.Nat.{ℕ, zero, suc, ◌+◌, ◌^◌, ◌≤◌, ◌<◌}
use native.Mathlib.Omega.{arith}
use lib.ListN.{length}
use Rattle.demand.specs.Sizes.{Each}
use Rattle.demand.specs.Tables.{Rule, Kept}
use Rattle.demand.proofs.TableLaws.{Comes, none, here, next, comes-before, comes-behind}
use Rattle.task.specs.declared.Task.{Task}
use Rattle.task.specs.Tasks.{list_of, cores_most}
use Rattle.walks.specs.Way.{fine}
use Rattle.walks.specs.Halves.{Stand}
use Rattle.plan.specs.declared.Plan.{Plan}
use Rattle.plan.specs.Reply.{Reply}
use Rattle.plan.specs.Walk.{walked}
use Rattle.sheet.specs.declared.Sheet.{Sheet}
use Rattle.sheet.specs.Sheet.{read_of}
use Rattle.sheet.specs.Refusals.{read_table}
use Rattle.sheet.proofs.RefusalLaws.{read-comes, read_kept}
use Rattle.sheet.proofs.SmallLaws.{read_small}
use Rattle.listing.specs.Papers.{Paper, refused, written}
use Rattle.listing.specs.Listing.{spelling}
use Rattle.listing.specs.Placed.{by_core}
use Rattle.listing.specs.Diff.{called_by, standing, diff_text, diff_of}
use Rattle.listing.proofs.PlacedLaws.{tasks-count}
use Rattle.listing.proofs.DiffPlanLaws.{standing-placed}
use Rattle.listing.proofs.DiffLengthLaws.{Short, diff-few, standing-few, standing-short}
use Rattle.spardimple.specs.Sheets.{tasks_in, placed_of, plan_sheet}
use Rattle.spardimple.specs.Diffs.{standing_in, diff_text_of, second_from, unless_from, reply_from, plan_from, diff_paper, diff_number, diff_left}
use Rattle.spardimple.specs.Refusals.{numbered_from, plan_rules, diff_table, Answered, Leaves}
use Rattle.spardimple.proofs.SheetLaws.{reply-small}
use Rattle.spardimple.proofs.PaperLaws.{walk_in, walks_in, Ends, ends-well, ends_stuck, said-ends, said-walk, tasks-said, good, names-short}
use Rattle.spardimple.proofs.WhyLaws.{Settled, settled-bad, settled-good, settled-answered, settled-left}

-- ---- numbers with m added

pub from_some : (m n k : ℕ) (rest : Paper) → (n ≡ 0 → ⊥) → unless_from m n k rest ≡ refused (m + n) k
from_some m zero k rest some = absurd (some refl)
from_some m (suc n) k rest some = refl

pub from-none : (m n k : ℕ) (rest : Paper) → n ≡ 0 → unless_from m n k rest ≡ rest
from-none m n k rest is = ap (λ (j : ℕ). unless_from m j k rest) is

numbered-comes : (m : ℕ) {rules : List Rule} {n k : ℕ} → Comes rules n k → (n ≡ 0 → ⊥) → Comes (numbered_from m rules) (m + n) k
numbered-comes m none some = absurd (some refl)
numbered-comes m {k = k} (here {r} {rules} {n} bad number carries) some =
    let e : suc (m + n) ≡ m + suc n = omega arith in
    subst (λ (j : ℕ). Comes (numbered_from m (r ∷ rules)) j k) e (here bad (omega (arith, number)) carries)
numbered-comes m (next fine-here rest) some = next fine-here (numbered-comes m rest some)

numbered-kept : (m : ℕ) (rules : List Rule) → Kept rules → Kept (numbered_from m rules)
numbered-kept m [] kept = tt
numbered-kept m (r ∷ rules) kept = (kept.0, numbered-kept m rules kept.1)

kept-join : (rules more : List Rule) → Kept rules → Kept more → Kept (rules ++ more)
kept-join [] more kept others = others
kept-join (r ∷ rules) more kept others = (kept.0, kept-join rules more kept.1 others)

-- ---- one sheet

pub data Plans (sheet : List ℕ) : Type 1 where
  no-plan : (n k : ℕ) → (n ≡ 0 → ⊥) → k < 2 ^ 32 → Comes (plan_rules sheet) n k
      → ((m : ℕ) (go : Plan → Paper) → plan_from m (read_of sheet) go ≡ refused (m + n) k) → Plans sheet
  some-plan : (p : Plan) → Kept (plan_rules sheet) → ((m : ℕ) (go : Plan → Paper) → plan_from m (read_of sheet) go ≡ go p)
      → p.tasks.count ≡ length (tasks_in sheet) → standing p ≡ standing_in sheet
      → length (standing_in sheet) ≤ 79 → Each Short (standing_in sheet) → Plans sheet

module _ (sheet : List ℕ) where
  abbrev reply : Reply
  reply = plan_sheet (read_of sheet).sheet

  unread : ((read_of sheet).number ≡ 0 → ⊥) → Plans sheet
  unread some =
      no-plan (read_of sheet).number (read_of sheet).carries some (omega (arith, (read_small sheet).1)) (comes-before some (read-comes sheet) (walks_in sheet))
      (λ m go. from_some m (read_of sheet).number (read_of sheet).carries (reply_from m reply go) some)

  module _ (whole : (read_of sheet).number ≡ 0) where
    abbrev said : Sheet
    said = (read_of sheet).sheet

    -- the walk over what was read
    module _ (s : Stand) (so : walk_in sheet ≡ fine s (placed_of sheet)) where
      walk-read : walked said.machine said.costs (list_of said.tasks) ≡ fine s (placed_of sheet)
      walk-read = said-walk sheet whole ∙ so

      stands : standing reply.plan ≡ standing_in sheet
      stands =
          standing-placed said.machine said.costs said.tasks.count said.tasks.list (good sheet whole) s (placed_of sheet) walk-read
          ∙ ap (λ (ts : List Task). map (called_by ts) (by_core cores_most (placed_of sheet))) (tasks-said sheet whole)

      counts : reply.plan.tasks.count ≡ length (tasks_in sheet)
      counts =
          tasks-count said.machine said.costs said.tasks.count said.tasks.list (good sheet whole) s (placed_of sheet) walk-read
          ∙ ap (λ (ts : List Task). length ts) (tasks-said sheet whole)

      few : length (standing_in sheet) ≤ 79
      few =
          subst (λ (ts : List Task). length (map (called_by ts) (by_core cores_most (placed_of sheet))) ≤ 79) (tasks-said sheet whole)
          (standing-few said.machine said.costs said.tasks.count said.tasks.list (good sheet whole) s (placed_of sheet) walk-read)

      short : Each Short (standing_in sheet)
      short =
          subst (λ (ts : List Task). Each Short (map (called_by ts) (by_core cores_most (placed_of sheet)))) (tasks-said sheet whole)
          (standing-short said.machine said.costs said.tasks.count said.tasks.list (good sheet whole) s (placed_of sheet) walk-read
          (subst (Each (λ t. length (spelling t.name) ≤ 24)) (sym (tasks-said sheet whole)) (names-short sheet whole)))

    ended : Ends sheet → Plans sheet
    ended (ends-well s so kept is text) =
        some-plan reply.plan (kept-join (read_table sheet) (walks_in sheet) ((read_kept sheet).0 whole) kept)
        (λ m go. from-none m (read_of sheet).number (read_of sheet).carries (reply_from m reply go) whole
        ∙ from-none m reply.number reply.carries (go reply.plan) is)
        (counts s so) (stands s so) (few s so) (short s so)
    ended (ends_stuck k so comes seven place) =
        let small = reply-small sheet (read_of sheet) refl whole reply refl in
        no-plan 7 (suc k) (λ e. omega arith) (omega (arith, small.1)) (comes-behind (read_table sheet) ((read_kept sheet).0 whole) comes)
        (λ m go. from-none m (read_of sheet).number (read_of sheet).carries (reply_from m reply go) whole
        ∙ (from_some m reply.number reply.carries (go reply.plan) (λ e. omega (arith, seven)) ∙ (λ i. refused (m + seven i) (place i))))

  pub sheet-plans : Plans sheet
  sheet-plans = by (read_of sheet).number refl
    where
      by : (n : ℕ) → (read_of sheet).number ≡ n → Plans sheet
      by zero e = ended e (said-ends sheet e)
      by (suc n) e = unread (λ z. omega arith)

-- ---- two sheets

module _ (sheet sheet' : List ℕ) where
  abbrev rules : List Rule
  rules = plan_rules sheet ++ numbered_from second_from (plan_rules sheet')

  text-is : (p q : Plan) → p.tasks.count ≡ length (tasks_in sheet) → q.tasks.count ≡ length (tasks_in sheet') → standing p ≡ standing_in sheet
      → standing q ≡ standing_in sheet' → diff_of p q ≡ diff_text_of sheet sheet'
  unfolding diff_of diff_text_of
  text-is p q tasks tasks' first second = λ i. diff_text (tasks i) (tasks' i) (first i) (second i)

  text-few : length (standing_in sheet) ≤ 79 → Each Short (standing_in sheet) → length (standing_in sheet') ≤ 79 → Each Short (standing_in sheet')
      → length (diff_text_of sheet sheet') < 2 ^ 32
  unfolding diff_text_of
  text-few few short few' short' =
      omega (arith, diff-few (standing_in sheet) (standing_in sheet') short short' few few' (length (tasks_in sheet)) (length (tasks_in sheet')))

  pub diff-settled : Settled rules (diff_paper sheet sheet') (diff_text_of sheet sheet')
  unfolding diff_paper
  diff-settled = by (sheet-plans sheet) (sheet-plans sheet')
    where
      by : Plans sheet → Plans sheet' → Settled rules (diff_paper sheet sheet') (diff_text_of sheet sheet')
      by (no-plan n k some small comes paper) other =
          let e : 0 + n ≡ n = omega arith in
          settled-bad n k some small (comes-before some comes (numbered_from second_from (plan_rules sheet')))
          (paper 0 (λ p. plan_from second_from (read_of sheet') (λ q. written (diff_of p q))) ∙ ap (λ (j : ℕ). refused j k) e)
      by (some-plan p kept paper tasks stands few short) (no-plan n k some small comes paper') =
          settled-bad (second_from + n) k (λ e. omega arith) small (comes-behind (plan_rules sheet) kept (numbered-comes second_from comes some))
          (paper 0 (λ p. plan_from second_from (read_of sheet') (λ q. written (diff_of p q))) ∙ paper' second_from (λ q. written (diff_of p q)))
      by (some-plan p kept paper tasks stands few short) (some-plan q kept' paper' tasks' stands' few' short') =
          settled-good (kept-join (plan_rules sheet) (numbered_from second_from (plan_rules sheet')) kept (numbered-kept second_from (plan_rules sheet') kept'))
          (text-few few short few' short')
          (paper 0 (λ p. plan_from second_from (read_of sheet') (λ q. written (diff_of p q)))
          ∙ (paper' second_from (λ q. written (diff_of p q)) ∙ ap written (text-is p q tasks tasks' stands stands')))

  pub diff-answered : Answered (diff_table sheet sheet') (diff_text_of sheet sheet') (diff_number sheet sheet')
  unfolding diff_table diff_number
  diff-answered = settled-answered rules (diff_text_of sheet sheet') (diff_paper sheet sheet') diff-settled

  pub diff-left : Leaves (diff_table sheet sheet') (diff_text_of sheet sheet') (diff_left sheet sheet')
  unfolding diff_table diff_left
  diff-left = settled-left rules (diff_text_of sheet sheet') (diff_paper sheet sheet') diff-settled
