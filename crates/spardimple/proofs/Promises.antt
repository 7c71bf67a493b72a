-- The customer's three demands, as theorems. They speak of what the contracts of the exported and public functions say, by names of `specs/`:
--
--   verdict(records, costs)         answers verdict_number records costs
--   judge, judge_records, judge_lent    answer answer_of costs n records; split_records answers split_of
--   plan_listing(sheet, listing)    answers listing_number sheet room, in a buffer of so many bytes, and the buffer, which held old, then holds
--                                   listing_left sheet old
--   plan_tasks                      answers plan_of m c n ts, for the first n of the tasks ts; write_listing lists a plan s as listing_of s
--   plan_reached                    answers reached_of m c n ts, by a reply that has a plan also where the walk sticks
--   add, withdraw, retime           answer edit_of e s, from any state s
--   why_records(records, costs, out)    answers why_records_number records costs room, and the buffer then holds why_records_left records costs old
--   why_core(sheet, core, out)      answers why_core_number sheet core room, and the buffer then holds why_core_left sheet core old
--   why_plan(s, k, core, out)       says note_of (why_of s k core) room, of any state s, and the buffer then holds left (why_of s k core) old
--   demand_at(records, costs, t)    answers demand_number records costs t
--   diff_listing(sheet, sheet', out)    answers diff_number sheet sheet' room, and the buffer then holds diff_left sheet sheet' old
--   write_diff(s, t, out)           lists two plans s and t side by side as diff_of s t
--
-- Each of these is an equation for any input, with nothing asked of the caller: so one input has one answer, and one content for what was lent. Where a
-- contract tells of a result by fault_number, place_number, plan_reply, reached_reply, edit_reply, read_shown or note, no other result meets it.
--
-- Demand 1, each input answered:
--   verdict-comes, listing-comes    what a number can be: 2^32 times which answer it is, and what that carries
--   one_number                      so no two answers share a number
--   fault-settled, place-settled, plan-settled, reached-settled, edit-settled, read-settled, note-settled
--                                   where a contract tells of a result by a number, a reply or a note, it settles the result
--   verdict-refused, records-refused, split-refused, listing-refused, plan-refused, edit-refused
--                                   each refusal comes exactly where its table gives it, with what it carries
--   listing-taken, plan-taken, edit-taken     and a listing is written, a plan made, an edit accepted, exactly where no rule of its table is broken
--   no_room                         7 comes exactly where the walk sticks, with the task
--   refused-buffer, refused-state   a refusal changes no lent byte and no held plan
--   written-buffer                  a listing that is written stands at the front of the buffer, and the bytes beyond stay
--   why-records-answered, why-core-answered     the answers of `why_records` and `why_core` come by their tables too, in every buffer
--   why-records-left, why-core-left             and so does what the buffer then holds
--   diff-answered, diff-left        the same of `diff_listing`
--   said-refused, said-short, said-written      what is said of a refusal, and of a text by the room that there is
--   left-refused, left-short, left-written      and what the buffer then holds
-- Demand 2, verdict and plan:
--   passes, overloaded, undecided   each verdict comes exactly where no rule is broken and its meaning holds; `-told`: on lent bytes, by the number given back
--   overloaded-shows                an overloaded length is one at which a job is due, and asks for more than itself
--   split                           and so does a split
--   why-verdict, why-adds           what is shown of a verdict names it, and its terms add up to its total
--   why-overloaded, why-passes, why-undecided, why-empty     at the overloaded length, which asks for more than itself; at a live length of the judged span with the least
--                                   slack, the shortest if several; with the busy sum at the limit, which is above it; with nothing
--   why-records-shown, why-core-shown, why-stuck-shown       the listing of lent records, of a core, and of the last core of a walk that stuck, with that task added
--   why-stuck-where                 where that is: what was placed by the walk over the tasks ahead of it, which ends well, and then the task is refused
--   why-stuck-fails                 and with that task added the last core does not pass
--   why-plan-shown, why-plan-outside     the same of a core of a held plan; a core that the machine has not is refused with 1
--   demand-told, demand-untold      the demand at a length, of lent records that break no rule; 0 elsewhere
--   verdict-means, split-means      the verdict and the split that the walk goes by are those that are meant
--   packing, packing-ranked         the packing order has each task once, greater C/D first, ties by earlier task
--   packing-one, walk-order         it is the only order that is so, and the walk goes over the tasks in it
--   walk-promised                   what a walk that ends well placed: every task, budgets and windows adding up, a last piece late by π + IpB + RelO + TsetO, on the
--                                   machine's cores, every core passing
--   late-bounded                    and that is at most what four constants may be, which is less than a time may be
--   sheet-sane, sheet-walks         what a sheet says breaks no rule of a state, and where a listing is written the walk over it ends well
--   sheet-promised                  and placed so
--   told-apart                      sheets with one listing place the same names alike
--   plan-made, plan-counted         a plan that comes is a held plan, of what was asked for, and counts its tasks and pieces
--   plan-listed                     and its listing is that of what the walk placed
--   plan-none                       with a refusal comes no plan: one that holds nothing, the same for all
--   reached-numbered, reached-alike, reached-until     `plan_reached` answers the same, but with 7 a plan of what was placed before the walk stuck
--   diff-shown                      two sheets' plans side by side: the first line, then the lines of the names that moved, one name after another
--   diff-any, diff-held             the same of any two plans' structs, and of two held plans by what their walks placed
--   moved-in-order, moved-exactly   these names stand in byte order, no name twice, and are exactly those that the two do not place alike
--   diff-nothing                    nothing stands behind the first line exactly where every name is placed alike, whatever the order on a core
--   byte-itself, byte-on, byte-total     byte order of names is a total order
--   held-promised, held-ones        a held plan's walk placed so, and the number of tasks on a core is that of its pieces
-- Demand 3, edits:
--   begun-held                      a plan worked out afresh is a held plan
--   after_any, after-any-afresh     after any sequence of edits a held plan is held; one worked out afresh equals the one worked out from the tasks then held
--   edit-yields                     an accepted edit yields a held plan, of the same machine and costs, and of the tasks that it should
--   edit-afresh                     and it is answered what plan_tasks answers for these, whatever the rest of the state was
--   edit-looks-at                   an edit relies on machine, costs and task list alone
--   kept-before                     an accepted edit of a held plan keeps the pieces of each task before the edited one in each packing order, old and new, that holds it
--   kept-after                      and where at a later task the two walks stand at the same core with the same row, of that task and all later ones
-- What the tests tell that definitions go by:
--   verdict-passing, costs-sized, names-equal, bytes-equal, name-formed, placed-equal
--
-- Settled by theorems, so that nobody has to read how it is computed:
--   verdict_number     verdict-comes, verdict-refused, passes-told, overloaded-told, undecided-told
--   answer_of          records-refused, passes, overloaded, undecided
--   split_of           split-refused, split
--   listing_number     listing-comes, listing-refused, listing-taken
--   listing_left       refused-buffer, written-buffer
--   plan_of            plan-refused, plan-taken, plan-none, plan-made, plan-counted
--   reached_of         reached-numbered, reached-alike, reached-until
--   edit_of            edit-refused, edit-taken, refused-state, edit-afresh
--   listing_of         plan-listed
--   why_records_number  why-records-answered
--   why_records_left    why-records-left
--   why_core_number     why-core-answered
--   why_core_left       why-core-left
--   why_records_text    why-records-shown
--   why_core_text       why-core-shown, why-stuck-shown
--   shown_of           why-verdict, why-adds, why-overloaded, why-passes, why-undecided, why-empty
--   why_of             why-plan-shown, why-plan-outside
--   note_of            said-refused, said-short, said-written
--   left              left-refused, left-short, left-written
--   demand_number      demand-told, demand-untold
--   diff_number        diff-answered
--   diff_left          diff-left
--   diff_text_of        diff-shown
--   diff_of            diff-any
--   moved_names        moved-in-order, moved-exactly
--   verdict_of         verdict-means
--   greatest_split     split-means
--   packed            packing, packing-ranked, packing-one
--   tasks_on           held-ones
--   passing           verdict-passing
--   sized_costs        costs-sized
--   same_name          names-equal
--   same_bytes         bytes-equal
--   formed            name-formed
--   same_placed        placed-equal
--
-- Assumes nothing.
use Rattle.std.specs.Prelude.{Err, Ok, Option, Result}
use mathlib.Core.Path.{◌≡◌, refl, ap, ◌∙◌, subst}
use mathlib.Core.Bool.{true, cond}
use mathlib.Core.Logic.{◌↔◌, ◌⊎◌}
use mathlib.Core.List.{List, [], ◌∷◌, ◌++◌, map}
use Prim.Native.Nat.{ℕ, suc, ◌+◌, ◌*◌, ◌-◌, ◌^◌, ◌≤◌, ◌<◌}
use native.Mathlib.Omega.{arith}
use borrow.Author.Tests.{le-leb, lt-leb}
use lib.ListN.{length, take, drop, get_or}
use lib.Seq.{take-length}
use Rattle.demand.specs.declared.Piece.{Piece}
use Rattle.demand.specs.declared.Costs.{Costs}
use Rattle.demand.specs.declared.Refusal.{Refusal}
use Rattle.demand.specs.declared.Verdict.{Verdict}
use Rattle.demand.specs.declared.Verdict.TheVariants.{Passes, Overloaded, Undecided}
use Rattle.demand.specs.Sizes.{SizedCosts, sized_costs, Each, SomeOf, cost_most, time_most, busy_most, length_most}
use Rattle.demand.specs.Kinds.{arrives}
use Rattle.demand.specs.Charge.{core_of, stall}
use Rattle.demand.specs.Demand.{total, demand, Live}
use Rattle.demand.specs.Busy.{busy_sum}
use Rattle.demand.specs.Verdict.{Judged, Means, Bounded, KeepsUp, verdict_of}
use Rattle.demand.specs.Why.{LeastSlack, ask_sum, shown_at, shown_of}
use Rattle.demand.proofs.WhyLaws.{shown-verdict, shown-adds, shown-overloaded, shown-passes, shown-undecided, shown-empty}
use Rattle.demand.specs.Split.{Splits, greatest_split, passes as passing}
use Rattle.demand.specs.Answer.{answer_of, split_of}
use Rattle.demand.specs.Tables.{Not, Gives, Kept}
use Rattle.demand.specs.Refusals.{record_table, Refuses}
use Rattle.demand.proofs.SizeLaws.{costs-exact}
use Rattle.demand.proofs.ChargeLaws.{late-jitter-is, late-jitter-most}
use Rattle.demand.proofs.Judgement.{verdict-exact, overloaded-live}
use Rattle.demand.proofs.SplitLaws.{passes-exact, split-exact}
use Rattle.demand.proofs.RefusalLaws.{answer-refused, split-refused as split-denied}
use Rattle.task.specs.declared.Name.{Name}
use Rattle.task.specs.declared.Task.{Task}
use Rattle.task.specs.declared.Machine.{Machine}
use Rattle.task.specs.declared.faults.Fault.{Fault}
use Rattle.task.specs.declared.faults.Refused.{Refused}
use Rattle.task.specs.Faults.{fault_number}
use Rattle.task.specs.Names.{Formed, formed, same_bytes, same_name}
use Rattle.task.specs.Tasks.{cores_most, task_at, place_number}
use Rattle.task.specs.Refusals.{state_table}
use Rattle.task.proofs.NameLaws.{formed-exact, same-bytes-exact, same-name-exact}
use Rattle.task.proofs.RefusalLaws.{state-kept}
use Rattle.task.proofs.SettledLaws.{fault-number-one, place-number-one}
use Rattle.walks.specs.Lists.{Chain, sum_by}
use Rattle.walks.specs.Order.{Precedes}
use Rattle.walks.specs.Way.{Placed, fine, stuck, walk_over, on_core, row_of, SticksAt}
use Rattle.walks.proofs.WayLaws.{stuck-where}
use Rattle.walks.specs.Edits.{edited}
use Rattle.walks.specs.Kept.{Among, Behind}
use Rattle.walks.specs.Halves.{Stand}
use Rattle.plan.specs.declared.Plan.{Plan}
use Rattle.plan.specs.declared.Reached.{Reached}
use Rattle.plan.specs.Walk.{whole_at, place_way, task_way, denser_at, packed, walked, walked_until}
use Rattle.plan.specs.Layout.{tasks_on}
use Rattle.plan.specs.Plan.{plan_of, reached_of, plan_reply, reached_reply}
use Rattle.plan.specs.Refusals.{plan_table}
use Rattle.plan.specs.Places.{Rearranged, of_task, TaskPlaced}
use Rattle.plan.specs.Shows.{stored_of, bit_of}
use Rattle.plan.proofs.Theorems.{packing-order, packing-ranked as ranked, packing-one as only-order}
use Rattle.plan.proofs.Theorems.{all_placed, budgets-add, windows-add, jitters-told, plan-counts, no-room-last}
use Rattle.plan.proofs.Theorems.{reached-number, reached-alike as alike-reached}
use Rattle.plan.proofs.RefusalLaws.{plan-refused as told-plan, plan-kept}
use Rattle.plan.proofs.SettledLaws.{plan-settled as settled-plan, reached-settled as settled-reached}
use Rattle.sheet.specs.declared.Sheet.{Sheet}
use Rattle.sheet.specs.Sheet.{read_shown}
use Rattle.sheet.specs.Refusals.{read_table}
use Rattle.sheet.proofs.SettledLaws.{read-settled as settled-read}
use Rattle.listing.specs.Listing.{spelling, listing_of}
use Rattle.listing.specs.Papers.{refused, written, note, note_of, left}
use Rattle.listing.specs.Why.{no_room_line, why_text, by_place, titled_placed, whole_seat, why_of}
use Rattle.listing.specs.Placed.{by_core, placed_lines, placed_listing}
use Rattle.listing.specs.ByteOrder.{comes_before}
use Rattle.listing.specs.Diff.{same_placed, Alike, moved_names, diff_head, diff_text, called_by, standing, diff_of}
use Rattle.listing.proofs.ByteOrderLaws.{below-not-itself, below_on, below_total}
use Rattle.listing.proofs.AlikeLaws.{same-placed-exact}
use Rattle.listing.proofs.MovedLaws.{names-chain, unlike-means, nothing-moved}
use Rattle.listing.proofs.TextLaws.{over-short, over-fits}
use Rattle.listing.proofs.WhyPlacedLaws.{asked-outside}
use Rattle.listing.proofs.SettledLaws.{note-settled as settled-note}
use Rattle.edits.specs.Edits.{by_name, TaskEdit, tasks_held, row_in, edit_of, edit_reply, accepted, Afresh, Held, played}
use Rattle.edits.specs.Refusals.{edit_table}
use Rattle.edits.specs.Kept.{in_order, Keeps, edited_name, Ahead}
use Rattle.edits.proofs.AnswerLaws.{edit-planned}
use Rattle.edits.proofs.SettledLaws.{edit-settled as settled-edit}
use Rattle.edits.proofs.Theorems.{edit-refused as gives_back, after-edits-afresh, same-stand}
use Rattle.edits.proofs.HeldTheorems.{edit-relies, afresh-held, after-held, held-before, held_after}
use Rattle.spardimple.specs.Bytes.{pieces_of, costs_spelt}
use Rattle.spardimple.specs.Numbers.{verdict_number}
use Rattle.spardimple.specs.Refusals.{lent_table, sheet_table, why_records_table, why_core_table, diff_table, Answered, Leaves}
use Rattle.spardimple.specs.Diffs.{standing_in, diff_text_of, diff_number, diff_left}
use Rattle.spardimple.specs.Whys.{why_records_text, why_ending, why_core_text, why_records_number, why_records_left, why_core_number, why_core_left, demand_number}
use Rattle.spardimple.specs.Sheets.{machine_in, costs_in, tasks_in, placed_of, text_of, listing_number, listing_left}
use Rattle.spardimple.proofs.NumberLaws.{one_number as one-number-each}
use Rattle.spardimple.proofs.RefusalLaws.{verdict-refused as told-verdict, verdict-comes as some-verdict, edit-refused-exactly, edit-accepted}
use Rattle.spardimple.proofs.RefusalLaws.{listing-refused as told-listing, listing-taken as taken-listing, listing-comes as some-listing}
use Rattle.spardimple.proofs.RefusalLaws.{no_room as told-seven, buffer-kept, buffer-listed, sheet-sane as state-sane, sheet-walks as state-walks}
use Rattle.spardimple.proofs.RefusalLaws.{sheet-read as kept_read, told-apart as lines-apart}
use Rattle.spardimple.proofs.WhyLaws.{why-records-answered as records-answered, why-records-left as records-left, demand-told as told-demand, demand-untold as untold-demand}
use Rattle.spardimple.proofs.WhyLaws.{why-core-answered as core-answered, why-core-left as core-left}
use Rattle.spardimple.proofs.WhyHeld.{plan-shown}
use Rattle.spardimple.proofs.DiffLaws.{diff-answered as sheets-answered, diff-left as sheets-left}
use Rattle.spardimple.proofs.DiffHeld.{held-diff}
use Rattle.spardimple.proofs.JudgedLaws.{run-passes, run-overloaded, run-undecided, run-split, verdict-passes, verdict-overloaded, verdict-undecided}
use Rattle.spardimple.proofs.HeldPlans.{reached-is, reached-tasks, reached-count, reached-rows, reached-bits}
use Rattle.spardimple.proofs.HeldPlans.{plan-none as nothing-planned, plan-counted as counts-planned, plan-listed as listed-planned}
use Rattle.spardimple.proofs.HeldPlans.{walk-order as in-packing-order, cores-bounded, held-ones as ones-held, plan-made as made_held, edit-yields as yields-held}
use Rattle.demand.specs.declared.Cut.{Cut}

-- ---- demand 1: each input answered

pub one_number : (w k w' k' : ℕ) → k < 2 ^ 32 → k' < 2 ^ 32 → 2 ^ 32 * w + k ≡ 2 ^ 32 * w' + k' → (w ≡ w') × (k ≡ k')
one_number = one-number-each

pub verdict-comes : (rs cs : List ℕ) → (n : ℕ) × (k : ℕ) × (k < 2 ^ 32) × ((verdict_number rs cs ≡ 2 ^ 32 * 0 + 0)
    ⊎ (verdict_number rs cs ≡ 2 ^ 32 * 1 + k) ⊎ (verdict_number rs cs ≡ 2 ^ 32 * 2 + 0) ⊎ (verdict_number rs cs ≡ 2 ^ 32 * (100 + n) + k))
verdict-comes = some-verdict

pub listing-comes : (sheet : List ℕ) (room : ℕ) → (n : ℕ) × (k : ℕ) × (k < 2 ^ 32)
    × ((listing_number sheet room ≡ 2 ^ 32 * 0 + k) ⊎ (listing_number sheet room ≡ 2 ^ 32 * (100 + n) + k))
listing-comes = some-listing

pub verdict-refused : (rs cs : List ℕ) (n k : ℕ) → k < 2 ^ 32 → (verdict_number rs cs ≡ 2 ^ 32 * (100 + n) + k) ↔ Gives (lent_table rs cs) n k
verdict-refused = told-verdict

pub records-refused : (c : Costs) (n : ℕ) (ps : List Piece) (r : Refusal) → (answer_of c n ps ≡ Err r) ↔ Refuses (record_table c n ps) r
records-refused = answer-refused

pub split-refused : (c : Costs) (n : ℕ) (ps : List Piece) (p : Piece) (g : ℕ) (r : Refusal)
    → (split_of c n ps p g ≡ Err r) ↔ Refuses (record_table c (n + 1) (take n ps ++ (p ∷ []))) r
split-refused = split-denied

pub listing-refused : (sheet : List ℕ) (room n k : ℕ) → k < 2 ^ 32 → (listing_number sheet room ≡ 2 ^ 32 * (100 + n) + k) ↔ Gives (sheet_table sheet room) n k
listing-refused = told-listing

pub listing-taken : (sheet : List ℕ) (room k : ℕ) → k < 2 ^ 32
    → (listing_number sheet room ≡ 2 ^ 32 * 0 + k) ↔ (Kept (sheet_table sheet room) × (length (text_of sheet) ≡ k))
listing-taken = taken-listing

pub plan-refused : (m : Machine) (c : Costs) (n : ℕ) (ts : List Task) (k d : ℕ)
    → (((plan_of m c n ts).number ≡ suc k) × ((plan_of m c n ts).carries ≡ d)) ↔ Gives (plan_table m c n ts) (suc k) d
plan-refused = told-plan

pub plan-taken : (m : Machine) (c : Costs) (n : ℕ) (ts : List Task) → ((plan_of m c n ts).number ≡ 0) ↔ Kept (plan_table m c n ts)
plan-taken = plan-kept

pub edit-refused : (e : TaskEdit) (s : Plan) (n k : ℕ) → (((edit_of e s).number ≡ suc n) × ((edit_of e s).carries ≡ k)) ↔ Gives (edit_table e s) (suc n) k
edit-refused = edit-refused-exactly

pub edit-taken : (e : TaskEdit) (s : Plan) → ((edit_of e s).number ≡ 0) ↔ Kept (edit_table e s)
edit-taken = edit-accepted

pub no_room : (sheet : List ℕ) (room k : ℕ) → suc k < 2 ^ 32 → Kept (read_table sheet)
    → (listing_number sheet room ≡ 2 ^ 32 * 107 + suc k) ↔ (walked (machine_in sheet) (costs_in sheet) (tasks_in sheet) ≡ stuck k 7)
no_room = told-seven

pub refused-buffer : (sheet old : List ℕ) → Not (Kept (sheet_table sheet (length old))) → listing_left sheet old ≡ old
refused-buffer = buffer-kept

pub written-buffer : (sheet old : List ℕ) → Kept (sheet_table sheet (length old)) → listing_left sheet old ≡ text_of sheet ++ drop (length (text_of sheet)) old
written-buffer = buffer-listed

pub refused-state : (e : TaskEdit) (s : Plan) → ((edit_of e s).number ≡ 0 → ⊥) → (edit_of e s).plan ≡ s
refused-state e s = gives_back e s

-- ---- demand 1: one answer for one input

-- where a contract tells of a result by a number, a reply or a note, two results that meet it are one
pub fault-settled : (r s : Result Unit Fault) → fault_number r ≡ fault_number s → r ≡ s
fault-settled = fault-number-one

pub place-settled : (p q : Option ℕ) → place_number p ≡ place_number q → p ≡ q
place-settled = place-number-one

pub plan-settled : (r s : Result Plan Refused) → plan_reply r ≡ plan_reply s → r ≡ s
plan-settled = settled-plan

pub reached-settled : (m : Machine) (c : Costs) (n : ℕ) (ts : List Task) (r s : Result Reached Refused)
    → reached_reply r ≡ reached_of m c n ts → reached_reply s ≡ reached_of m c n ts → r ≡ s
reached-settled = settled-reached

-- and the plan that is left
pub edit-settled : (r s : Result Unit Refused) (p q : Plan) → edit_reply r p ≡ edit_reply s q → (r ≡ s) × (p ≡ q)
edit-settled = settled-edit

pub read-settled : (r s : Result Sheet Refused) → read_shown r ≡ read_shown s → r ≡ s
read-settled = settled-read

pub note-settled : (r s : Result ℕ Refused) → note r ≡ note s → r ≡ s
note-settled = settled-note

-- ---- demand 2: the verdict

-- on the first n of the records ps, at the costs c, for every asker
module _ (c : Costs) (n : ℕ) (ps : List Piece) where
  pub passes : (answer_of c n ps ≡ Ok Passes) ↔ (Kept (record_table c n ps) × Bounded (core_of c (take n ps)) × KeepsUp (stall c) (core_of c (take n ps)))
  passes = run-passes c n ps

  pub overloaded : (t : ℕ) → (answer_of c n ps ≡ Ok (Overloaded t)) ↔ (Kept (record_table c n ps) × Means (stall c) (core_of c (take n ps)) (Overloaded t))
  overloaded = run-overloaded c n ps

  pub undecided : (answer_of c n ps ≡ Ok Undecided) ↔ (Kept (record_table c n ps) × Means (stall c) (core_of c (take n ps)) Undecided)
  undecided = run-undecided c n ps

  pub split : (p : Piece) (g : ℕ) (s : Option Cut) → (split_of c n ps p g ≡ Ok s) ↔ (Kept (record_table c (n + 1) (take n ps ++ (p ∷ []))) × Splits c g (take n ps) p s)
  split p g s = run-split c n ps p g s

-- and on lent bytes, by the number that is given back
module _ (rs cs : List ℕ) where
  pub passes-told : (verdict_number rs cs ≡ 2 ^ 32 * 0 + 0)
      ↔ (Kept (lent_table rs cs) × Bounded (core_of (costs_spelt cs) (pieces_of rs)) × KeepsUp (stall (costs_spelt cs)) (core_of (costs_spelt cs) (pieces_of rs)))
  passes-told = verdict-passes rs cs

  pub overloaded-told : (t : ℕ) → t < 2 ^ 32 → (verdict_number rs cs ≡ 2 ^ 32 * 1 + t)
      ↔ (Kept (lent_table rs cs) × Means (stall (costs_spelt cs)) (core_of (costs_spelt cs) (pieces_of rs)) (Overloaded t))
  overloaded-told = verdict-overloaded rs cs

  pub undecided-told : (verdict_number rs cs ≡ 2 ^ 32 * 2 + 0)
      ↔ (Kept (lent_table rs cs) × Means (stall (costs_spelt cs)) (core_of (costs_spelt cs) (pieces_of rs)) Undecided)
  undecided-told = verdict-undecided rs cs

-- ---- demand 2: why (document 02, E1)

-- what is shown of the pieces ps at the costs c: the verdict, and at one length the blocking, what each piece asks for, and the total
module _ (c : Costs) (ps : List Piece) where
  pub why-verdict : (shown_of c ps).verdict ≡ verdict_of c ps
  unfolding shown_of verdict_of
  why-verdict = shown-verdict (stall c) (core_of c ps)

  pub why-adds : (shown_of c ps).blocking + total (ask_sum (verdict_of c ps) (shown_of c ps).length) (core_of c ps) ≡ (shown_of c ps).total
  unfolding shown_of verdict_of
  why-adds = shown-adds (stall c) (core_of c ps)

  pub why-overloaded : (t : ℕ) → verdict_of c ps ≡ Overloaded t
      → (shown_of c ps ≡ shown_at (stall c) (core_of c ps) (Overloaded t) t) × (t < demand (stall c) (core_of c ps) t)
  unfolding shown_of verdict_of
  why-overloaded = shown-overloaded (stall c) (core_of c ps)

  pub why-passes : verdict_of c ps ≡ Passes → Not (core_of c ps ≡ []) → (t : ℕ) × (t₀ : ℕ) × (l : ℕ) × Judged (core_of c ps) t₀ l
      × LeastSlack (demand (stall c) (core_of c ps)) t₀ l t × Live (core_of c ps) t × (demand (stall c) (core_of c ps) t ≤ t)
      × (shown_of c ps ≡ shown_at (stall c) (core_of c ps) Passes t)
  unfolding shown_of verdict_of
  why-passes = shown-passes (stall c) (core_of c ps)

  pub why-undecided : verdict_of c ps ≡ Undecided
      → (shown_of c ps ≡ shown_at (stall c) (core_of c ps) Undecided busy_most) × (busy_most < busy_sum (core_of c ps) busy_most)
  unfolding shown_of verdict_of
  why-undecided = shown-undecided (stall c) (core_of c ps)

pub why-empty : (c : Costs) → shown_of c [] ≡ record { verdict = Passes; length = 0; blocking = 0; total = 0 }
unfolding shown_of core_of
why-empty c = shown-empty (stall c)

pub why-records-answered : (rs cs : List ℕ) → Answered (why_records_table rs cs) (why_records_text rs cs) (why_records_number rs cs)
why-records-answered = records-answered

pub why-records-left : (rs cs : List ℕ) → Leaves (why_records_table rs cs) (why_records_text rs cs) (why_records_left rs cs)
why-records-left = records-left

pub why-core-answered : (sheet : List ℕ) (core : ℕ) → Answered (why_core_table sheet core) (why_core_text sheet core) (why_core_number sheet core)
why-core-answered = core-answered

pub why-core-left : (sheet : List ℕ) (core : ℕ) → Leaves (why_core_table sheet core) (why_core_text sheet core) (why_core_left sheet core)
why-core-left = core-left

pub why-records-shown : (rs cs : List ℕ) → why_records_text rs cs ≡ why_text (costs_spelt cs) (by_place 1 (pieces_of rs))
unfolding why_records_text
why-records-shown rs cs = refl

module _ (sheet : List ℕ) (core : ℕ) where
  pub why-core-shown : (s : Stand) (log : List (Placed ℕ)) → walked (machine_in sheet) (costs_in sheet) (tasks_in sheet) ≡ fine s log
      → why_core_text sheet core ≡ why_text (costs_in sheet) (map (titled_placed (tasks_in sheet)) (on_core (core - 1) log))
  unfolding why_core_text
  why-core-shown s log so = ap (why_ending (machine_in sheet) (costs_in sheet) (tasks_in sheet) core) so

  -- whichever core was asked for
  pub why-stuck-shown : (k n : ℕ) → walked (machine_in sheet) (costs_in sheet) (tasks_in sheet) ≡ stuck k n
      → why_core_text sheet core
      ≡ no_room_line (k + 1) (spelling (task_at (tasks_in sheet) k).name) (machine_in sheet).cores
      ++ why_text (costs_in sheet)
      (map (titled_placed (tasks_in sheet)) (on_core ((machine_in sheet).cores - 1) (walked_until (machine_in sheet) (costs_in sheet) (tasks_in sheet))
      ++ (whole_seat (tasks_in sheet) ((machine_in sheet).cores - 1) k ∷ [])))
  unfolding why_core_text
  why-stuck-shown k n so = ap (why_ending (machine_in sheet) (costs_in sheet) (tasks_in sheet) core) so

-- of any tasks: what was placed until then is what the walk over those ahead placed
pub why-stuck-where : (m : Machine) (c : Costs) (ts : List Task) (k n : ℕ) → walked m c ts ≡ stuck k n
    → SticksAt (place_way m c ts) (place_way m c ts).begin (packed ts) k n
unfolding walked
why-stuck-where m c ts k n so = stuck-where (place_way m c ts) (place_way m c ts).begin (packed ts) k n so

-- and with it the last core does not pass: so no listing of a task that found no room names a pass
pub why-stuck-fails : (m : Machine) (c : Costs) (n : ℕ) (ts : List Task) → Kept (state_table m c n ts) → (k : ℕ) → walked m c (take n ts) ≡ stuck k 7
    → Not (verdict_of c (row_of (m.cores - 1) (walked_until m c (take n ts)) ++ (whole_at (take n ts) k ∷ [])) ≡ Passes)
why-stuck-fails m c n ts sane k sticks = no-room-last m c n ts ((state-kept m c n ts).1 sane) k sticks

-- a core of a held plan
pub why-plan-shown : (s : Plan) (held : Held s) (core : ℕ) → 1 ≤ core → core ≤ s.machine.cores
    → why_of s 0 core ≡ written (why_text s.costs (map (titled_placed (tasks_held s)) (on_core (core - 1) held.log)))
why-plan-shown = plan-shown

pub why-plan-outside : (s : Plan) (k core : ℕ) → Not ((1 ≤ core) × (core ≤ s.machine.cores)) → why_of s k core ≡ refused 1 0
why-plan-outside s k core out = asked-outside s k core (λ some within. out (some, within))

-- what `why_plan` says in a buffer of so many bytes
module _ (text : List ℕ) (room : ℕ) where
  pub said-refused : (n k : ℕ) → note_of (refused n k) room ≡ record { number = n; carries = k }
  said-refused n k = refl

  pub said-short : room < length text → note_of (written text) room ≡ record { number = 10; carries = length text }
  said-short short = rw (lt-leb (length text) room short)

  pub said-written : length text ≤ room → note_of (written text) room ≡ record { number = 0; carries = length text }
  said-written fits = rw (le-leb (length text) room fits)

-- and what the buffer, which held old, then holds
module _ (text old : List ℕ) where
  pub left-refused : (n k : ℕ) → left (refused n k) old ≡ old
  left-refused n k = refl

  pub left-short : length old < length text → left (written text) old ≡ old
  left-short short = over-short text old short

  pub left-written : length text ≤ length old → left (written text) old ≡ text ++ drop (length text) old
  left-written fits = over-fits text old fits

pub demand-told : (rs cs : List ℕ) (t : ℕ) → Kept (lent_table rs cs) → t ≤ length_most
    → demand_number rs cs t ≡ demand (stall (costs_spelt cs)) (core_of (costs_spelt cs) (pieces_of rs)) t
demand-told = told-demand

pub demand-untold : (rs cs : List ℕ) (t : ℕ) → Not (Kept (lent_table rs cs) × (t ≤ length_most)) → demand_number rs cs t ≡ 0
demand-untold = untold-demand

-- ---- demand 2: the plan

-- the verdict on the pieces ps at the costs c, and the split of p beside them by the grain g, as the walk asks for them
pub verdict-means : (c : Costs) (ps : List Piece) (v : Verdict) → (verdict_of c ps ≡ v) ↔ Means (stall c) (core_of c ps) v
verdict-means = verdict-exact

pub overloaded-shows : (c : Costs) (ps : List Piece) (t : ℕ) → Means (stall c) (core_of c ps) (Overloaded t)
    → Live (core_of c ps) t × (t < demand (stall c) (core_of c ps) t)
overloaded-shows c ps t means = overloaded-live c ps t ((verdict-exact c ps (Overloaded t)).1 means)

pub split-means : (c : Costs) (g : ℕ) (ps : List Piece) (p : Piece) (s : Option Cut) → (greatest_split c g ps p ≡ s) ↔ Splits c g ps p s
split-means = split-exact

pub sheet-sane : (sheet : List ℕ) → Kept (read_table sheet)
    → Kept (state_table (machine_in sheet) (costs_in sheet) (length (tasks_in sheet)) (tasks_in sheet))
sheet-sane = state-sane

pub sheet-walks : (sheet : List ℕ) (room : ℕ) → Kept (sheet_table sheet room)
    → (s : Stand) × (walked (machine_in sheet) (costs_in sheet) (tasks_in sheet) ≡ fine s (placed_of sheet))
sheet-walks = state-walks

pub told-apart : (sheet sheet' : List ℕ) (room room' : ℕ) → Kept (sheet_table sheet room) → Kept (sheet_table sheet' room') → text_of sheet ≡ text_of sheet'
    → placed_lines (costs_in sheet) (tasks_in sheet) (placed_of sheet) ≡ placed_lines (costs_in sheet') (tasks_in sheet') (placed_of sheet')
told-apart = lines-apart

pub packing : (ts : List Task) → Rearranged (length ts) (packed ts)
packing = packing-order

pub packing-ranked : (m : Machine) (c : Costs) (n : ℕ) (ts : List Task) → Kept (state_table m c n ts)
    → Chain (Precedes (denser_at (take n ts)) (λ i j. i < j)) (packed (take n ts))
packing-ranked m c n ts sane = ranked m c n ts ((state-kept m c n ts).1 sane)

pub packing-one : (m : Machine) (c : Costs) (n : ℕ) (ts : List Task) → Kept (state_table m c n ts) → (ks : List ℕ)
    → Rearranged (length (take n ts)) ks → Chain (Precedes (denser_at (take n ts)) (λ i j. i < j)) ks → ks ≡ packed (take n ts)
packing-one m c n ts sane = only-order m c n ts ((state-kept m c n ts).1 sane)

pub walk-order : (m : Machine) (c : Costs) (ts : List Task) → walked m c ts ≡ walk_over (place_way m c ts) (packed ts)
walk-order = in-packing-order

-- what the walk over the tasks ts placed, in placement order
pub record Promised (m : Machine) (c : Costs) (ts : List Task) (log : List (Placed ℕ)) : Type 0 where
  pub placed : (k : ℕ) → k < length ts → TaskPlaced m c ts k log
  pub budgets : (k : ℕ) → k < length ts → sum_by (λ e. e.piece.budget) (of_task k log) ≡ (task_at ts k).times.worst
  pub windows : (k : ℕ) → k < length ts → sum_by (λ e. e.piece.window) (of_task k log) ≡ (task_at ts k).times.deadline
  pub jitters : (k : ℕ) → k < length ts
      → Each (λ e. e.piece.jitter ≡ cond (arrives e.piece.kind) (c.precision + c.ipb + c.relo + c.tseto) (task_at ts k).times.jitter) (of_task k log)
  pub cores : (q : ℕ) → Bounded (core_of c (row_of q log)) × KeepsUp (stall c) (core_of c (row_of q log))
  pub within : Each (λ e. e.on < m.cores) log

pub walk-promised : (m : Machine) (c : Costs) (n : ℕ) (ts : List Task) → Kept (state_table m c n ts) → (s : Stand) (l : List (Placed ℕ))
    → walked m c (take n ts) ≡ fine s l → Promised m c (take n ts) l
walk-promised m c n ts sane s l so =
    let good = (state-kept m c n ts).1 sane in
    record {
      placed = all_placed m c n ts good s l so;
      budgets = budgets-add m c n ts good s l so;
      windows = windows-add m c n ts good s l so;
      jitters = jitters-told m c n ts good s l so;
      cores = cores-bounded m c n ts good s l so;
      within = (plan-counts m c n ts good s l so).cores;
    }

-- 400,000 and 1,000,000
pub late-bounded : (c : Costs) → SizedCosts c → (c.precision + c.ipb + c.relo + c.tseto ≤ 4 * cost_most) × (4 * cost_most < time_most)
late-bounded c costs = (subst (λ (j : ℕ). j ≤ 4 * cost_most) (late-jitter-is c costs) (late-jitter-most c), omega arith)

-- so of a sheet whose listing is written: `text_of` prints what its walk placed
pub sheet-promised : (sheet : List ℕ) (room : ℕ) → Kept (sheet_table sheet room) → Promised (machine_in sheet) (costs_in sheet) (tasks_in sheet) (placed_of sheet)
sheet-promised sheet room kept =
    let m = machine_in sheet in
    let c = costs_in sheet in
    let ts = tasks_in sheet in
    let all = take-length ts in
    let ends = sheet-walks sheet room kept in
    subst (λ (us : List Task). Promised m c us (placed_of sheet)) all
    (walk-promised m c (length ts) ts (sheet-sane sheet (kept_read sheet room kept)) ends.0 (placed_of sheet) (ap (walked m c) all ∙ ends.1))

pub plan-made : (m : Machine) (c : Costs) (n : ℕ) (ts : List Task) → (plan_of m c n ts).number ≡ 0
    → Held (plan_of m c n ts).plan × ((plan_of m c n ts).plan.machine ≡ m) × ((plan_of m c n ts).plan.costs ≡ c) × (tasks_held (plan_of m c n ts).plan ≡ take n ts)
plan-made = made_held

-- and with a refusal comes no plan: one that holds nothing and is the same for all
pub plan-none : (m : Machine) (c : Costs) (n : ℕ) (ts : List Task) → Not ((plan_of m c n ts).number ≡ 0)
    → ((plan_of m c n ts).plan.tasks.count ≡ 0) × ((plan_of m c n ts).plan.layout.count ≡ 0)
    × ((m' : Machine) (c' : Costs) (n' : ℕ) (ts' : List Task) → Not ((plan_of m' c' n' ts').number ≡ 0) → (plan_of m c n ts).plan ≡ (plan_of m' c' n' ts').plan)
plan-none = nothing-planned

pub plan-counted : (m : Machine) (c : Costs) (n : ℕ) (ts : List Task) → Kept (state_table m c n ts) → (s : Stand) (l : List (Placed ℕ))
    → walked m c (take n ts) ≡ fine s l
    → ((plan_of m c n ts).carries ≡ 0) × ((plan_of m c n ts).plan.tasks.count ≡ length (take n ts)) × ((plan_of m c n ts).plan.layout.count ≡ length l)
plan-counted = counts-planned

pub plan-listed : (m : Machine) (c : Costs) (n : ℕ) (ts : List Task) → Kept (state_table m c n ts) → (s : Stand) (l : List (Placed ℕ))
    → walked m c (take n ts) ≡ fine s l → listing_of (plan_of m c n ts).plan ≡ placed_listing c (take n ts) l
plan-listed = listed-planned

-- a plan of the machine m, the costs c and the tasks ts that counts what was placed, l, and has it in its rows and words
pub record Shows (m : Machine) (c : Costs) (ts : List Task) (l : List (Placed ℕ)) (s : Plan) : Type 0 where
  pub machine : s.machine ≡ m
  pub costs : s.costs ≡ c
  pub tasks : tasks_held s ≡ ts
  pub count : s.layout.count ≡ length l
  pub rows : (q : ℕ) → q < cores_most → row_in s q ≡ map stored_of (on_core q l)
  pub words : (q k : ℕ) → q < cores_most → (bit_of (get_or s.layout.words q 0) k ≡ 1) ↔ (1 ≤ length (of_task k (on_core q l)))

-- `plan_reached` answers the same, but with 7 it has a plan all the same: of what was placed before the walk stuck
module _ (m : Machine) (c : Costs) (n : ℕ) (ts : List Task) where
  pub reached-numbered : ((reached_of m c n ts).number ≡ (plan_of m c n ts).number) × ((reached_of m c n ts).carries ≡ (plan_of m c n ts).carries)
  reached-numbered = reached-number m c n ts

  pub reached-alike : Not ((plan_of m c n ts).number ≡ 7) → reached_of m c n ts ≡ plan_of m c n ts
  reached-alike = alike-reached m c n ts

  pub reached-until : Kept (state_table m c n ts) → (k : ℕ) → walked m c (take n ts) ≡ stuck k 7
      → Shows m c (take n ts) (walked_until m c (take n ts)) (reached_of m c n ts).plan
  reached-until sane k sticks = record {
    machine = ap (λ (s : Plan). s.machine) (reached-is m c n ts sane k sticks);
    costs = ap (λ (s : Plan). s.costs) (reached-is m c n ts sane k sticks);
    tasks = reached-tasks m c n ts sane k sticks;
    count = reached-count m c n ts sane k sticks;
    rows = reached-rows m c n ts sane k sticks;
    words = reached-bits m c n ts sane k sticks;
  }

-- ---- two plans side by side

pub diff-answered : (sheet sheet' : List ℕ) → Answered (diff_table sheet sheet') (diff_text_of sheet sheet') (diff_number sheet sheet')
diff-answered = sheets-answered

pub diff-left : (sheet sheet' : List ℕ) → Leaves (diff_table sheet sheet') (diff_text_of sheet sheet') (diff_left sheet sheet')
diff-left = sheets-left

pub diff-shown : (sheet sheet' : List ℕ)
    → diff_text_of sheet sheet' ≡ diff_text (length (tasks_in sheet)) (length (tasks_in sheet')) (standing_in sheet) (standing_in sheet')
unfolding diff_text_of
diff-shown sheet sheet' = refl

pub diff-any : (s t : Plan) → diff_of s t ≡ diff_text s.tasks.count t.tasks.count (standing s) (standing t)
unfolding diff_of
diff-any s t = refl

pub diff-held : (s t : Plan) (held : Held s) (other : Held t)
    → diff_of s t
    ≡ diff_text s.tasks.count t.tasks.count (map (called_by (tasks_held s)) (by_core cores_most held.log))
    (map (called_by (tasks_held t)) (by_core cores_most other.log))
diff-held = held-diff

-- of any two plans, that place l and k
module _ (l k : List (Placed (List ℕ))) where
  pub moved-in-order : Chain (λ m n. comes_before m n ≡ true) (moved_names l k)
  moved-in-order = names-chain l k

  pub moved-exactly : (n : List ℕ) → SomeOf (λ m. m ≡ n) (moved_names l k) ↔ Not (Alike n l k)
  moved-exactly = unlike-means l k

  pub diff-nothing : (t u : ℕ) → (diff_text t u l k ≡ diff_head t u) ↔ ((n : List ℕ) → Alike n l k)
  diff-nothing = nothing-moved l k

pub byte-itself : (n : List ℕ) → Not (comes_before n n ≡ true)
byte-itself = below-not-itself

pub byte-on : (l m n : List ℕ) → comes_before l m ≡ true → comes_before m n ≡ true → comes_before l n ≡ true
byte-on = below_on

pub byte-total : (m n : List ℕ) → (comes_before m n ≡ true) ⊎ ((m ≡ n) ⊎ (comes_before n m ≡ true))
byte-total = below_total

-- a state is a held plan when its rows and words are exactly those of the walk over its own machine, costs and task list; so it has what the walk promises
pub held-promised : (s : Plan) (held : Held s) → Promised s.machine s.costs (tasks_held s) held.log
held-promised s held =
    walk-promised s.machine s.costs s.tasks.count s.tasks.list held.sane held.stand held.log held.walks

pub held-ones : (s : Plan) (held : Held s) (q : ℕ) → q < cores_most → tasks_on s.layout q ≡ length (on_core q held.log)
held-ones = ones-held

-- ---- demand 3: edits

pub begun-held : (s : Plan) → plan_of s.machine s.costs s.tasks.count s.tasks.list ≡ accepted s → Held s
unfolding Afresh
begun-held s = afresh-held s

pub after_any : (es : List TaskEdit) (s : Plan) → Held s
    → Held (played es s) × ((played es s).machine ≡ s.machine) × ((played es s).costs ≡ s.costs)
after_any es s = after-held es s

pub after-any-afresh : (es : List TaskEdit) (s : Plan) → plan_of s.machine s.costs s.tasks.count s.tasks.list ≡ accepted s
    → plan_of s.machine s.costs (played es s).tasks.count (played es s).tasks.list ≡ accepted (played es s)
unfolding Afresh
after-any-afresh es s = after-edits-afresh es s

pub edit-yields : (e : TaskEdit) (s : Plan) → (edit_of e s).number ≡ 0
    → Held (edit_of e s).plan × ((edit_of e s).plan.machine ≡ s.machine) × ((edit_of e s).plan.costs ≡ s.costs)
    × (tasks_held (edit_of e s).plan ≡ edited by_name e (tasks_held s))
edit-yields = yields-held

pub edit-afresh : (e : TaskEdit) (s : Plan) → (edit_of e s).number ≡ 0
    → edit_of e s ≡ plan_of s.machine s.costs (length (edited by_name e (tasks_held s))) (edited by_name e (tasks_held s))
edit-afresh = edit-planned

pub edit-looks-at : (e : TaskEdit) (s t : Plan) → s.machine ≡ t.machine → s.costs ≡ t.costs → tasks_held s ≡ tasks_held t
    → s.tasks.count ≡ t.tasks.count → ((edit_of e s).number ≡ (edit_of e t).number) × ((edit_of e s).carries ≡ (edit_of e t).carries)
    × ((edit_of e s).number ≡ 0 → (edit_of e s).plan ≡ (edit_of e t).plan)
edit-looks-at e s t machine costs tasks count =
    let same = edit-relies e s t machine costs tasks count in
    (same.number, same.carries, same.plan)

module _ (e : TaskEdit) (s : Plan) (held : Held s) (taken : (edit_of e s).number ≡ 0) where
  pub kept-before : (b : Name) → Ahead (edited_name e) b (tasks_held s) → Ahead (edited_name e) b (tasks_held (edit_of e s).plan) → Keeps s (edit_of e s).plan b
  kept-before = held-before s held e taken

  -- the walks over the tasks before b, in the old and in the new packing order, end at one core with one row
  pub kept-after : {p r p' r' : List Task} {b b' : Task} → Behind by_name (edited_name e) (in_order (tasks_held s)) p b r
      → Behind by_name (edited_name e) (in_order (tasks_held (edit_of e s).plan)) p' b' r' → b.name ≡ b'.name → (t t' : Stand) (l l' : List (Placed Task))
      → walk_over (task_way s.machine s.costs) p ≡ fine t l → walk_over (task_way s.machine s.costs) p' ≡ fine t' l'
      → t.core ≡ t'.core → t.row ≡ t'.row → (d : Name) → Among by_name d (b ∷ r) → Keeps s (edit_of e s).plan d
  kept-after {p} {r} {p'} {r'} old new names t t' l l' walks walks' core row =
      held_after s held e taken old new names (same-stand s.machine s.costs p p' t t' l l' walks walks' core row)

-- ---- what the tests tell that definitions go by

pub verdict-passing : (v : Verdict) → (passing v ≡ true) ↔ (v ≡ Passes)
verdict-passing = passes-exact

pub costs-sized : (c : Costs) → (sized_costs c ≡ true) ↔ SizedCosts c
costs-sized = costs-exact

pub names-equal : (a b : Name) → (same_name a b ≡ true) ↔ (a ≡ b)
names-equal = same-name-exact

pub bytes-equal : (a b : List ℕ) → (same_bytes a b ≡ true) ↔ (a ≡ b)
bytes-equal = same-bytes-exact

pub name-formed : (n : Name) → (formed n ≡ true) ↔ Formed n
name-formed = formed-exact

pub placed-equal : (e f : Placed (List ℕ)) → (same_placed same_bytes e f ≡ true) ↔ (e ≡ f)
placed-equal = same-placed-exact same_bytes same-bytes-exact
