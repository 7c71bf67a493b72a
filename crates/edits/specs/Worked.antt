-- The table H for plans and edits, beside that of crate `demand`: worked out by hand from documents 01 and 02 and held to the oracle, so that a slip in a
-- definition is seen. An answer is the refusal's number and what it carries, or 0 and 0, and then the pieces of the first two cores: core, task,
-- kind (0 whole, 1 first, 2 last), budget, window, jitter. `proofs/Worked.antt` has that every row holds.
--
--   letter b               the name of the one byte b; 0 is no byte of a name
--   fitted b c d t j p m   the task of that name with those times
--   simple b c d           with T = D, and no jitter or cache charge
--   crowd n                n tasks with different names
--   Trial                  a question with its answer: the plan of a task list, or an edit on a state made by hand, with nothing placed
--   missed rs              the numbers of the rows that do not hold
--   three                  three tasks for two cores, whose plan goes by π
--   plan_rows, state_rows, add_rows, withdraw_rows, retime_rows, name_rows   the table, in six parts
use Rattle.std.specs.Prelude.{Bool, true, false, cond, ◌&&◌, List, [], ◌∷◌, ◌++◌, map, ℕ, suc, ◌+◌, ◌/◌, ◌%◌, length, replicate}
use Rattle.demand.specs.declared.Costs.{Costs}
use Rattle.demand.specs.Lists.{padded}
use Rattle.demand.specs.Charge.{no_costs}
use Rattle.demand.specs.Worked.{paid, only_cost}
use Rattle.task.specs.declared.Name.{Name}
use Rattle.task.specs.declared.Task.{Task}
use Rattle.task.specs.declared.Machine.{Machine}
use Rattle.task.specs.Names.{name_most, same_bytes}
use Rattle.walks.specs.Edits.{add, withdraw, retime}
use Rattle.plan.specs.declared.Stored.{Stored}
use Rattle.plan.specs.declared.Plan.{Plan}
use Rattle.plan.specs.Reply.{Reply}
use Rattle.plan.specs.Walk.{upto}
use Rattle.plan.specs.Layout.{none}
use Rattle.plan.specs.Plan.{plan_of}
use Rattle.edits.specs.Edits.{TaskEdit, edit_of, row_in}

unfoldable pub letter : ℕ → Name
letter b = record { len = 1; bytes = b ∷ replicate 23 0 }

unfoldable pub fitted : ℕ → ℕ → ℕ → ℕ → ℕ → ℕ → ℕ → Task
fitted b c d t j p m = record { name = letter b; times = record { worst = c; deadline = d; period = t; jitter = j; preempt = p; migrate = m } }

unfoldable pub simple : ℕ → ℕ → ℕ → Task
simple b c d = fitted b c d d 0 0 0

unfoldable pub machine_with : ℕ → ℕ → Machine
machine_with m g = record { cores = m; grain = g }

unfoldable pub two_letters : ℕ → Task
two_letters k = record { name = record { len = 2; bytes = (97 + k / 8) ∷ (97 + k % 8) ∷ replicate 22 0 }; times = (simple 97 1 9).times }

unfoldable pub crowd : ℕ → List Task
crowd n = map two_letters (upto n)

-- ---- questions and answers

pub data Trial : Type 0 where
  plans : (k : ℕ) → Machine → Costs → List Task → List (List ℕ) → Trial
  edits : (k : ℕ) → TaskEdit → Machine → Costs → List Task → List (List ℕ) → Trial

unfoldable pub state_with : Machine → Costs → List Task → Plan
state_with m c ts = record { machine = m; costs = c; tasks = record { count = length ts; list = ts }; layout = none }

abbrev pub seated : ℕ → Stored → List ℕ
seated q s = suc q ∷ suc s.task ∷ s.kind ∷ s.budget ∷ s.window ∷ s.jitter ∷ []

abbrev pub seats_in : Plan → List (List ℕ)
seats_in s = map (seated 0) (row_in s 0) ++ map (seated 1) (row_in s 1)

abbrev pub came_of : Reply → List (List ℕ)
came_of r = (r.number ∷ r.carries ∷ []) ∷ seats_in r.plan

abbrev pub same_lists : List (List ℕ) → List (List ℕ) → Bool
same_lists [] [] = true
same_lists [] (y ∷ ys) = false
same_lists (x ∷ xs) [] = false
same_lists (x ∷ xs) (y ∷ ys) = same_bytes x y && same_lists xs ys

unfoldable pub missed : List Trial → List ℕ
missed [] = []
missed (plans k m c ts is ∷ rs) = cond (same_lists (came_of (plan_of m c (length ts) ts)) is) (missed rs) (k ∷ missed rs)
missed (edits k e m c ts is ∷ rs) = cond (same_lists (came_of (edit_of e (state_with m c ts))) is) (missed rs) (k ∷ missed rs)

abbrev pub refused_with : ℕ → ℕ → List (List ℕ)
refused_with n carries = (n ∷ carries ∷ []) ∷ []

-- ---- plans

-- C/D is 26/92, 43/109, 62/139: the third comes first. b 4, RelO + TsetO 3. The second has x = 25: C' 25 + 7 + 1 + 6 = 39, t = 4 + 39 + 3 + 3 = 49,
-- window 8 + 49; then g(127) = 4 + 72 + 39 + 3 + 2·3 = 124, and with x = 30 it is 129. Its last piece has 18 in 109 − 57, C' 18 + 7 + 1 + 5 = 31 and
-- J = π + 3 + 2 + 1: it is due at 46 − π, and there asks for 4 + 31 + 3 + 5 = 43 alone, and with the first task's releases, 3, for 46.
unfoldable pub three : List Task
three = fitted 97 26 92 130 4 1 6 ∷ fitted 98 43 109 120 8 1 5 ∷ fitted 99 62 139 140 12 3 6 ∷ []

unfoldable pub plan_rows : List Trial
plan_rows =
    plans 1 (machine_with 2 5) (paid 0) three
    ((0 ∷ 0 ∷ [])
    ∷ (1 ∷ 3 ∷ 0 ∷ 62 ∷ 139 ∷ 12 ∷ [])
    ∷ (1 ∷ 2 ∷ 1 ∷ 25 ∷ 57 ∷ 8 ∷ [])
    ∷ (2 ∷ 2 ∷ 2 ∷ 18 ∷ 52 ∷ 6 ∷ [])
    ∷ (2 ∷ 1 ∷ 0 ∷ 26 ∷ 92 ∷ 4 ∷ [])
    ∷ [])
    -- due at 45 the split is still allowed, and leaves the first task no room; due at 42 it is not, and the second is placed whole
    ∷ plans 1 (machine_with 2 5) (paid 1) three (refused_with 7 1)
    ∷ plans 1 (machine_with 2 5) (paid 4) three
    ((0 ∷ 0 ∷ []) ∷ (1 ∷ 3 ∷ 0 ∷ 62 ∷ 139 ∷ 12 ∷ []) ∷ (2 ∷ 2 ∷ 0 ∷ 43 ∷ 109 ∷ 8 ∷ []) ∷ (2 ∷ 1 ∷ 0 ∷ 26 ∷ 92 ∷ 4 ∷ []) ∷ [])
    -- document 01's sheet: three alike keep their order, and 6 + 4 fill the first core
    ∷ plans 2 (machine_with 2 1) no_costs (simple 97 6 10 ∷ simple 98 6 10 ∷ simple 99 6 10 ∷ [])
    ((0 ∷ 0 ∷ []) ∷ (1 ∷ 1 ∷ 0 ∷ 6 ∷ 10 ∷ 0 ∷ []) ∷ (1 ∷ 2 ∷ 1 ∷ 4 ∷ 4 ∷ 0 ∷ []) ∷ (2 ∷ 2 ∷ 2 ∷ 2 ∷ 6 ∷ 0 ∷ []) ∷ (2 ∷ 3 ∷ 0 ∷ 6 ∷ 10 ∷ 0 ∷ []) ∷ [])
    -- on one core the second of the two that come first sticks: its place in the list is 3
    ∷ plans 3 (machine_with 1 1) no_costs (simple 97 1 10 ∷ simple 98 6 10 ∷ simple 99 6 10 ∷ []) (refused_with 7 3)
    ∷ []

-- ---- a state's own faults: 1, 2, 6, then at the first bad task 8, 3 or 4

unfoldable pub state_rows : List Trial
state_rows =
    plans 4 (machine_with 1 1) no_costs [] (refused_with 0 0)
    ∷ plans 4 (machine_with 16 1000000) no_costs [] (refused_with 0 0)
    ∷ plans 4 (machine_with 0 1) no_costs [] (refused_with 1 0)
    ∷ plans 4 (machine_with 17 1) no_costs [] (refused_with 1 0)
    ∷ plans 4 (machine_with 1 0) no_costs [] (refused_with 1 0)
    ∷ plans 4 (machine_with 1 1000001) no_costs [] (refused_with 1 0)
    -- of two faults the one that comes first
    ∷ plans 5 (machine_with 0 1) (only_cost 9 100001) [] (refused_with 1 0)
    ∷ plans 5 (machine_with 1 1) (only_cost 9 100001) (replicate 65 (simple 97 1 9)) (refused_with 2 0)
    ∷ plans 5 (machine_with 1 1) no_costs (replicate 65 (simple 0 1 9)) (refused_with 6 0)
    ∷ plans 5 (machine_with 1 1) no_costs (replicate 64 (simple 0 1 9)) (refused_with 8 0)
    ∷ plans 6 (machine_with 1 1) no_costs (simple 97 1 9 ∷ simple 0 0 9 ∷ []) (refused_with 8 0)
    ∷ plans 6 (machine_with 1 1) no_costs (simple 97 1 9 ∷ simple 97 0 9 ∷ []) (refused_with 3 0)
    ∷ plans 6 (machine_with 1 1) no_costs (simple 97 1 9 ∷ simple 97 1 9 ∷ []) (refused_with 4 0)
    ∷ plans 6 (machine_with 1 1) no_costs (simple 97 10 9 ∷ simple 0 1 9 ∷ []) (refused_with 3 0)
    -- and before the edit's own
    ∷ edits 7 (add (simple 0 0 9)) (machine_with 0 1) no_costs [] (refused_with 1 0)
    ∷ edits 7 (add (simple 0 0 9)) (machine_with 1 1) (only_cost 1 100001) [] (refused_with 2 0)
    ∷ edits 7 (withdraw (letter 0)) (machine_with 1 1) no_costs (crowd 65) (refused_with 6 0)
    ∷ edits 7 (withdraw (letter 98)) (machine_with 1 1) no_costs (simple 97 1 9 ∷ simple 97 1 9 ∷ []) (refused_with 4 0)
    ∷ []

-- ---- edits: 8, then 3, then 4 or 5, then 6, then 7

unfoldable pub add_rows : List Trial
add_rows =
    edits 8 (add (simple 0 0 9)) (machine_with 1 1) no_costs [] (refused_with 8 0)
    ∷ edits 8 (add (simple 97 0 9)) (machine_with 1 1) no_costs (simple 97 1 9 ∷ []) (refused_with 3 0)
    ∷ edits 8 (add (simple 97 1 9)) (machine_with 1 1) no_costs (simple 97 1 9 ∷ []) (refused_with 4 0)
    ∷ edits 8 (add (two_letters 63)) (machine_with 1 1) no_costs (crowd 64) (refused_with 4 0)
    ∷ edits 8 (add (simple 97 1 9)) (machine_with 1 1) no_costs (crowd 64) (refused_with 6 0)
    -- 5 + 6 is more than 10, and the greater C/D comes first
    ∷ edits 8 (add (simple 98 6 10)) (machine_with 1 1) no_costs (simple 97 5 10 ∷ []) (refused_with 7 1)
    ∷ edits 8 (add (simple 98 5 10)) (machine_with 1 1) no_costs (simple 97 4 10 ∷ [])
    ((0 ∷ 0 ∷ []) ∷ (1 ∷ 2 ∷ 0 ∷ 5 ∷ 10 ∷ 0 ∷ []) ∷ (1 ∷ 1 ∷ 0 ∷ 4 ∷ 10 ∷ 0 ∷ []) ∷ [])
    ∷ []

unfoldable pub withdraw_rows : List Trial
withdraw_rows =
    edits 9 (withdraw (letter 0)) (machine_with 1 1) no_costs [] (refused_with 8 0)
    ∷ edits 9 (withdraw (letter 98)) (machine_with 1 1) no_costs (simple 97 1 9 ∷ []) (refused_with 5 0)
    ∷ edits 9 (withdraw (letter 97)) (machine_with 1 1) no_costs (simple 97 5 10 ∷ simple 98 5 10 ∷ [])
    ((0 ∷ 0 ∷ []) ∷ (1 ∷ 1 ∷ 0 ∷ 5 ∷ 10 ∷ 0 ∷ []) ∷ [])
    -- The walk is not monotone. With b, of 1 in 1, the first core has b and c, with no room for a first piece, and the second d and a. Without it
    -- the first core has c and 1 in 1 of d, and the second the rest of d, which M makes 2 in 2: a, of 1 in 2, finds no room.
    ∷ plans 9 (machine_with 2 1) no_costs (fitted 97 1 2 3 0 0 0 ∷ fitted 98 1 1 3 0 0 0 ∷ simple 99 2 3 ∷ fitted 100 2 3 3 0 0 1 ∷ [])
    ((0 ∷ 0 ∷ []) ∷ (1 ∷ 2 ∷ 0 ∷ 1 ∷ 1 ∷ 0 ∷ []) ∷ (1 ∷ 3 ∷ 0 ∷ 2 ∷ 3 ∷ 0 ∷ []) ∷ (2 ∷ 4 ∷ 0 ∷ 2 ∷ 3 ∷ 0 ∷ []) ∷ (2 ∷ 1 ∷ 0 ∷ 1 ∷ 2 ∷ 0 ∷ []) ∷ [])
    ∷ edits 9 (withdraw (letter 98)) (machine_with 2 1) no_costs (fitted 97 1 2 3 0 0 0 ∷ fitted 98 1 1 3 0 0 0 ∷ simple 99 2 3 ∷ fitted 100 2 3 3 0 0 1 ∷ [])
    (refused_with 7 1)
    ∷ []

unfoldable pub retime_rows : List Trial
retime_rows =
    edits 10 (retime (simple 0 0 9)) (machine_with 1 1) no_costs [] (refused_with 8 0)
    ∷ edits 10 (retime (simple 98 0 9)) (machine_with 1 1) no_costs (simple 97 1 9 ∷ []) (refused_with 3 0)
    ∷ edits 10 (retime (simple 98 1 9)) (machine_with 1 1) no_costs (simple 97 1 9 ∷ []) (refused_with 5 0)
    ∷ edits 10 (retime (simple 97 6 10)) (machine_with 1 1) no_costs (simple 97 5 10 ∷ simple 98 5 10 ∷ []) (refused_with 7 2)
    ∷ edits 10 (retime (simple 97 4 10)) (machine_with 1 1) no_costs (simple 97 5 10 ∷ simple 98 5 10 ∷ [])
    ((0 ∷ 0 ∷ []) ∷ (1 ∷ 2 ∷ 0 ∷ 5 ∷ 10 ∷ 0 ∷ []) ∷ (1 ∷ 1 ∷ 0 ∷ 4 ∷ 10 ∷ 0 ∷ []) ∷ [])
    ∷ []

-- ---- names: 1 to 24 letters, digits, hyphens and full stops, and zeros behind them

unfoldable pub name_with : ℕ → List ℕ → Name
name_with n bs = record { len = n; bytes = padded name_most 0 bs }

-- a name that breaks its form is 8; another is 5 here, since no task has it
abbrev pub named_is : ℕ → Name → Trial
named_is number n = edits 11 (withdraw n) (machine_with 1 1) no_costs [] (refused_with number 0)

unfoldable pub name_rows : List Trial
name_rows =
    -- hyphen and full stop, then both ends of the digits and of the letters; and the bytes beside them
    map (λ b. named_is 5 (letter b)) (45 ∷ 46 ∷ 48 ∷ 57 ∷ 65 ∷ 90 ∷ 97 ∷ 122 ∷ [])
    ++ (map (λ b. named_is 8 (letter b)) (44 ∷ 47 ∷ 58 ∷ 64 ∷ 91 ∷ 96 ∷ 123 ∷ [])
    ++ (named_is 5 (name_with 24 (replicate 24 97))
    ∷ named_is 8 (name_with 25 (replicate 24 97))
    ∷ named_is 8 (name_with 0 [])
    ∷ named_is 8 (name_with 2 (97 ∷ []))
    ∷ named_is 8 (name_with 1 (97 ∷ 98 ∷ []))
    ∷ []))
