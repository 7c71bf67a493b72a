-- The table H: figures for what K1 to K11 have not, worked out by hand from documents 01 and 02 and held to the oracle, so that a slip in a definition is seen.
-- A comment says how each figure comes about. `proofs/Cases.antt` has that every row holds.
--
--   paid p             RelO 2, SchedO 3, TsetO 1, IpB 3, BetO 2, MigrO 1, IpiO 5, IpiJ 7, and π = p; so b = max(3, 3 + 1) = 4, RelO + TsetO = 3
--   distinct p         nine constants of which no two are equal: RelO 2, SchedO 5, TsetO 1, IpB 8, BetO 3, MigrO 4, IpiO 6, IpiJ 7, and π = p; so b = 8
--   cached k x d t j p m   a piece with all its numbers
--   only_cost i v       the i-th cost v, the others 0
--   charge_rows, blocking_rows, split_rows, size_rows   the table, in four parts
use Rattle.std.specs.Prelude.{cond, List, [], ◌∷◌, ℕ, eqb, replicate, None}
use Rattle.demand.specs.declared.Kind.{Kind}
use Rattle.demand.specs.declared.Kind.TheVariants.{Whole, First, Last}
use Rattle.demand.specs.declared.Piece.{Piece}
use Rattle.demand.specs.declared.Costs.{Costs}
use Rattle.demand.specs.declared.Verdict.TheVariants.{Passes, Overloaded}
use Rattle.demand.specs.Charge.{no_costs}
use Rattle.demand.specs.Cases.{Row, says, busy, asks, tight, charges, splits, takes, whole}
use Rattle.demand.specs.Split.{cut_at}

unfoldable pub paid : ℕ → Costs
paid p = record { relo = 2; schedo = 3; tseto = 1; ipb = 3; beto = 2; migro = 1; ipio = 5; ipij = 7; precision = p }

unfoldable pub distinct : ℕ → Costs
distinct p = record { relo = 2; schedo = 5; tseto = 1; ipb = 8; beto = 3; migro = 4; ipio = 6; ipij = 7; precision = p }

unfoldable pub cached : Kind → ℕ → ℕ → ℕ → ℕ → ℕ → ℕ → Piece
cached k x d t j p m = record { kind = k; budget = x; window = d; period = t; jitter = j; preempt = p; migrate = m }

unfoldable pub only_cost : ℕ → ℕ → Costs
only_cost i v = record {
  relo = cond (eqb i 1) v 0;
  schedo = cond (eqb i 2) v 0;
  tseto = cond (eqb i 3) v 0;
  ipb = cond (eqb i 4) v 0;
  beto = cond (eqb i 5) v 0;
  migro = cond (eqb i 6) v 0;
  ipio = cond (eqb i 7) v 0;
  ipij = cond (eqb i 8) v 0;
  precision = cond (eqb i 9) v 0;
}

unfoldable pub every_cost : ℕ → Costs
every_cost v = record { relo = v; schedo = v; tseto = v; ipb = v; beto = v; migro = v; ipio = v; ipij = v; precision = v }

-- ---- charge, demand, busy length, verdict

unfoldable pub late : Piece
late = cached Last 5 60 100 6 2 3

-- 4 20 20 with P 1 has C' = 4 + 2·3 + 1 + 1 = 12
unfoldable pub often : Piece
often = cached Whole 4 20 20 0 1 3

-- C' of 5 with P 2, M 3: whole 5 + 2·3 + 1 + 2 = 14; first 14 + IpB 3 + BetO 2 + MigrO 1 = 20; last 14 + M 3 = 17
unfoldable pub charge_rows : List Row
charge_rows =
    charges 1 (paid 6) (cached Whole 5 60 100 6 2 3) 14
    ∷ charges 1 (paid 6) (cached First 5 60 100 6 2 3) 20
    ∷ charges 1 (paid 6) late 17
    -- n(t) = 0: b 4, release ⌈59/100⌉·3, IPI ⌈60/100⌉·5
    ∷ asks 2 (paid 6) (late ∷ []) 53 12
    -- the job is due: 17 more
    ∷ asks 2 (paid 6) (late ∷ []) 54 29
    ∷ asks 2 (paid 6) (late ∷ []) 59 29
    -- no blocking from the window on
    ∷ asks 2 (paid 6) (late ∷ []) 60 25
    -- ⌈(94 + IpiJ)/100⌉ = 2: 17 + 3 + 2·5
    ∷ asks 2 (paid 6) (late ∷ []) 93 25
    ∷ asks 2 (paid 6) (late ∷ []) 94 30
    -- ⌈(95 + J)/100⌉ = 2: 17 + 2·3 + 2·5
    ∷ asks 2 (paid 6) (late ∷ []) 95 33
    -- two jobs due from 160 − J on: 34 + 2·3 + 2·5
    ∷ asks 2 (paid 6) (late ∷ []) 154 50
    -- 17 + 3 + 5; it passes, for g(54) = 29
    ∷ busy 3 (paid 6) (late ∷ []) 25
    ∷ says 3 (paid 6) (late ∷ []) Passes
    -- t0 is the least of each D − J: behind another piece, K11's is still judged from 0
    ∷ says 3 no_costs (whole 1 50 50 ∷ cached Whole 1 5 10 5 0 0 ∷ []) (Overloaded 0)
    -- ⌈100/20⌉·(12 + 3) + 17 + 3 + 5 = 100; at 85 it is 100 too
    ∷ busy 4 (paid 6) (often ∷ late ∷ []) 100
    ∷ []

-- C' 5 + 7 + 3 + 3 = 18 and 5 + 7 + 2 = 14: g(46) = b 4 + 18 + 14 + 3 + 5 + 3 = 47, g(47) = 43 since blocking has ended
unfoldable pub blocked : List Piece
blocked = cached Last 5 47 80 6 3 3 ∷ cached Whole 5 46 70 0 2 0 ∷ []

unfoldable pub blocking_rows : List Row
blocking_rows =
    asks 5 (paid 6) blocked 46 47
    ∷ asks 5 (paid 6) blocked 47 43
    ∷ says 5 (paid 6) blocked (Overloaded 46)
    ∷ []

-- ---- tight window and split

-- J 5 and t = 52: b 4, C' 20, releases ⌈52/20⌉·3 + ⌈58/48⌉·3 + ⌈57/100⌉·3, IPIs ⌈59/48⌉·5, which is 4 + 20 + 9 + 6 + 3 + 10 = 52
-- x = 10, J 10: C' 10 + 7 + 1 + 6 = 24, t = 34 = 4 + 24 + 3 + 3, window 44; then g(61) = 28 + 24 + 2·3 + 3 = 61, and with x = 15 it is 66.
-- The last piece has 41 in 73, C' 41 + 7 + 1 + 3 = 52: with J = π + 3 + 2 + 1 its first job is due at 67 − π, and asks for 4 + 52 + 3 + 5 = 64. π 3 leaves 64.
-- 5 left of 30: C' of 25 is 25 + 10 + 1 + 2 + 15 = 53, t = 64 = 8 + 53 + 3; the last piece has 5 in 56, C' 5 + 10 + 1 + 2 + 1 = 19, and with J = π + 8 + 2 + 1
-- it is due at 45 − π, where it asks for 8 + 19 + 3 + 6 = 36. π 9 leaves 36; with π 10 each other x lacks 1 too, since 5 less of it are 5 more there.
unfoldable pub split_rows : List Row
split_rows =
    tight 6 (paid 6) (often ∷ cached Last 3 40 48 6 2 3 ∷ []) (cached First 5 100 100 5 2 3) 57
    ∷ splits 7 (paid 3) 5 (cached Whole 19 60 60 0 2 0 ∷ []) (cached Whole 51 117 130 10 1 3) (cut_at 10 44)
    ∷ splits 7 (paid 4) 5 (cached Whole 19 60 60 0 2 0 ∷ []) (cached Whole 51 117 130 10 1 3) None
    ∷ splits 7 (distinct 9) 5 [] (cached Whole 30 120 140 0 2 1) (cut_at 25 64)
    ∷ splits 7 (distinct 10) 5 [] (cached Whole 30 120 140 0 2 1) None
    -- x is below C: 3 in 3 would pass too, with nothing left
    ∷ splits 7 no_costs 1 [] (whole 3 5 10) (cut_at 2 2)
    ∷ []

-- ---- sizes: at each bound taken, past it refused: a run by 106, costs by 102, a record by 103 with its place

unfoldable pub size_rows : List Row
size_rows =
    takes 8 (every_cost 100000) [] 0 0
    ∷ takes 8 (only_cost 1 100001) [] 102 0
    ∷ takes 8 (only_cost 2 100001) [] 102 0
    ∷ takes 8 (only_cost 3 100001) [] 102 0
    ∷ takes 8 (only_cost 4 100001) [] 102 0
    ∷ takes 8 (only_cost 5 100001) [] 102 0
    ∷ takes 8 (only_cost 6 100001) [] 102 0
    ∷ takes 8 (only_cost 7 100001) [] 102 0
    ∷ takes 8 (only_cost 8 100001) [] 102 0
    ∷ takes 8 (only_cost 9 100001) [] 102 0
    ∷ takes 9 no_costs (cached Whole 1000000 1000000 1000000 1000000 100000 100000 ∷ whole 1 1 1 ∷ []) 0 0
    ∷ takes 9 no_costs (whole 0 1 1 ∷ []) 103 1
    ∷ takes 9 no_costs (whole 1 1 1 ∷ whole 3 2 9 ∷ []) 103 2
    ∷ takes 9 no_costs (whole 1 9 8 ∷ whole 3 2 9 ∷ []) 103 1
    ∷ takes 9 no_costs (whole 1 1 1000001 ∷ []) 103 1
    ∷ takes 9 no_costs (cached Whole 1 1 1 1000001 0 0 ∷ []) 103 1
    ∷ takes 9 no_costs (cached Whole 1 1 1 0 100001 0 ∷ []) 103 1
    ∷ takes 9 no_costs (cached Whole 1 1 1 0 0 100001 ∷ []) 103 1
    -- a run, then the costs, then the records
    ∷ takes 10 no_costs (replicate 79 (whole 1 1 1)) 0 0
    ∷ takes 10 (every_cost 100001) (replicate 80 (whole 0 1 1)) 106 0
    ∷ takes 10 (every_cost 100001) (replicate 79 (whole 0 1 1)) 102 0
    ∷ []
