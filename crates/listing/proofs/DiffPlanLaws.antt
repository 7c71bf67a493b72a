-- Two plans' structs side by side: the lines that the code writes by ranks are those of the listing; and of a plan that the walk gave, what stands in it is what was placed.
-- Assumes nothing.
--
--   seats-low             each piece of a layout's rows is on one of the sixteen cores
--   roll-long, called-first, called-second, covers      the names of two plans and none are 129, and whatever a piece is called by is among them
--   place_is, place-low   the first place with a rank
--   name-ranked           the name with the rank of a name is that name
--   diff-lines            rank after rank, the lines are those of the listing
--   stands-low, diff-wrote      what lies in the arrays is on one of the cores, and what is written of them is the listing
--   standing-kept, standing-placed      what stands in a plan whose rows keep what was placed, and so in one that the walk gave
use mathlib.Core.Path.{◌≡◌, refl, sym, ap, ◌∙◌, subst}
use mathlib.Core.Bool.{Bool, true, false, cond}
use mathlib.Core.Logic.{◌⊎◌, inl, inr}
use mathlib.Core.List.{List, [], ◌∷◌, ◌++◌, map}
use Prim.Native.Nat.{ℕ, zero, suc, ◌+◌, ◌≤◌, ◌<◌}
use native.Mathlib.Decide.{dec_lt}
use native.Mathlib.Omega.{arith}
use borrow.Author.Tests.{lt-ltb, le-ltb, eqb-true, eq-eqb}
use lib.Dec.{eqb}
use lib.ListN.{length, take, get_or, length-append, length-map, length-take, get_or-eq_default}
use Rattle.demand.specs.declared.Costs.{Costs}
use Rattle.demand.specs.Sizes.{Each, SomeOf}
use Rattle.demand.proofs.Sums.{each-imp}
use Rattle.task.specs.declared.Task.{Task}
use Rattle.task.specs.declared.Tasks.{Tasks}
use Rattle.task.specs.declared.Machine.{Machine}
use Rattle.task.specs.Tasks.{past, task_at, cores_most, tasks_most, tasks_of, state_fault}
use Rattle.task.proofs.TaskLaws.{state-sane, tasks-at}
use Rattle.walks.specs.Way.{Placed, fine, on_core, relabel}
use Rattle.walks.specs.Halves.{Stand}
use Rattle.walks.proofs.ListLaws.{each-join}
use Rattle.plan.specs.declared.Stored.{Stored}
use Rattle.plan.specs.declared.Layout.{Layout}
use Rattle.plan.specs.declared.Plan.{Plan}
use Rattle.plan.specs.Reply.{Reply}
use Rattle.plan.specs.Walk.{walked}
use Rattle.plan.specs.Plan.{plan_of}
use Rattle.plan.proofs.Theorems.{plan-counts, plan-shows}
use Rattle.listing.specs.declared.Ranked.{Ranked}
use Rattle.listing.specs.Text.{Wrote}
use Rattle.listing.specs.Listing.{spelling, row_pieces}
use Rattle.listing.specs.Placed.{by_core}
use Rattle.listing.specs.Why.{row_seats}
use Rattle.listing.specs.ByteOrder.{rank_in}
use Rattle.listing.specs.Diff.{moved_names, diff_blocks, diff_head, diff_text, seats_on, called_by, standing, diff_of}
use Rattle.listing.specs.Ways.RankArrays.{names_in, roll_of, Ranks, place_with, ranked_name, ranked_by, placed, rank_blocks}
use Rattle.listing.proofs.SeatLaws.{seat_of}
use Rattle.listing.proofs.PlacedLaws.{Seated, all-seated, map_same, by-core-each, plan-is}
use Rattle.listing.proofs.WhyPlacedLaws.{row-seats}
use Rattle.listing.proofs.ByteOrderLaws.{rank-one, some-join, some-behind}
use Rattle.listing.proofs.MovedLaws.{Covered}
use Rattle.listing.proofs.RankBlockLaws.{blocks-by-rank}

-- ---- what stands in a layout

row_low : (s : Layout) (q : ℕ) → q < 16 → Each (λ e. e.on < cores_most) (row_seats s q)
unfolding row_seats
row_low s q low = by (row_pieces s q)
  where
    by : (l : List Stored) → Each (λ e. e.on < cores_most) (map (seat_of q) l)
    by [] = tt
    by (t ∷ l) = (low, by l)

pub seats-low : (s : Layout) (n : ℕ) → n ≤ 16 → Each (λ e. e.on < cores_most) (seats_on s n)
seats-low s zero few = tt
seats-low s (suc q) few =
    each-join (λ e. e.on < cores_most) (seats_on s q) (row_seats s q) (seats-low s q (omega arith)) (row_low s q (omega arith))

-- ---- the names of two plans

module _ (ts us : List Task) where
  abbrev roll : List (List ℕ)
  roll = roll_of ts us

  pub roll-long : length ts ≡ 64 → length us ≡ 64 → length (roll_of ts us) ≡ 129
  unfolding roll_of
  roll-long first second =
      omega (
        arith,
        length-append (names_in ts) (names_in us),
        length-map ts (λ (t : Task). spelling t.name),
        length-map us (λ (t : Task). spelling t.name),
      )

  none-there : SomeOf (λ x. x ≡ []) roll
  unfolding roll_of
  none-there = inl refl

  first-there : (n : List ℕ) → SomeOf (λ x. x ≡ n) (names_in ts) → SomeOf (λ x. x ≡ n) roll
  unfolding roll_of
  first-there n h = inr (some-join (λ x. x ≡ n) (names_in ts) (names_in us) h)

  second-there : (n : List ℕ) → SomeOf (λ x. x ≡ n) (names_in us) → SomeOf (λ x. x ≡ n) roll
  unfolding roll_of
  second-there n h = inr (some-behind (λ x. x ≡ n) (names_in ts) (names_in us) h)

  some-parts : (P : List ℕ → Type 0) (k l : List (List ℕ)) → SomeOf P (k ++ l) → SomeOf P k ⊎ SomeOf P l
  some-parts P [] l h = inr h
  some-parts P (a ∷ k) l (inl h) = inl (inl h)
  some-parts P (a ∷ k) l (inr h) = by (some-parts P k l h)
    where
      by : SomeOf P k ⊎ SomeOf P l → SomeOf P (a ∷ k) ⊎ SomeOf P l
      by (inl g) = inl (inr g)
      by (inr g) = inr g

  roll-parts : (n : List ℕ) → SomeOf (λ x. x ≡ n) roll → ([] ≡ n) ⊎ (SomeOf (λ x. x ≡ n) (names_in ts) ⊎ SomeOf (λ x. x ≡ n) (names_in us))
  unfolding roll_of
  roll-parts n (inl e) = inl e
  roll-parts n (inr h) = inr (some-parts (λ x. x ≡ n) (names_in ts) (names_in us) h)

name-at : (vs : List Task) (k : ℕ) → k < length vs → SomeOf (λ x. x ≡ spelling (task_at vs k).name) (names_in vs)
name-at [] k low = absurd (omega arith)
name-at (v ∷ vs) zero low = inl refl
name-at (v ∷ vs) (suc k) low = inr (name-at vs k (omega arith))

at_name : (vs : List Task) (n : List ℕ) → SomeOf (λ x. x ≡ n) (names_in vs) → (k : ℕ) × ((k < length vs) × (spelling (task_at vs k).name ≡ n))
at_name (v ∷ vs) n (inl e) = (0, (omega arith, e))
at_name (v ∷ vs) n (inr h) = let more = at_name vs n h in (suc more.0, (omega (arith, more.1.0), more.1.1))
at_name [] n x' = elim x' [ ]

past-name : (vs : List Task) (k : ℕ) → length vs ≤ k → spelling (task_at vs k).name ≡ []
past-name vs k high = ap (λ (t : Task). spelling t.name) (get_or-eq_default vs past {n = k} high)

-- what a piece of either plan is called by
called-first : (ts us : List Task) (k : ℕ) → SomeOf (λ x. x ≡ spelling (task_at ts k).name) (roll_of ts us)
called-first ts us k = elim (dec_lt k (length ts)) [
  | yes low ↦ first-there ts us (spelling (task_at ts k).name) (name-at ts k low)
  | no high ↦ rw (past-name ts k (omega arith)) (none-there ts us)
]

called-second : (ts us : List Task) (k : ℕ) → SomeOf (λ x. x ≡ spelling (task_at us k).name) (roll_of ts us)
called-second ts us k = elim (dec_lt k (length us)) [
  | yes low ↦ second-there ts us (spelling (task_at us k).name) (name-at us k low)
  | no high ↦ rw (past-name us k (omega arith)) (none-there ts us)
]

covers : (ns : List (List ℕ)) (vs : List Task) → ((k : ℕ) → SomeOf (λ x. x ≡ spelling (task_at vs k).name) ns) → (l : List (Placed ℕ)) → Covered ns (map (called_by vs) l)
covers ns vs each [] = tt
covers ns vs each (e ∷ l) = (each e.item, covers ns vs each l)

-- ---- the name with a rank

pub place_is : (k r : ℕ) (a : List ℕ) → (place_with k r a ≡ k + length a) ⊎ ((i : ℕ) × ((i < length a) × ((place_with k r a ≡ k + i) × (get_or a i 0 ≡ r))))
place_is k r [] = inl (omega arith)
place_is k r (x ∷ a) = by (eqb x r) refl (place_is (k + 1) r a)
  where
    by : (b : Bool) → eqb x r ≡ b → (place_with (k + 1) r a ≡ k + 1 + length a) ⊎ ((i : ℕ) × ((i < length a) × ((place_with (k + 1) r a ≡ k + 1 + i) × (get_or a i 0 ≡ r))))
        → (cond b k (place_with (k + 1) r a) ≡ k + suc (length a))
        ⊎ ((i : ℕ) × ((i < suc (length a)) × ((cond b k (place_with (k + 1) r a) ≡ k + i) × (get_or (x ∷ a) i 0 ≡ r))))
    by true e more = inr (0, (omega arith, (omega arith, eqb-true x r e)))
    by false e (inl none) = inl (omega arith)
    by false e (inr more) = inr (suc more.0, (omega (arith, more.1.0), (omega (arith, more.1.1.0), more.1.1.1)))

pub place-low : (k r : ℕ) (a : List ℕ) (i : ℕ) → i < length a → get_or a i 0 ≡ r → place_with k r a ≤ k + i
place-low k r [] i low is = absurd (omega arith)
place-low k r (x ∷ a) zero low is = rw (eq-eqb x r is) (omega arith)
place-low k r (x ∷ a) (suc i) low is = by (eqb x r) (place-low (k + 1) r a i (omega arith) is)
  where
    by : (b : Bool) → place_with (k + 1) r a ≤ k + 1 + i → cond b k (place_with (k + 1) r a) ≤ k + suc i
    by true h = omega arith
    by false h = omega arith

module _ (ts us : List Task) (a b : List ℕ) (first : Ranks ts (roll_of ts us) a) (second : Ranks us (roll_of ts us) b) where
  -- a name of a list stands at a place that has its rank
  rank-there : (vs : List Task) (c : List ℕ) → Ranks vs (roll_of ts us) c → (n : List ℕ) → SomeOf (λ x. x ≡ n) (names_in vs)
      → place_with 0 (rank_in (roll_of ts us) n) c < 64
  rank-there vs c ranks n there =
      let at = at_name vs n there in
      let is : get_or c at.0 0 ≡ rank_in (roll_of ts us) n = ranks.ranks at.0 ∙ ap (rank_in (roll_of ts us)) at.1.1 in
      omega (arith, place-low 0 (rank_in (roll_of ts us) n) c at.0 (omega (arith, ranks.size, ranks.all, at.1.0)) is, at.1.0, ranks.all)

  -- and what stands there is that name
  there-is : (vs : List Task) (c : List ℕ) → Ranks vs (roll_of ts us) c → ((k : ℕ) → SomeOf (λ x. x ≡ spelling (task_at vs k).name) (roll_of ts us))
      → (n : List ℕ) → SomeOf (λ x. x ≡ n) (roll_of ts us) → place_with 0 (rank_in (roll_of ts us) n) c < 64
      → spelling (task_at vs (place_with 0 (rank_in (roll_of ts us) n) c)).name ≡ n
  there-is vs c ranks called n there low = by (place_is 0 (rank_in (roll_of ts us) n) c)
    where
      by : (place_with 0 (rank_in (roll_of ts us) n) c ≡ 0 + length c)
          ⊎ ((i : ℕ) × ((i < length c) × ((place_with 0 (rank_in (roll_of ts us) n) c ≡ 0 + i) × (get_or c i 0 ≡ rank_in (roll_of ts us) n))))
          → spelling (task_at vs (place_with 0 (rank_in (roll_of ts us) n) c)).name ≡ n
      by (inl none) = absurd (omega (arith, ranks.size))
      by (inr (i, (inside, (at, is)))) =
          let place : place_with 0 (rank_in (roll_of ts us) n) c ≡ i = omega arith in
          ap (λ (k : ℕ). spelling (task_at vs k).name) place
          ∙ rank-one (roll_of ts us) (spelling (task_at vs i).name) n (called i) there (sym (ranks.ranks i) ∙ is)

  pub name-ranked : (n : List ℕ) → SomeOf (λ x. x ≡ n) (roll_of ts us) → ranked_name (rank_in (roll_of ts us) n) a ts b us ≡ n
  unfolding ranked_name
  name-ranked n there = elim (dec_lt (place_with 0 (rank_in (roll_of ts us) n) a) 64) [
    | yes low ↦ rw (lt-ltb (place_with 0 (rank_in (roll_of ts us) n) a) 64 low) (there-is ts a first (called-first ts us) n there low)
    | no high ↦ (let past_all : 64 ≤ place_with 0 (rank_in (roll_of ts us) n) a = omega arith in
        rw (le-ltb (place_with 0 (rank_in (roll_of ts us) n) a) 64 past_all) (other past_all))
  ]
    where
      other : 64 ≤ place_with 0 (rank_in (roll_of ts us) n) a → spelling (task_at us (place_with 0 (rank_in (roll_of ts us) n) b)).name ≡ n
      other past_all = elim (dec_lt (place_with 0 (rank_in (roll_of ts us) n) b) 64) [
        | yes low ↦ there-is us b second (called-second ts us) n there low
        | no high ↦ by (roll-parts ts us n there) (omega arith)
      ]
        where
          by : ([] ≡ n) ⊎ (SomeOf (λ x. x ≡ n) (names_in ts) ⊎ SomeOf (λ x. x ≡ n) (names_in us)) → 64 ≤ place_with 0 (rank_in (roll_of ts us) n) b
              → spelling (task_at us (place_with 0 (rank_in (roll_of ts us) n) b)).name ≡ n
          by (inl e) beyond = past-name us (place_with 0 (rank_in (roll_of ts us) n) b) (omega (arith, second.all)) ∙ e
          by (inr (inl h)) beyond = absurd (omega (arith, rank-there ts a first n h))
          by (inr (inr h)) beyond = absurd (omega (arith, rank-there us b second n h))

ranked-called : (vs : List Task) (ns : List (List ℕ)) (c : List ℕ) → Ranks vs ns c → (l : List (Placed ℕ))
    → map (ranked_by c) l ≡ map (relabel (rank_in ns)) (map (called_by vs) l)
ranked-called vs ns c ranks [] = refl
ranked-called vs ns c ranks (e ∷ l) =
    let one : ranked_by c e ≡ relabel (rank_in ns) (called_by vs e) = ap (λ (r : ℕ). record { on = e.on; item = r; piece = e.piece }) (ranks.ranks e.item) in
    cc (one, ranked-called vs ns c ranks l)

pub diff-lines : (p q : Plan) (a b : List ℕ)
    → Ranks p.tasks.list (roll_of p.tasks.list q.tasks.list) a → Ranks q.tasks.list (roll_of p.tasks.list q.tasks.list) b
    → diff_head p.tasks.count q.tasks.count
    ++ rank_blocks (λ r. ranked_name r a p.tasks.list b q.tasks.list) (map (ranked_by a) (seats_on p.layout 16)) (map (ranked_by b) (seats_on q.layout 16)) 129
    ≡ diff_of p q
unfolding diff_of diff_text standing
diff-lines p q a b first second =
    let ts = p.tasks.list in
    let us = q.tasks.list in
    let ns = roll_of ts us in
    let l = map (called_by ts) (seats_on p.layout 16) in
    let k = map (called_by us) (seats_on q.layout 16) in
    let name : ℕ → List ℕ = (λ r. ranked_name r a ts b us) in
    let all : rank_blocks name (map (relabel (rank_in ns)) l) (map (relabel (rank_in ns)) k) (length ns) ≡ diff_blocks l k (moved_names l k) =
    blocks-by-rank ns l k (covers ns ts (called-first ts us) (seats_on p.layout 16)) (covers ns us (called-second ts us) (seats_on q.layout 16)) name
    (λ n there. name-ranked ts us a b first second n there) in
    ap (λ (t : List ℕ). diff_head p.tasks.count q.tasks.count ++ t)
    ((λ i. rank_blocks name (ranked-called ts ns a first (seats_on p.layout 16) i) (ranked-called us ns b second (seats_on q.layout 16) i)
    (sym (roll-long ts us first.all second.all) i)) ∙ all)

-- what lies in an array, and what is written of two
ranked-low : (c : List ℕ) (l : List (Placed ℕ)) → Each (λ e. e.on < cores_most) l → Each (λ e. e.on < cores_most) (map (ranked_by c) l)
ranked-low c [] low = tt
ranked-low c (e ∷ l) low = (low.0, ranked-low c l low.1)

pub stands-low : (s : Layout) (c : List ℕ) (es : List Ranked) → placed es ≡ map (ranked_by c) (seats_on s 16) → Each (λ e. e.on < cores_most) (placed es)
stands-low s c es lies =
    subst (Each (λ e. e.on < cores_most)) (sym lies) (ranked-low c (seats_on s 16) (seats-low s 16 (omega arith)))

pub diff-wrote : (p q : Plan) (a b : List ℕ) (l k : List (Placed ℕ)) (r : ℕ) (old new : List ℕ)
    → Ranks p.tasks.list (roll_of p.tasks.list q.tasks.list) a → Ranks q.tasks.list (roll_of p.tasks.list q.tasks.list) b
    → l ≡ map (ranked_by a) (seats_on p.layout 16) → k ≡ map (ranked_by b) (seats_on q.layout 16)
    → Wrote old 0 (diff_head p.tasks.count q.tasks.count ++ rank_blocks (λ k. ranked_name k a p.tasks.list b q.tasks.list) l k 129) r new
    → Wrote old 0 (diff_of p q) r new
diff-wrote p q a b l k r old new first second lies rests wrote =
    subst (λ (t : List ℕ). Wrote old 0 t r new)
    ((λ i. diff_head p.tasks.count q.tasks.count ++ rank_blocks (λ k. ranked_name k a p.tasks.list b q.tasks.list) (lies i) (rests i) 129)
    ∙ diff-lines p q a b first second) wrote

-- ---- a plan that keeps what was placed

seats-kept : (y : Layout) (l : List (Placed ℕ)) → ((q : ℕ) → q < 16 → row_seats y q ≡ on_core q l) → (n : ℕ) → n ≤ 16 → seats_on y n ≡ by_core n l
seats-kept y l rows zero few = refl
seats-kept y l rows (suc q) few = cc (seats-kept y l rows q (omega arith), rows q (omega arith))

-- its names are those of the tasks ts
pub standing-kept : (p : Plan) (ts : List Task) (l : List (Placed ℕ)) → ((q : ℕ) → q < 16 → row_seats p.layout q ≡ on_core q l)
    → ((k : ℕ) → k < length ts → task_at p.tasks.list k ≡ task_at ts k) → Each (λ e. e.item < length ts) l
    → standing p ≡ map (called_by ts) (by_core cores_most l)
unfolding standing
standing-kept p ts l rows tasks low =
    ap (map (called_by p.tasks.list)) (seats-kept p.layout l rows 16 (omega arith))
    ∙ map_same (λ (e : Placed ℕ). e.item < length ts) (called_by p.tasks.list) (called_by ts)
    (λ e here. ap (λ (t : Task). record { on = e.on; item = spelling t.name; piece = e.piece }) (tasks e.item here))
    (by_core 16 l) (by-core-each (λ e. e.item < length ts) 16 l low)

module _ (m : Machine) (c : Costs) (n : ℕ) (ts : List Task) (faultless : state_fault m c n ts ≡ 0) (s : Stand) (l : List (Placed ℕ))
    (planned : walked m c (take n ts) ≡ fine s l) where
  pub standing-placed : standing (plan_of m c n ts).plan ≡ map (called_by (take n ts)) (by_core cores_most l)
  standing-placed =
      let p : Plan = (plan_of m c n ts).plan in
      let list : p.tasks ≡ tasks_of (take n ts) = ap (λ (r : Reply). r.plan.tasks) (plan-is m c n ts faultless s l planned) in
      let few : length (take n ts) ≤ tasks_most = omega (arith, length-take n ts, (state-sane m c n ts faultless).few) in
      standing-kept p (take n ts) l
      (λ q low. row-seats p.layout l q (plan-shows m c n ts faultless s l planned) low ((plan-counts m c n ts faultless s l planned).row_fits q))
      (λ k low. ap (λ (x : Tasks). task_at x.list k) list ∙ tasks-at (take n ts) k few low)
      (each-imp (Seated (length (take n ts))) (λ e. e.item < length (take n ts)) (λ e seat. seat.low) l (all-seated m c n ts faultless s l planned))
