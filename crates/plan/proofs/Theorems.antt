-- The theorems about a plan, for any machine, costs, count and list of tasks that break no rule: document 01, "The C=D walk". The first n of the
-- list count; where they are spoken of as planned, the walk over them is fine, and l is what it placed.
-- Assumes nothing.
--
--   plan-or-stuck         the reply is a plan, with 0, where the walk is fine, and 7 with the task's place, from 1, where it sticks
--   plan-comes            0 comes exactly when the walk is fine
--   no_room               7 comes exactly when the walk sticks, and carries the place of the task that it sticks at
--   plan-faultless, no-room-faultless      and neither comes for a state that breaks a rule
--   no-room-at            those before that task in packing order are placed, and where they end it has no place
--   no-room-place         and it is one of the first n
--   reached-number        the answer that keeps what was placed before the walk stuck has the same number, and carries the same
--   reached-ended         it is the walk's, with what was placed until then
--   reached-fine          with 0 it is the same answer
--   reached-stuck         with 7 its plan has what was placed before the walk stuck
--   reached-sized, reached-places, reached-counts      what was placed then is within the sizes, of the first n, and has room
--   reached-shows         the rows of that plan show it
--   reached-words         and so do its words
--   reached-alike         with any other number than 7 it is the same answer
--   no-room-last          and its last core does not pass with the whole of the task that the walk sticks at
--   packing-order         the packing order has the place of each task, once
--   packing-ranked        greater C/D first: none stands behind one that it beats, and ties stand by earlier task
--   packing-one           and a list of which both are so is the packing order
--   all_placed            every task is placed: whole on a core, or by its greatest split on a core and the next; nothing else is placed of it
--   budgets-add           the budgets of a task's pieces add to C
--   windows-add           their windows add to D
--   jitters-told          a piece that came from elsewhere has the jitter π + IpB + RelO + TsetO, and every other its task's
--   free-is-budget        with all costs, J and P zero the window of a first piece is its budget, which is C=D
--   placed-places, placed-sized      what is placed is of the tasks, and its pieces are within the sizes
--   cores-pass            every core passes
--   cores-keep-up         so no live length, however long, asks more of a core than itself
--   task-pieces           a task has one piece, and a second exactly where it has a first piece: so first pieces count the tasks that are split
--   plan-counts           at most 79 pieces, at most 64 on a core, at most m - 1 splits, all on the machine's cores
--   plan-shows            the plan's rows show what was placed: each piece by its number, each core's row by the numbers of its pieces
--   words-show            a core's word has bit k set exactly when the task at place k has a piece there, and its ones are its pieces
use mathlib.Core.Path.{◌≡◌, refl, sym, ap, ◌∙◌, subst}
use mathlib.Core.Bool.{cond}
use mathlib.Core.Logic.{◌⊎◌, inl, inr, ◌↔◌}
use mathlib.Core.List.{List, [], ◌∷◌, ◌++◌, append-nil, map}
use Prim.Native.Nat.{ℕ, zero, suc, ◌+◌, ◌-◌, ◌≤◌, ◌<◌}
use native.Mathlib.Omega.{arith}
use lib.ListN.{length, take, get_or, length-take, length-map, length-append}
use Rattle.demand.specs.declared.Kind.TheVariants.{First}
use Rattle.demand.specs.declared.Piece.{Piece}
use Rattle.demand.specs.declared.Costs.{Costs}
use Rattle.demand.specs.declared.Verdict.TheVariants.{Passes}
use Rattle.demand.specs.Sizes.{Sized, Each}
use Rattle.demand.specs.Kinds.{arrives}
use Rattle.demand.specs.Charge.{core_of, stall}
use Rattle.demand.specs.Demand.{demand, Live}
use Rattle.demand.specs.Verdict.{verdict_of}
use Rattle.demand.proofs.Sums.{each-imp}
use Rattle.demand.proofs.ChargeLaws.{late-jitter-is}
use Rattle.demand.proofs.Judgement.{passes-all}
use Rattle.demand.proofs.SplitLaws.{Free}
use Rattle.task.specs.declared.Times.{Times}
use Rattle.task.specs.declared.Task.{Task}
use Rattle.task.specs.declared.Machine.{Machine}
use Rattle.task.specs.Tasks.{whole_piece, task_at, state_fault}
use Rattle.task.proofs.TaskLaws.{Sane, state-sane}
use Rattle.walks.specs.Lists.{Apart, Chain, sum_by}
use Rattle.walks.specs.Order.{Precedes}
use Rattle.walks.specs.Way.{Placed, placed_as, Ending, fine, stuck, walk_over, SticksAt, on_core, row_of}
use Rattle.walks.specs.Halves.{Stand, Shared, split_count}
use Rattle.walks.proofs.ListLaws.{each-parts, each-middle, sum-map}
use Rattle.walks.proofs.OrderLaws.{pack-every, pack-ranked}
use Rattle.walks.proofs.DenserLaws.{denser-lawful}
use Rattle.walks.proofs.WayLaws.{until-fine, stuck-where, Reaches, until-reaches, walk-items}
use Rattle.walks.proofs.SoundLaws.{Planned, Has, Divided, share-of, spots-within, few-on-core, apart-on, pieces-each}
use Rattle.walks.proofs.HalvesLaws.{refused-last, shared-firsts, shares-firsts, shared-jitters, shared-free}
use Rattle.plan.specs.declared.Plan.{Plan}
use Rattle.plan.specs.Reply.{Reply}
use Rattle.plan.specs.Walk.{whole_at, place_way, upto, denser_at, packed, walked, walked_until}
use Rattle.plan.specs.Layout.{layout_on, none, blank}
use Rattle.plan.specs.Plan.{refused, plan_placed, finished, unless_fault, plan_of, reaching, reached_of}
use Rattle.plan.specs.Places.{Rearranged, of_task, TaskPlaced}
use Rattle.plan.specs.Shows.{LayoutShows, WordShows}
use Rattle.plan.proofs.WalkLaws.{whole-kind, claims, walk-planned, only-seven}
use Rattle.plan.proofs.PlanLaws.{sized-at, upto-each, fault-seven}
use Rattle.plan.proofs.PlaceLaws.{by_place, place-exact, upto-chain, Arranged, arranged, rearranged}
use Rattle.plan.proofs.RankLaws.{rearranged-one}
use Rattle.plan.proofs.ShowLaws.{Room, Kept, kept, kept-shows}
use Rattle.plan.proofs.WordLaws.{word-shows}

-- ---- the packing order

pub packing-order : (ts : List Task) → Rearranged (length ts) (packed ts)
packing-order ts = rearranged (denser_at ts) (length ts)

in-order : (ts : List Task) → Arranged (length ts) (packed ts)
in-order ts = arranged (denser_at ts) (length ts)

-- the numbers of a plan on m cores with n tasks
pub record Counted (m n : ℕ) (l : List (Placed ℕ)) : Type 0 where
  pub pieces : length l ≤ n + (m - 1)
  pub pieces-fit : length l ≤ 79
  pub row : (q : ℕ) → length (row_of q l) ≤ n
  pub row_fits : (q : ℕ) → length (row_of q l) ≤ 64
  pub splits : split_count l ≤ m - 1
  pub cores : Each (λ e. e.on < m) l

-- ---- a state that breaks a rule has its own number

module _ (m : Machine) (c : Costs) (n : ℕ) (ts : List Task) where
  own-number : (o : Reply) (k : ℕ) → ((unless_fault k o).number ≡ k) ⊎ (k ≡ 0)
  own-number o zero = inr refl
  own-number o (suc k) = inl refl

  faultless-but : (k : ℕ) → (state_fault m c n ts ≡ k → state_fault m c n ts ≡ 0) → (plan_of m c n ts).number ≡ k → state_fault m c n ts ≡ 0
  unfolding plan_of
  faultless-but k else e = by (own-number (finished m c (take n ts) (walked m c (take n ts))) (state_fault m c n ts))
    where
      by : ((unless_fault (state_fault m c n ts) (finished m c (take n ts) (walked m c (take n ts)))).number ≡ state_fault m c n ts)
          ⊎ (state_fault m c n ts ≡ 0) → state_fault m c n ts ≡ 0
      by (inl own) = else (sym own ∙ e)
      by (inr none) = none

  pub plan-faultless : (plan_of m c n ts).number ≡ 0 → state_fault m c n ts ≡ 0
  plan-faultless e = faultless-but 0 (λ same. same) e

  pub no-room-faultless : (plan_of m c n ts).number ≡ 7 → state_fault m c n ts ≡ 0
  no-room-faultless e = faultless-but 7 (λ same. absurd (fault-seven m c n ts same)) e

  -- ---- what the walk reached

  pub reached-number : ((reached_of m c n ts).number ≡ (plan_of m c n ts).number) × ((reached_of m c n ts).carries ≡ (plan_of m c n ts).carries)
  unfolding plan_of reached_of
  reached-number = by (state_fault m c n ts) (plan_placed m c (take n ts) (walked_until m c (take n ts))) (finished m c (take n ts) (walked m c (take n ts)))
    where
      by : (k : ℕ) (p : Plan) (r : Reply)
          → ((unless_fault k (reaching p r)).number ≡ (unless_fault k r).number) × ((unless_fault k (reaching p r)).carries ≡ (unless_fault k r).carries)
      by zero p r = (refl, refl)
      by (suc k) p r = (refl, refl)

-- ---- a state that breaks no rule

module _ (m : Machine) (c : Costs) (n : ℕ) (ts : List Task) (faultless : state_fault m c n ts ≡ 0) where
  sane : Sane m c n ts
  sane = state-sane m c n ts faultless

  ended : plan_of m c n ts ≡ finished m c (take n ts) (walked m c (take n ts))
  unfolding plan_of
  ended = rw faultless

  -- ---- the reply

  -- no other number than 7 comes of the walk
  sticks-with : (k j : ℕ) → walked m c (take n ts) ≡ stuck k j → j ≡ 7
  unfolding walked
  sticks-with k j e = only-seven m c (λ i. (task_at (take n ts) i).times) (packed (take n ts)) k j e

  pub plan-or-stuck : ((s : Stand) × (l : List (Placed ℕ)) × (walked m c (take n ts) ≡ fine s l)
      × (plan_of m c n ts ≡ finished m c (take n ts) (fine s l)))
      ⊎ ((k : ℕ) × (walked m c (take n ts) ≡ stuck k 7) × (plan_of m c n ts ≡ refused 7 (suc k)))
  plan-or-stuck = by (walked m c (take n ts)) refl
    where
      by : (o : Ending Stand ℕ) → walked m c (take n ts) ≡ o
          → ((s : Stand) × (l : List (Placed ℕ)) × (walked m c (take n ts) ≡ fine s l) × (plan_of m c n ts ≡ finished m c (take n ts) (fine s l)))
          ⊎ ((k : ℕ) × (walked m c (take n ts) ≡ stuck k 7) × (plan_of m c n ts ≡ refused 7 (suc k)))
      by (fine s l) e = inl (s, l, e, ended ∙ ap (finished m c (take n ts)) e)
      by (stuck k j) e =
          (let so : walked m c (take n ts) ≡ stuck k 7 = e ∙ ap (stuck k) (sticks-with k j e) in
          inr (k, so, ended ∙ ap (finished m c (take n ts)) so))

  pub plan-comes : ((plan_of m c n ts).number ≡ 0) ↔ ((s : Stand) × (l : List (Placed ℕ)) × (walked m c (take n ts) ≡ fine s l))
  plan-comes = (
    (λ e. by (walked m c (take n ts)) refl (sym (ap (λ (r : Reply). r.number) ended) ∙ e)),
    (λ w. ap (λ (r : Reply). r.number) (ended ∙ ap (finished m c (take n ts)) w.2)),
  )
    where
      by : (o : Ending Stand ℕ) → walked m c (take n ts) ≡ o → (finished m c (take n ts) o).number ≡ 0
          → (s : Stand) × (l : List (Placed ℕ)) × (walked m c (take n ts) ≡ fine s l)
      by (fine s l) e z = (s, l, e)
      by (stuck k j) e z = absurd (omega (arith, sticks-with k j e))

  pub no_room : (k : ℕ) → (((plan_of m c n ts).number ≡ 7) × ((plan_of m c n ts).carries ≡ suc k)) ↔ (walked m c (take n ts) ≡ stuck k 7)
  no_room k = (
    (λ e. by (walked m c (take n ts)) refl (sym (ap (λ (r : Reply). r.number) ended) ∙ e.0)
        (sym (ap (λ (r : Reply). r.carries) ended) ∙ e.1)),
    (λ w. (
      ap (λ (r : Reply). r.number) (ended ∙ ap (finished m c (take n ts)) w),
      ap (λ (r : Reply). r.carries) (ended ∙ ap (finished m c (take n ts)) w),
    )),
  )
    where
      by : (o : Ending Stand ℕ) → walked m c (take n ts) ≡ o → (finished m c (take n ts) o).number ≡ 7
          → (finished m c (take n ts) o).carries ≡ suc k → walked m c (take n ts) ≡ stuck k 7
      by (fine s l) e z y = absurd (omega arith)
      by (stuck j i) e z y = (let same : j ≡ k = omega arith in e ∙ (ap (λ (x : ℕ). stuck x i) same ∙ ap (stuck k) (sticks-with j i e)))

  pub no-room-at : (k : ℕ) → walked m c (take n ts) ≡ stuck k 7 → SticksAt (place_way m c (take n ts)) (place_way m c (take n ts)).begin (packed (take n ts)) k 7
  unfolding walked
  no-room-at k e = stuck-where (place_way m c (take n ts)) (place_way m c (take n ts)).begin (packed (take n ts)) k 7 e

  pub no-room-place : (k : ℕ) → walked m c (take n ts) ≡ stuck k 7 → k < length (take n ts)
  no-room-place k e =
      let at = no-room-at k e in
      each-middle (λ (j : ℕ). j < length (take n ts)) at.ahead k at.later
      (subst (Each (λ j. j < length (take n ts))) at.order (in-order (take n ts)).below)

  -- ---- every task is placed

  sized-place : (k : ℕ) → k < length (take n ts) → Sized (whole_at (take n ts) k)
  sized-place k low = sized-at (take n ts) sane.timed k low

  sized-order : Each (λ k. Sized (whole_at (take n ts) k)) (packed (take n ts))
  sized-order =
      pack-every (denser_at (take n ts)) (λ k. Sized (whole_at (take n ts) k)) (upto (length (take n ts)))
      (upto-each (λ k. Sized (whole_at (take n ts) k)) (length (take n ts)) sized-place)

  pub packing-ranked : Chain (Precedes (denser_at (take n ts)) (λ i j. i < j)) (packed (take n ts))
  packing-ranked =
      let places = upto (length (take n ts)) in
      pack-ranked (λ k. 1 ≤ (whole_at (take n ts) k).window) (denser_at (take n ts)) (denser-lawful (whole_at (take n ts))) (λ i j. i < j) places
      (upto-each (λ k. 1 ≤ (whole_at (take n ts) k).window) (length (take n ts))
      (λ k low. (let size = sized-place k low in omega (arith, size.budget-some, size.budget-fits)))) (upto-chain (length (take n ts)))

  pub packing-one : (ks : List ℕ) → Rearranged (length (take n ts)) ks → Chain (Precedes (denser_at (take n ts)) (λ i j. i < j)) ks → ks ≡ packed (take n ts)
  packing-one ks all ranked =
      rearranged-one (denser_at (take n ts)) (length (take n ts)) ks (packed (take n ts)) all (packing-order (take n ts)) ranked packing-ranked

  abbrev times_of : ℕ → Times
  times_of k = (task_at (take n ts) k).times

  -- ---- some tasks at the front of the packing order, over which the walk does not stick

  module _ (ks rest : List ℕ) (front : packed (take n ts) ≡ ks ++ rest) (s : Stand) (l : List (Placed ℕ))
      (planned : walk_over (place_way m c (take n ts)) ks ≡ fine s l) where
    front-each : (P : ℕ → Type 0) → Each P (packed (take n ts)) → Each P ks
    front-each P all = (each-parts P ks rest (subst (Each P) front all)).0

    front_long : length ks ≤ length (take n ts)
    front_long = omega (arith, (in-order (take n ts)).long, ap length front, length-append ks rest)

    front-facts : Planned (claims m c times_of) ks s l
    front-facts =
        walk-planned m c times_of sane.costs sane.cores-some ks (front-each (λ k. Sized (whole_at (take n ts) k)) sized-order) s l planned

    front-places : Each (λ e. e.item < length (take n ts)) l
    front-places =
        walk-items (place_way m c (take n ts)) (λ k. k < length (take n ts)) (place_way m c (take n ts)).begin s ks l
        (front-each (λ k. k < length (take n ts)) (in-order (take n ts)).below) planned

    front-sized : Each (λ e. Sized e.piece) l
    front-sized = pieces-each Sized l (λ q. (front-facts.rows q).sizes)

    front-counts : Counted m.cores (length (take n ts)) l
    front-counts =
        let facts = front-facts in
        let few : length (take n ts) ≤ 64 = omega (arith, length-take n ts, sane.few) in
        let pieces : length l ≤ length (take n ts) + (m.cores - 1) = omega (arith, facts.faithful.count, facts.faithful.below, front_long) in
        let row : (q : ℕ) → length (row_of q l) ≤ length (take n ts) =
        (λ q. omega (
          arith,
          length-map (on_core q l) (λ (e : Placed ℕ). e.piece),
          few-on-core m.cores (whole_at (take n ts)) (claims m c times_of).Share q facts.shares,
          front_long,
        )) in
        record {
          pieces = pieces;
          pieces-fit = omega (arith, sane.cores-fit);
          row = row;
          row_fits = λ q. omega (arith, row q);
          splits =
              omega (
                arith,
                shares-firsts c m.grain m.cores (whole_at (take n ts)) (λ k. whole-kind (times_of k)) facts.shares,
                facts.faithful.count,
                facts.faithful.below,
              );
          cores = spots-within m.cores (whole_at (take n ts)) (claims m c times_of).Share facts.shares;
        }

    front-room : Room l
    front-room = record {
      pieces = front-counts.pieces-fit;
      seats = λ q. omega (arith, front-counts.row_fits q, length-map (on_core q l) (λ (e : Placed ℕ). e.piece));
      cores = each-imp (λ (e : Placed ℕ). e.on < m.cores) (λ (e : Placed ℕ). e.on < 16) (λ e h. omega (arith, sane.cores-fit)) l front-counts.cores;
    }

    front_kept : Kept (layout_on none l) l
    front_kept = kept l front-room

    front-shows : LayoutShows (layout_on none l) l
    front-shows = kept-shows (layout_on none l) l front-room front_kept

    front-words : (q : ℕ) → q < 16 → WordShows (get_or (layout_on none l).words q 0) (on_core q l)
    front-words q low =
        word-shows (get_or (layout_on none l).words q 0) (on_core q l) (front_kept.core q low blank).word
        (apart-on m.cores (whole_at (take n ts)) (claims m c times_of).Share q (λ k. k) front-facts.shares
        (apart-front ks (subst (Apart (λ k. k)) front (in-order (take n ts)).apart)))
      where
        apart-front : (ks : List ℕ) → Apart (λ k. k) (ks ++ rest) → Apart (λ k. k) ks
        apart-front [] apart = tt
        apart-front (k ∷ ks) apart = ((each-parts (λ j. j ≡ k → ⊥) ks rest apart.0).0, apart-front ks apart.1)

  module _ (s : Stand) (l : List (Placed ℕ)) (planned : walked m c (take n ts) ≡ fine s l) where
    -- all of them are such
    all : packed (take n ts) ≡ packed (take n ts) ++ []
    all = sym (append-nil (packed (take n ts)))

    over : walk_over (place_way m c (take n ts)) (packed (take n ts)) ≡ fine s l
    unfolding walked
    over = planned

    -- what every walk's plan is
    facts : Planned (claims m c times_of) (packed (take n ts)) s l
    facts = front-facts (packed (take n ts)) [] all s l over

    -- a task's share
    share : (k : ℕ) → k < length (take n ts)
        → Has by_place place-exact (Divided m.cores (whole_at (take n ts)) (claims m c times_of).Share) [] k l
    share k low =
        let order = in-order (take n ts) in
        share-of by_place place-exact (Divided m.cores (whole_at (take n ts)) (claims m c times_of).Share) k facts.shares order.apart (order.every k low)

    pub all_placed : (k : ℕ) → k < length (take n ts) → TaskPlaced m c (take n ts) k l
    all_placed k low =
        let h = share k low in
        record {
          past = h.past;
          later = h.later;
          order = h.order ∙ ap (λ (z : List (Placed ℕ)). h.past ++ (z ++ h.later)) (sym h.is);
          shared =
              rw h.is
              (subst (λ (j : ℕ). Shared c m.grain (whole_at (take n ts) j) h.past j (map (placed_as h.item) h.spots)) h.own h.has.1);
        }

    -- what is summed over a task's pieces
    sum_of : (f : Piece → ℕ) (k : ℕ) (low : k < length (take n ts)) → sum_by (λ e. f e.piece) (of_task k l) ≡ sum_by (λ e. f e.piece) (share k low).spots
    sum_of f k low =
        (let h = share k low in ap (sum_by (λ (e : Placed ℕ). f e.piece)) h.is
        ∙ sum-map (λ (e : Placed ℕ). f e.piece) (placed_as h.item) h.spots)

    pub budgets-add : (k : ℕ) → k < length (take n ts) → sum_by (λ e. e.piece.budget) (of_task k l) ≡ (task_at (take n ts) k).times.worst
    unfolding whole_piece
    budgets-add k low =
        (let h = share k low in sum_of (λ q. q.budget) k low ∙ (h.has.0.budgets ∙ ap (λ (j : ℕ). (task_at (take n ts) j).times.worst) h.own))

    pub windows-add : (k : ℕ) → k < length (take n ts) → sum_by (λ e. e.piece.window) (of_task k l) ≡ (task_at (take n ts) k).times.deadline
    unfolding whole_piece
    windows-add k low =
        (let h = share k low in sum_of (λ q. q.window) k low
        ∙ (h.has.0.windows ∙ ap (λ (j : ℕ). (task_at (take n ts) j).times.deadline) h.own))

    pub jitters-told : (k : ℕ) → k < length (take n ts)
        → Each (λ e. e.piece.jitter
        ≡ cond (arrives e.piece.kind) (c.precision + c.ipb + c.relo + c.tseto) (task_at (take n ts) k).times.jitter) (of_task k l)
    unfolding whole_piece
    jitters-told k low =
        let h = all_placed k low in
        subst (λ (j : ℕ). Each (λ e. e.piece.jitter ≡ cond (arrives e.piece.kind) j (task_at (take n ts) k).times.jitter) (of_task k l))
        (late-jitter-is c sane.costs) (shared-jitters c m.grain (whole_at (take n ts) k) h.past k (whole-kind (times_of k)) h.shared)

    pub free-is-budget : (k : ℕ) → k < length (take n ts) → Free c (whole_at (take n ts) k)
        → Each (λ e. e.piece.kind ≡ First → e.piece.window ≡ e.piece.budget) (of_task k l)
    free-is-budget k low free =
        let h = all_placed k low in
        shared-free c m.grain (whole_at (take n ts) k) h.past k (sized-place k low) free (whole-kind (times_of k)) h.shared

    pub placed-places : Each (λ e. e.item < length (take n ts)) l
    placed-places = front-places (packed (take n ts)) [] all s l over

    pub placed-sized : Each (λ e. Sized e.piece) l
    placed-sized = front-sized (packed (take n ts)) [] all s l over

    -- ---- every core passes

    pub cores-pass : (q : ℕ) → verdict_of c (row_of q l) ≡ Passes
    cores-pass q = (facts.rows q).passing

    pub cores-keep-up : (q t : ℕ) → Live (core_of c (row_of q l)) t → demand (stall c) (core_of c (row_of q l)) t ≤ t
    cores-keep-up q t live = passes-all c (row_of q l) (facts.rows q).sizes (cores-pass q) t live

    -- ---- numbers

    pub task-pieces : (k : ℕ) → k < length (take n ts) → length (of_task k l) ≡ 1 + split_count (of_task k l)
    task-pieces k low =
        let h = all_placed k low in
        shared-firsts c m.grain (whole_at (take n ts) k) h.past k (whole-kind (times_of k)) h.shared

    pub plan-counts : Counted m.cores (length (take n ts)) l
    plan-counts = front-counts (packed (take n ts)) [] all s l over

    -- ---- rows and words

    laid : (plan_of m c n ts).plan.layout ≡ layout_on none l
    laid = ap (λ (r : Reply). r.plan.layout) (ended ∙ ap (finished m c (take n ts)) planned)

    pub plan-shows : LayoutShows (plan_of m c n ts).plan.layout l
    plan-shows = rw laid (front-shows (packed (take n ts)) [] all s l over)

    pub words-show : (q : ℕ) → q < 16 → WordShows (get_or (plan_of m c n ts).plan.layout.words q 0) (on_core q l)
    words-show q low = rw laid (front-words (packed (take n ts)) [] all s l over q low)

  -- ---- what was placed before the walk stuck

  pub reached-ended : reached_of m c n ts
      ≡ reaching (plan_placed m c (take n ts) (walked_until m c (take n ts))) (finished m c (take n ts) (walked m c (take n ts)))
  unfolding reached_of
  reached-ended = rw faultless

  pub reached-fine : (plan_of m c n ts).number ≡ 0 → reached_of m c n ts ≡ plan_of m c n ts
  unfolding walked
  reached-fine none =
      let w = plan-comes.0 none in
      let W = place_way m c (take n ts) in
      let fine-is = ap (finished m c (take n ts)) w.2 in
      let all-is : walked_until m c (take n ts) ≡ w.1 = until-fine W W.begin w.0 (packed (take n ts)) w.1 w.2 in
      reached-ended
      ∙ (ap (reaching (plan_placed m c (take n ts) (walked_until m c (take n ts)))) fine-is
      ∙ (ap (λ (z : List (Placed ℕ)). reaching (plan_placed m c (take n ts) z) (finished m c (take n ts) (fine w.0 w.1))) all-is
      ∙ sym (ended ∙ fine-is)))

  pub reached-stuck : (k : ℕ) → walked m c (take n ts) ≡ stuck k 7
      → reached_of m c n ts ≡ record { number = 7; carries = suc k; plan = plan_placed m c (take n ts) (walked_until m c (take n ts)) }
  reached-stuck k e = reached-ended
      ∙ ap (λ (o : Ending Stand ℕ). reaching (plan_placed m c (take n ts) (walked_until m c (take n ts))) (finished m c (take n ts) o)) e

  reaches : Reaches (place_way m c (take n ts)) (place_way m c (take n ts)).begin (packed (take n ts))
  reaches = until-reaches (place_way m c (take n ts)) (place_way m c (take n ts)).begin (packed (take n ts))

  pub reached-sized : Each (λ e. Sized e.piece) (walked_until m c (take n ts))
  reached-sized = (let r = reaches in front-sized r.ahead r.rest r.order r.at (walked_until m c (take n ts)) r.reached)

  pub reached-places : Each (λ e. e.item < length (take n ts)) (walked_until m c (take n ts))
  reached-places = (let r = reaches in front-places r.ahead r.rest r.order r.at (walked_until m c (take n ts)) r.reached)

  pub reached-counts : Counted m.cores (length (take n ts)) (walked_until m c (take n ts))
  reached-counts = (let r = reaches in front-counts r.ahead r.rest r.order r.at (walked_until m c (take n ts)) r.reached)

  pub reached-shows : LayoutShows (layout_on none (walked_until m c (take n ts))) (walked_until m c (take n ts))
  reached-shows = (let r = reaches in front-shows r.ahead r.rest r.order r.at (walked_until m c (take n ts)) r.reached)

  pub reached-words : (q : ℕ) → q < 16 → WordShows (get_or (layout_on none (walked_until m c (take n ts))).words q 0) (on_core q (walked_until m c (take n ts)))
  reached-words q low = (let r = reaches in front-words r.ahead r.rest r.order r.at (walked_until m c (take n ts)) r.reached q low)

  pub no-room-last : (k : ℕ) → walked m c (take n ts) ≡ stuck k 7
      → verdict_of c (row_of (m.cores - 1) (walked_until m c (take n ts)) ++ (whole_at (take n ts) k ∷ [])) ≡ Passes → ⊥
  no-room-last k e =
      let at = no-room-at k e in
      let facts = front-facts at.ahead (k ∷ at.later) at.order at.at (walked_until m c (take n ts)) at.reached in
      refused-last c m.grain m.cores (whole_at (take n ts)) at.ahead at.at (walked_until m c (take n ts)) k 7 facts.faithful at.refused

-- ---- any state

pub reached-alike : (m : Machine) (c : Costs) (n : ℕ) (ts : List Task) → ((plan_of m c n ts).number ≡ 7 → ⊥) → reached_of m c n ts ≡ plan_of m c n ts
unfolding plan_of reached_of
reached-alike m c n ts other = by (state_fault m c n ts) refl
  where
    by : (k : ℕ) → state_fault m c n ts ≡ k → reached_of m c n ts ≡ plan_of m c n ts
    by zero good = walks (plan-or-stuck m c n ts good)
      where
        walks : ((s : Stand) × (l : List (Placed ℕ)) × (walked m c (take n ts) ≡ fine s l) × (plan_of m c n ts ≡ finished m c (take n ts) (fine s l)))
            ⊎ ((k : ℕ) × (walked m c (take n ts) ≡ stuck k 7) × (plan_of m c n ts ≡ refused 7 (suc k)))
            → reached_of m c n ts ≡ plan_of m c n ts
        walks (inl w) = reached-fine m c n ts good (ap (λ (r : Reply). r.number) w.3)
        walks (inr w) = absurd (other (ap (λ (r : Reply). r.number) w.2))
    by (suc k) bad = rw bad
