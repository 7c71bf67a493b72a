-- The walk over an order, task by task.
-- Assumes nothing.
--
--   Walking             a walk under way
--   core-below, land-fits      what it has ready for the next task
--   land-walks, land-sticks      one task more: it lands, or the walk sticks at it
--   walk-ends           the walk has come to its end
use mathlib.Core.Path.{◌≡◌, refl, sym, ap, ◌∙◌, subst}
use mathlib.Core.List.{List, [], ◌∷◌, ◌++◌, append_assoc}
use Prim.Native.Nat.{ℕ, zero, suc, ◌+◌, ◌-◌, ◌<◌, ◌≤◌}
use native.Mathlib.Numerals.{add-one}
use native.Mathlib.Omega.{arith}
use lib.ListN.{length, take, drop, get_or, length-take, length-map, take-append-drop}
use lib.Seq.{take-suc, drop-cons}
use Rattle.std.specs.Prelude.{Option, None, Some}
use Rattle.demand.specs.declared.Piece.{Piece}
use Rattle.demand.specs.declared.Costs.{Costs}
use Rattle.demand.specs.Sizes.{Sized, Each}
use Rattle.task.specs.declared.Machine.{Machine}
use Rattle.task.specs.declared.Task.{Task}
use Rattle.task.specs.Tasks.{task_at}
use Rattle.walks.specs.Way.{Placed, Landing, lands, refuses, Ending, fine, stuck, behind, landed, Way, walk_over, placed_until, on_core}
use Rattle.walks.specs.Halves.{Stand, from_core}
use Rattle.walks.proofs.WayLaws.{until-fine, until-stuck, walk-snoc, walk-stuck}
use Rattle.walks.proofs.SoundLaws.{Planned, few-on-core}
use Rattle.plan.specs.declared.walk.Going.{Going}
use Rattle.plan.specs.Walk.{place_way, whole_at}
use Rattle.plan.specs.Ways.WalkGoing.{pieces_of_row, WalkFits, LandFits, Reached, Reach, stuck_place, EndsOver}
use Rattle.plan.proofs.GoingLaws.{row-length}
use Rattle.plan.proofs.WalkLaws.{claims, walk-planned}

pub record Walking (placed : List (Placed ℕ)) (g : Going) (o : Ending Stand ℕ) : Type 0 where
  pub at : Stand
  pub past : List (Placed ℕ)
  pub is : o ≡ fine at past
  pub reached : Reached [] placed g at past

each-front : (P : ℕ → Type 0) (i : ℕ) (l : List ℕ) → Each P l → Each P (take i l)
each-front P zero l ok = tt
each-front P (suc i) [] ok = tt
each-front P (suc i) (x ∷ l) ok = (ok.0, each-front P i l ok.1)

-- behind a log, where it lands
more-walking : (log placed : List (Placed ℕ)) (x : Going) (k : ℕ) (o : Landing Stand) → Reach log placed (Some x) (landed k o)
    → Walking placed x (behind log (landed k o))
more-walking log placed x k (lands s l) h = record { at = s; past = _; is = refl; reached = record { core_is = h.core_is; seated = h.seated; row_is = h.row_is; placed-is = h.placed-is } }
more-walking log placed x k (refuses n) h = absurd h

-- and where it does not
refused-there : (log placed : List (Placed ℕ)) (k : ℕ) (o : Landing Stand) → Reach log placed None (landed k o)
    → (n : ℕ) × (o ≡ refuses n) × (placed ≡ log)
refused-there log placed k (lands s l) h = absurd h
refused-there log placed k (refuses n) h = (n, refl, h)

module _ (m : Machine) (c : Costs) (ts : List Task) (order : List ℕ) (fits : WalkFits m c ts order) (i : ℕ) (low : i < length order)
    (placed : List (Placed ℕ)) (g : Going) (walking : Walking placed g (walk_over (place_way m c ts) (take i order))) where
  abbrev W : Way ℕ
  W = place_way m c ts

  abbrev next : ℕ
  next = get_or order i 0

  planned : Planned (claims m c (λ k. (task_at ts k).times)) (take i order) walking.at walking.past
  planned =
      walk-planned m c (λ k. (task_at ts k).times) fits.costs fits.some (take i order) (each-front (λ k. Sized (whole_at ts k)) i order fits.sizes)
      walking.at walking.past walking.is

  -- a core's row is no longer than the number of tasks placed
  short : length walking.at.row ≤ length (take i order)
  short =
      let core = walking.at.core in
      omega (
        arith,
        ap length planned.faithful.here,
        length-map (on_core core walking.past) (λ (e : Placed ℕ). e.piece),
        few-on-core m.cores (whole_at ts) (claims m c (λ k. (task_at ts k).times)).Share core planned.shares,
      )

  pub core-below : g.core < m.cores
  core-below = omega (arith, walking.reached.core_is, planned.faithful.below)

  pub land-fits : LandFits c placed g
  land-fits =
      let f = planned.faithful in
      let there = walking.reached in
      let size : length (take i order) ≡ i = simp length-take (omega arith) in
      let count : length placed ≡ length walking.past = ap length there.placed-is in
      let row : g.row.len ≡ length walking.at.row = sym (row-length placed g.row there.seated) ∙ ap length there.row_is in
      record {
        costs = fits.costs;
        room = omega (arith, count, f.count, there.core_is);
        seated = there.seated;
        free = omega (arith, row, short, size, fits.count);
        sizes = rw (there.row_is, ← f.here) (planned.rows walking.at.core).sizes;
      }

  longer : take (i + 1) order ≡ take i order ++ (next ∷ [])
  longer = ap (λ (j : ℕ). take j order) (add-one i) ∙ take-suc order i 0 low

  more : walk_over W (take i order ++ (next ∷ [])) ≡ behind walking.past (landed next (W.place walking.at next))
  more = walk-snoc W W.begin walking.at (take i order) next walking.past walking.is

  module _ (q : Piece) (e : whole_at ts next ≡ q) (placed' : List (Placed ℕ)) where
    abbrev Lands : Option Going → Type 0
    Lands x = Reach placed placed' x (landed next (from_core c m.grain q (m.cores - 1 - g.core) g.core (pieces_of_row placed g.row)))

    pub land-walks : (x : Going) → Lands (Some x) → Walking placed' x (walk_over W (take (i + 1) order))
    land-walks x h =
        let there = walking.reached in
        subst (λ (l : List ℕ). Walking placed' x (walk_over W l)) (sym longer)
        (subst (Walking placed' x) (sym more) (more-walking walking.past placed' x next (W.place walking.at next)
        (rw (e, ← there.placed-is, ← there.core_is, ← there.row_is) h)))

    pub land-sticks : Lands None → EndsOver W placed' (Some next) order
    land-sticks h =
        let there = walking.reached in
        let rest = drop (suc i) order in
        let parts : take i order ++ (next ∷ rest) ≡ order = ap (λ (l : List ℕ). take i order ++ l) (sym (drop-cons order i 0 low)) ∙ take-append-drop i order in
        let r = refused-there walking.past placed' next (W.place walking.at next) (rw (e, ← there.placed-is, ← there.core_is, ← there.row_is) h) in
        let ends : walk_over W order ≡ stuck next r.0 =
        ap (λ (l : List ℕ). walk_over W l) (sym parts ∙ sym (append_assoc (take i order) (next ∷ []) rest))
        ∙ walk-stuck W W.begin (take i order ++ (next ∷ [])) rest next r.0
        (more ∙ ap (λ (o : Landing Stand). behind walking.past (landed next o)) r.1) in
        record {
          stuck-is = sym (ap stuck_place ends);
          placed-is =
              r.2 ∙ (sym (until-stuck W W.begin walking.at (take i order) rest next r.0 walking.past walking.is r.1)
              ∙ ap (λ (l : List ℕ). placed_until W W.begin l) parts);
        }

module _ (m : Machine) (c : Costs) (ts : List Task) (order : List ℕ) where
  pub walk-ends : (placed : List (Placed ℕ)) (g : Going) → Walking placed g (walk_over (place_way m c ts) order) → EndsOver (place_way m c ts) placed None order
  walk-ends placed g walking =
      let W : Way ℕ = place_way m c ts in
      record {
        stuck-is = sym (ap stuck_place walking.is);
        placed-is = walking.reached.placed-is ∙ sym (until-fine W W.begin walking.at order walking.past walking.is);
      }
