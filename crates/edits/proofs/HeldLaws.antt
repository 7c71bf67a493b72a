-- What a held plan's rows show of the walk over its tasks: the walk goes over places in the task list, and `walks` tells it as the walk over the tasks.
-- Assumes nothing.
--
--   in-order               the packing order of the places is that of the tasks
--   walked-tasks           the walk over places is the walk over the tasks
--   Timed t                no D is 0: what the packing order asks of a task
--   Told s, held-told      a held plan's walk over its tasks, and what it shows of each name
use mathlib.Core.Path.{◌≡◌, refl, sym, ap, ◌∙◌, subst}
use mathlib.Core.Bool.{Bool, true, false}
use mathlib.Core.List.{List, [], ◌∷◌, ◌++◌, map, map-append}
use Prim.Native.Nat.{ℕ, zero, suc, ◌≤◌, ◌<◌}
use native.Mathlib.Omega.{arith}
use lib.Dec.{eqb}
use lib.ListN.{length, take, get_or}
use lib.Seq.{take-suc, take-length}
use Rattle.demand.specs.declared.Piece.{Piece}
use Rattle.demand.specs.declared.Costs.{Costs}
use Rattle.demand.specs.Sizes.{Sized}
use Rattle.demand.proofs.Sums.{each-imp}
use Rattle.task.specs.declared.Name.{Name}
use Rattle.task.specs.declared.Task.{Task}
use Rattle.task.specs.declared.Machine.{Machine}
use Rattle.task.specs.Names.{same_name}
use Rattle.task.specs.Tasks.{whole_piece, past, task_at}
use Rattle.task.proofs.TaskLaws.{state-sane}
use Rattle.walks.specs.Lists.{Apart, keep, only}
use Rattle.walks.specs.Order.{pack}
use Rattle.walks.specs.Way.{Placed, fine, walk_of, on_core, relabel, relabelled}
use Rattle.walks.specs.Kept.{of_key}
use Rattle.walks.specs.Halves.{denser, Stand}
use Rattle.walks.proofs.ListLaws.{only-map}
use Rattle.walks.proofs.OrderLaws.{pack-map}
use Rattle.walks.proofs.WayLaws.{of_map}
use Rattle.walks.proofs.KeptLaws.{share_on, Sorts}
use Rattle.plan.specs.declared.Stored.{Stored}
use Rattle.plan.specs.declared.Plan.{Plan}
use Rattle.plan.specs.Reply.{Reply}
use Rattle.plan.specs.declared.Layout.{Layout}
use Rattle.plan.specs.Walk.{whole_of, task_way, upto, walked}
use Rattle.plan.specs.Layout.{blank, kept_piece}
use Rattle.plan.specs.Shows.{stored_of, numbers_on, LayoutShows}
use Rattle.plan.proofs.GoingLaws.{piece-stored}
use Rattle.plan.proofs.Theorems.{plan-faultless, plan-comes, plan-shows}
use Rattle.edits.specs.Edits.{by_name, tasks_held, Afresh}
use Rattle.edits.specs.Kept.{in_order, pieces_on}
use Rattle.edits.proofs.NameSets.{faults-known}

-- ---- places as tasks

map-upto : (ts : List Task) (n : ℕ) → n ≤ length ts → map (task_at ts) (upto n) ≡ take n ts
map-upto ts zero h = refl
map-upto ts (suc n) h = map-append (task_at ts) (upto n) (n ∷ [])
    ∙ (ap (λ (z : List Task). z ++ (task_at ts n ∷ [])) (map-upto ts n (omega arith)) ∙ sym (take-suc ts n past h))

all-upto : (ts : List Task) → map (task_at ts) (upto (length ts)) ≡ ts
all-upto ts = map-upto ts (length ts) (omega arith) ∙ take-length ts

pub in-order : (ts : List Task) → in_order ts ≡ pack (λ a b. denser (whole_of a) (whole_of b)) ts
in-order ts =
    let beats : Task → Task → Bool = λ a b. denser (whole_of a) (whole_of b) in
    pack-map (task_at ts) beats (upto (length ts)) ∙ ap (pack beats) (all-upto ts)

pub walked-tasks : (m : Machine) (c : Costs) (ts : List Task) → relabelled (task_at ts) (walked m c ts) ≡ walk_of (task_way m c) ts
unfolding walked
walked-tasks m c ts = of_map (task_at ts) (task_way m c) (upto (length ts)) ∙ ap (walk_of (task_way m c)) (all-upto ts)

-- ---- a name's pieces

-- what the plan keeps of what was placed, of the tasks of that name
abbrev kept_of : Name → List Task → List Stored → List Piece
kept_of n ts l = map kept_piece (only (λ x. same_name n (task_at ts x.task).name) l)

shown : (n : Name) (ts : List Task) (x : List (Placed ℕ)) → kept_of n ts (map stored_of x) ≡ map (λ e. e.piece) (of_key by_name n (map (relabel (task_at ts)) x))
shown n ts [] = refl
shown n ts (e ∷ x) = by (same_name n (task_at ts e.item).name) (shown n ts x)
  where
    rest : List Stored
    rest = only (λ y. same_name n (task_at ts y.task).name) (map stored_of x)

    by : (t : Bool) → kept_of n ts (map stored_of x) ≡ map (λ y. y.piece) (of_key by_name n (map (relabel (task_at ts)) x))
        → map kept_piece (keep t (stored_of e) rest) ≡ map (λ y. y.piece) (keep t (relabel (task_at ts) e) (of_key by_name n (map (relabel (task_at ts)) x)))
    by true h = cc (h, piece-stored e.item e.piece)
    by false h = h

-- what a layout shows of what was placed, it shows of each name
module _ (ts : List Task) (l : List (Placed ℕ)) (y : Layout) (shows : LayoutShows y l) where
  shows-name : (n : Name) (q : ℕ) → q < 16 → kept_of n ts (map (λ i. get_or y.pieces i blank) (numbers_on y q)) ≡ share_on by_name n q (map (relabel (task_at ts)) l)
  shows-name n q core =
      ap (kept_of n ts) (shows.numbers q core)
      ∙ (shown n ts (on_core q l)
      ∙ ap (λ (z : List (Placed Task)). map (λ e. e.piece) (of_key by_name n z)) (sym (only-map (λ (e : Placed Task). eqb e.on q) (relabel (task_at ts)) l)))

-- ---- a held plan

abbrev pub Timed : Task → Type 0
Timed t = 1 ≤ (whole_of t).window

pub record Told (s : Plan) : Type 0 where
  pub stand : Stand
  pub log : List (Placed Task)
  pub walks : walk_of (task_way s.machine s.costs) (tasks_held s) ≡ fine stand log
  pub shows : (n : Name) (q : ℕ) → q < 16 → pieces_on s n q ≡ share_on by_name n q log
  pub sorts : Sorts by_name Timed (tasks_held s)

pub held-told : (s : Plan) → Afresh s → Told s
unfolding Afresh pieces_on
held-told s held =
    let m = s.machine in
    let c = s.costs in
    let n = s.tasks.count in
    let ts = s.tasks.list in
    let number = ap (λ (r : Reply). r.number) held in
    let faultless = plan-faultless m c n ts number in
    let sane = state-sane m c n ts faultless in
    let apart : Apart (λ t. t.name) (tasks_held s) = (faults-known [] (tasks_held s) sane.faultless).2 in
    let come = (plan-comes m c n ts faultless).0 number in
    let st = come.0 in
    let l = come.1 in
    let planned : walked m c (tasks_held s) ≡ fine st l = come.2 in
    let shows : LayoutShows s.layout l =
    subst (λ (y : Layout). LayoutShows y l) (ap (λ (r : Reply). r.plan.layout) held) (plan-shows m c n ts faultless st l planned) in
    record {
      stand = st;
      log = map (relabel (task_at (tasks_held s))) l;
      walks = sym (walked-tasks m c (tasks_held s)) ∙ ap (relabelled (task_at (tasks_held s))) planned;
      shows = shows-name (tasks_held s) l s.layout shows;
      sorts =
          record {
            apart = apart;
            good = each-imp (λ t. Sized (whole_piece t.times)) Timed
                (λ t size. omega (arith, size.budget-some, size.budget-fits)) (tasks_held s) sane.timed;
          };
    }
