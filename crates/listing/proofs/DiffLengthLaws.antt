-- How long the listing of two plans is that the walk gave.
-- Assumes nothing.
--
--   line-few, lines-few, side-few      a line, the lines of a word, those of a name
--   order-few, moved-few      no more names move than pieces are placed
--   diff-few              so of two plans of at most 79 pieces, by names of at most 24 bytes, it has less than 5,000,000 bytes
--   standing-few, standing-short       and such are the plans that the walk gives
use mathlib.Core.Path.{◌≡◌}
use mathlib.Core.Bool.{not}
use mathlib.Core.List.{List, [], ◌∷◌, ◌++◌, map}
use Prim.Native.Nat.{ℕ, zero, suc, ◌+◌, ◌*◌, ◌≤◌, ◌<◌}
use native.Mathlib.Omega.{arith}
use lib.Dec.{eqb}
use lib.ListN.{length, take, length-append, length-map, length-take}
use Rattle.demand.specs.declared.Costs.{Costs}
use Rattle.demand.specs.Sizes.{Each}
use Rattle.demand.proofs.Sums.{each-imp, each_map}
use Rattle.task.specs.declared.Task.{Task}
use Rattle.task.specs.declared.Machine.{Machine}
use Rattle.task.specs.Names.{same_bytes}
use Rattle.task.specs.Tasks.{cores_most, state_fault}
use Rattle.walks.specs.Lists.{only}
use Rattle.walks.specs.Way.{Placed, fine}
use Rattle.walks.specs.Halves.{Stand}
use Rattle.walks.proofs.ListLaws.{each-only}
use Rattle.plan.specs.Walk.{walked}
use Rattle.plan.proofs.Theorems.{plan-counts}
use Rattle.lines.specs.Lines.{bytes_of, newline, tab}
use Rattle.listing.specs.Text.{ended_by, decimal}
use Rattle.listing.specs.Listing.{spelling, kind_word}
use Rattle.listing.specs.Placed.{by_core}
use Rattle.listing.specs.ByteOrder.{rank_in, byte_ordered}
use Rattle.listing.specs.Diff.{of_item, alike, names_of, moved_names, diff_line, diff_lines, side_by_side, diff_blocks, diff_head, diff_text, called_by}
use Rattle.listing.proofs.TextLaws.{ended-length, decimal-few}
use Rattle.listing.proofs.DiffTextLaws.{only-few}
use Rattle.listing.proofs.PlacedLaws.{Seated, all-seated, by-core-all, by-core-each}
use Rattle.listing.proofs.PlainLaws.{each-task, word-short}

-- ---- lines

line-few : (w : List ℕ) (e : Placed (List ℕ)) → length w ≤ 5 → length e.item ≤ 24 → length (diff_line w e) ≤ 184
unfolding diff_line
line-few w e short name =
    let q = decimal (e.on + 1) in
    let word = kind_word e.piece.kind in
    let b = decimal e.piece.budget in
    let d = decimal e.piece.window in
    let t = decimal e.piece.period in
    let j = decimal e.piece.jitter in
    let p = decimal e.piece.preempt in
    let m = decimal e.piece.migrate in
    let figures = ended_by tab b ++ (ended_by tab d ++ (ended_by tab t ++ (ended_by tab j ++ (ended_by tab p ++ ended_by newline m)))) in
    omega (
      arith,
      length-append (ended_by tab w) (ended_by tab e.item ++ (ended_by tab q ++ (ended_by tab word ++ figures))),
      length-append (ended_by tab e.item) (ended_by tab q ++ (ended_by tab word ++ figures)),
      length-append (ended_by tab q) (ended_by tab word ++ figures),
      length-append (ended_by tab word) figures,
      length-append (ended_by tab b) (ended_by tab d ++ (ended_by tab t ++ (ended_by tab j ++ (ended_by tab p ++ ended_by newline m)))),
      length-append (ended_by tab d) (ended_by tab t ++ (ended_by tab j ++ (ended_by tab p ++ ended_by newline m))),
      length-append (ended_by tab t) (ended_by tab j ++ (ended_by tab p ++ ended_by newline m)),
      length-append (ended_by tab j) (ended_by tab p ++ ended_by newline m),
      length-append (ended_by tab p) (ended_by newline m),
      ended-length tab w,
      ended-length tab e.item,
      ended-length tab q,
      ended-length tab word,
      ended-length tab b,
      ended-length tab d,
      ended-length tab t,
      ended-length tab j,
      ended-length tab p,
      ended-length newline m,
      word-short e.piece.kind,
      decimal-few (e.on + 1),
      decimal-few e.piece.budget,
      decimal-few e.piece.window,
      decimal-few e.piece.period,
      decimal-few e.piece.jitter,
      decimal-few e.piece.preempt,
      decimal-few e.piece.migrate,
    )

-- what is called by at most 24 bytes
abbrev pub Short : Placed (List ℕ) → Type 0
Short e = length e.item ≤ 24

lines-few : (w : List ℕ) → length w ≤ 5 → (es : List (Placed (List ℕ))) → Each Short es → length (diff_lines w es) ≤ 184 * length es
lines-few w short [] names = omega arith
lines-few w short (e ∷ es) names =
    omega (arith, length-append (diff_line w e) (diff_lines w es), line-few w e short names.0, lines-few w short es names.1)

side-few : (es fs : List (Placed (List ℕ))) → Each Short es → Each Short fs → length (side_by_side es fs) ≤ 184 * (length es + length fs)
side-few [] fs first second = omega (arith, lines-few (bytes_of "only2") (omega arith) fs second)
side-few (e ∷ es) [] first second = omega (arith, lines-few (bytes_of "only1") (omega arith) (e ∷ es) first)
side-few (e ∷ es) (f ∷ fs) first second =
    omega (
      arith,
      length-append (diff_lines (bytes_of "was") (e ∷ es)) (diff_lines (bytes_of "now") (f ∷ fs)),
      lines-few (bytes_of "was") (omega arith) (e ∷ es) first,
      lines-few (bytes_of "now") (omega arith) (f ∷ fs) second,
    )

head_few : (t u : ℕ) → length (diff_head t u) ≤ 47
unfolding diff_head
head_few t u =
    let a = decimal t in
    let b = decimal u in
    omega (
      arith,
      length-append (ended_by tab (bytes_of "diff")) (ended_by tab a ++ ended_by newline b),
      length-append (ended_by tab a) (ended_by newline b),
      ended-length tab a,
      ended-length newline b,
      decimal-few t,
      decimal-few u,
    )

-- ---- names

order-few : (ns : List (List ℕ)) (r : ℕ) → length (byte_ordered ns r) ≤ r
order-few ns zero = omega arith
order-few ns (suc r) =
    omega (
      arith,
      order-few ns r,
      length-append (byte_ordered ns r) (take 1 (only (λ n. eqb (rank_in ns n) r) ns)),
      length-take 1 (only (λ n. eqb (rank_in ns n) r) ns),
    )

moved-few : (l k : List (Placed (List ℕ))) → length (moved_names l k) ≤ length l + length k
unfolding moved_names
moved-few l k =
    let ns = names_of (l ++ k) in
    omega (
      arith,
      only-few (λ n. not (alike same_bytes n l k)) (byte_ordered ns (length ns)),
      order-few ns (length ns),
      length-map (l ++ k) (λ (e : Placed (List ℕ)). e.item),
      length-append l k,
    )

module _ (l k : List (Placed (List ℕ))) (first : Each Short l) (second : Each Short k) (few : length l ≤ 79) (less : length k ≤ 79) where
  blocks-few : (ns : List (List ℕ)) → length (diff_blocks l k ns) ≤ 29072 * length ns
  blocks-few [] = omega arith
  blocks-few (n ∷ ns) =
      omega (
        arith,
        length-append (side_by_side (of_item same_bytes n l) (of_item same_bytes n k)) (diff_blocks l k ns),
        side-few (of_item same_bytes n l) (of_item same_bytes n k) (each-only Short (λ e. same_bytes e.item n) l first)
            (each-only Short (λ e. same_bytes e.item n) k second),
        only-few (λ (e : Placed (List ℕ)). same_bytes e.item n) l,
        only-few (λ (e : Placed (List ℕ)). same_bytes e.item n) k,
        blocks-few ns,
      )

  pub diff-few : (t u : ℕ) → length (diff_text t u l k) < 5000000
  unfolding diff_text
  diff-few t u =
      omega (
        arith,
        length-append (diff_head t u) (diff_blocks l k (moved_names l k)),
        head_few t u,
        blocks-few (moved_names l k),
        moved-few l k,
      )

-- ---- a plan that the walk gave

module _ (m : Machine) (c : Costs) (n : ℕ) (ts : List Task) (faultless : state_fault m c n ts ≡ 0) (s : Stand) (l : List (Placed ℕ))
    (planned : walked m c (take n ts) ≡ fine s l) where
  seated : Each (Seated (length (take n ts))) l
  seated = all-seated m c n ts faultless s l planned

  pub standing-few : length (map (called_by (take n ts)) (by_core cores_most l)) ≤ 79
  standing-few =
      omega (
        arith,
        length-map (by_core cores_most l) (called_by (take n ts)),
        by-core-all 16 l (each-imp (Seated (length (take n ts))) (λ e. e.on < 16) (λ e seat. seat.core) l seated),
        (plan-counts m c n ts faultless s l planned).pieces-fit,
      )

  pub standing-short : Each (λ t. length (spelling t.name) ≤ 24) (take n ts) → Each Short (map (called_by (take n ts)) (by_core cores_most l))
  standing-short names =
      each_map (Seated (length (take n ts))) Short (called_by (take n ts))
      (λ e seat. each-task (λ t. length (spelling t.name) ≤ 24) (take n ts) names e.item seat.low) (by_core 16 l)
      (by-core-each (Seated (length (take n ts))) 16 l seated)
