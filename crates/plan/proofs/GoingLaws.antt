-- One step of the walk's code, and what it reaches.
-- Assumes nothing.
--
--   piece-stored              what is stored is the piece
--   not-passes                anything but a pass is none
--   pushed-below              one piece more is still below a bound
--   row-length, seated-none, row-none, seated-more, row-more      a row: as long as it says, with nothing in it, with one piece more behind what was placed
--   laid-more                 the piece of one number more laid out
--   Trying                    the task still to be placed: the core has moved on, what was placed has not
--   judge-fits, split-fits    the row at the core can be asked of
--   one-done, both-done, next-trying, last-trying      document 01's four rules
use Rattle.std.specs.Prelude.{None, Option}
use mathlib.Core.Path.{◌≡◌, refl, sym, ap, ◌∙◌}
use mathlib.Core.Bool.{false}
use mathlib.Core.List.{List, [], ◌∷◌, ◌++◌, map, append_assoc}
use Prim.Native.Nat.{ℕ, zero, suc, ◌+◌, ◌-◌, ◌<◌, ◌≤◌}
use native.Mathlib.Numerals.{add-one}
use native.Mathlib.Omega.{arith}
use lib.ListN.{length, take, set, get_or, length-append, length-map, length-take, length-set, get_or-append}
use lib.Seq.{get_or-append_seam, get_or-take, take-suc}
use Rattle.std.proofs.lemmas.List.{map-append, get_or-map, take_more_set}
use Rattle.std.specs.declared.option.Option.TheVariants.{None, Some}
use Rattle.demand.specs.declared.Piece.{Piece}
use Rattle.demand.specs.declared.Costs.{Costs}
use Rattle.demand.specs.declared.Cut.{Cut}
use Rattle.demand.specs.declared.Verdict.{Verdict}
use Rattle.demand.specs.declared.Verdict.TheVariants.{Passes, Overloaded, Undecided}
use Rattle.demand.specs.Split.{cut_at, first_piece, last_piece, passes, greatest_split}
use Rattle.demand.specs.Verdict.{verdict_of}
use Rattle.demand.specs.Records.{outside, piece_in, pieces_in, record_for}
use Rattle.demand.specs.Sizes.{Sized, Each, run_most}
use Rattle.demand.specs.declared.Record.{Record}
use Rattle.demand.proofs.RecordLaws.{piece-back, pieces-back}
use Rattle.demand.proofs.Sums.{each_snoc, each-imp}
use Rattle.demand.proofs.KindLaws.{kind-back}
use Rattle.plan.specs.declared.walk.Going.{Going}
use Rattle.plan.specs.Layout.{stored, kept_piece}
use Rattle.plan.specs.declared.Row.{Row}
use Rattle.plan.specs.declared.seats.Seat.{Seat}
use Rattle.plan.specs.Sizes.{row_most}
use Rattle.plan.specs.Ways.PlacedArray.{seat_of, seated_as, placed_in}
use Rattle.plan.proofs.Lists.{each-at}
use Rattle.walks.specs.Way.{Placed, Landing, refuses, landed}
use Rattle.walks.specs.Halves.{Stand, in_one, in_two, from_core}
use Rattle.walks.proofs.HalvesLaws.{from_one, from-stuck, from-both, from_next}
use Rattle.plan.specs.Ways.WalkGoing.{row_numbers, pieces_of_row, Seated, AskFits, LandFits, Reach}

pub piece-stored : (k : ℕ) (q : Piece) → kept_piece (stored k q) ≡ q
piece-stored k q =
    let e : kept_piece (stored k q)
    ≡ record {
      kind = q.kind;
      budget = q.budget;
      window = q.window;
      period = q.period;
      jitter = q.jitter;
      preempt = q.preempt;
      migrate = q.migrate;
    } = cc (kind-back q.kind) in
    e

-- anything but a pass
pub not-passes : (v : Verdict) → (v ≡ Passes → ⊥) → passes v ≡ false
not-passes Passes h = absurd (h refl)
not-passes (Overloaded t) h = refl
not-passes Undecided h = refl

pub pushed-below : (placed : List (Placed ℕ)) {placed' : List (Placed ℕ)} (e : Placed ℕ) {n : ℕ} → placed' ≡ placed ++ (e ∷ []) → length placed + 1 < n → length placed' < n
pushed-below placed {placed'} e put room = omega (arith, ap length put, length-append placed (e ∷ []), room)

-- ---- the row

abbrev pieces : List (Placed ℕ) → List Piece
pieces placed = map (λ (e : Placed ℕ). e.piece) placed

-- the piece that a number is of
abbrev numbered : List (Placed ℕ) → ℕ → Piece
numbered placed i = get_or (pieces placed) i outside

pub row-length : (placed : List (Placed ℕ)) (row : Row) → Seated placed row → length (pieces_of_row placed row) ≡ row.len
row-length placed row ok = length-map (row_numbers row) (numbered placed) ∙ ok.long

-- a row with no numbers
module _ (placed : List (Placed ℕ)) (row : Row) (len : row.len ≡ 0) (none : row_numbers row ≡ []) where
  pub seated-none : Seated placed row
  seated-none = record { long = rw (none, len) refl; below = rw none tt }

  pub row-none : pieces_of_row placed row ≡ []
  row-none = ap (map (numbered placed)) none

-- a piece behind those placed changes none of them
numbers_still : (placed : List (Placed ℕ)) (e : Placed ℕ) (l : List ℕ) → Each (λ i. i < length placed) l
    → map (numbered (placed ++ (e ∷ []))) l ≡ map (numbered placed) l
numbers_still placed e [] ok = refl
numbers_still placed e (i ∷ l) ok =
    let here : numbered (placed ++ (e ∷ [])) i ≡ numbered placed i =
    ap (λ (z : List Piece). get_or z i outside) (map-append (λ (e : Placed ℕ). e.piece) placed (e ∷ []))
    ∙ get_or-append (pieces placed) (e.piece ∷ []) outside i (omega (arith, ok.0, length-map placed (λ (e : Placed ℕ). e.piece))) in
    cc (here, numbers_still placed e l ok.1)

number-behind : (placed : List (Placed ℕ)) (e : Placed ℕ) → numbered (placed ++ (e ∷ [])) (length placed) ≡ e.piece
number-behind placed e =
    ap (λ (z : List Piece). get_or z (length placed) outside) (map-append (λ (e : Placed ℕ). e.piece) placed (e ∷ []))
    ∙ (ap (λ (n : ℕ). get_or (pieces placed ++ (e.piece ∷ [])) n outside) (sym (length-map placed (λ (e : Placed ℕ). e.piece)))
    ∙ get_or-append_seam (pieces placed) e.piece [] outside)

-- one piece more, and its number in the row
module _ (placed : List (Placed ℕ)) (e : Placed ℕ) (row next : Row) (ok : Seated placed row) (len : next.len ≡ row.len + 1)
    (with : row_numbers next ≡ row_numbers row ++ (length placed ∷ [])) where
  abbrev more : List (Placed ℕ)
  more = placed ++ (e ∷ [])

  pub seated-more : Seated more next
  seated-more =
      let size : length more ≡ length placed + 1 = length-append placed (e ∷ []) in
      record {
        long = omega (arith, ap length with, length-append (row_numbers row) (length placed ∷ []), ok.long, len);
        below =
            rw with (each_snoc (λ (i : ℕ). i < length more) (row_numbers row) (length placed)
            (each-imp (λ (i : ℕ). i < length placed) (λ (i : ℕ). i < length more) (λ i low. omega (arith, size)) (row_numbers row) ok.below)
            (omega (arith, size)));
      }

  pub row-more : pieces_of_row more next ≡ pieces_of_row placed row ++ (e.piece ∷ [])
  row-more =
      ap (map (numbered more)) with
      ∙ (map-append (numbered more) (row_numbers row) (length placed ∷ [])
      ∙ cc (numbers_still placed e (row_numbers row) ok.below, number-behind placed e))

-- of a row, the pieces of its first i numbers are laid out, and then that of the next
module _ (row : Row) (few : row.len < row_most) {placed : List (Placed ℕ)} (ok : Seated placed row) (seats : List Seat) (is : placed_in seats ≡ placed)
    (records : List Record) (i : ℕ) (low : i < row.len) (size : length records ≡ run_most) where
  abbrev laid : ℕ → List Record
  laid i = map record_for (map (numbered placed) (take i row.numbers))

  abbrev number : ℕ
  number = get_or row.numbers i 0

  long : row.len ≤ length row.numbers
  long = omega (arith, ok.long, length-take row.len row.numbers)

  number-low : number < length seats
  number-low =
      let there : get_or (row_numbers row) i 0 ≡ number = get_or-take row.len row.numbers i 0 low in
      let below : get_or (row_numbers row) i 0 < length placed = each-at (λ (i : ℕ). i < length placed) (row_numbers row) ok.below i 0 (omega (arith, ok.long)) in
      omega (arith, there, below, ap length is, length-map seats seated_as)

  pub laid-more : take i records ≡ laid i → (d : Seat) (r : Record) → r ≡ record_for (get_or seats number d).piece
      → (length (set records i r) ≡ run_most) × (take (i + 1) (set records i r) ≡ laid (i + 1))
  laid-more lies d r here =
      let there : (get_or placed number (seated_as d)).piece ≡ (get_or seats number d).piece =
      ap (λ (z : List (Placed ℕ)). (get_or z number (seated_as d)).piece) (sym is)
      ∙ ap (λ (z : Placed ℕ). z.piece) (get_or-map seated_as seats number d (seated_as d) number-low) in
      let piece-is : numbered placed number ≡ (get_or seats number d).piece =
      get_or-map (λ (e : Placed ℕ). e.piece) placed number (seated_as d) outside (omega (arith, number-low, ap length is, length-map seats seated_as)) ∙ there in
      let longer : take (i + 1) row.numbers ≡ take i row.numbers ++ (number ∷ []) =
      ap (λ (j : ℕ). take j row.numbers) (add-one i) ∙ take-suc row.numbers i 0 (omega (arith, long)) in
      let laid-is : laid (i + 1) ≡ laid i ++ (record_for (numbered placed number) ∷ []) =
      ap (λ (l : List ℕ). map record_for (map (numbered placed) l)) longer
      ∙ (ap (map record_for) (map-append (numbered placed) (take i row.numbers) (number ∷ []))
      ∙ map-append record_for (map (numbered placed) (take i row.numbers)) (numbered placed number ∷ [])) in (
        length-set records i r ∙ size,
        take_more_set records i r (omega (arith, size, few)) ∙ (cc (lies, here, piece-is) ∙ sym laid-is),
      )

-- ---- the task at place k, of the whole piece w, still to be placed, on the core p, whose row is h

pub record Trying (m : ℕ) (c : Costs) (r : ℕ) (w : Piece) (placed₀ : List (Placed ℕ)) (g : Going) (p : ℕ) (h : Row) (placed : List (Placed ℕ)) : Type 0 where
  pub fits : LandFits c placed (record { core = p; row = h })
  pub same : placed ≡ placed₀
  pub on : p < m → from_core c r w (m - 1 - g.core) g.core (pieces_of_row placed₀ g.row) ≡ from_core c r w (m - 1 - p) p (pieces_of_row placed h)
  pub end : m ≤ p → from_core c r w (m - 1 - g.core) g.core (pieces_of_row placed₀ g.row) ≡ refuses 7

module _ {m : ℕ} {c : Costs} {r : ℕ} {w : Piece} {placed₀ : List (Placed ℕ)} {g : Going} {p : ℕ} {h : Row} {placed : List (Placed ℕ)}
    (u : Trying m c r w placed₀ g p h placed) (k : ℕ) where
  abbrev row : List Piece
  row = pieces_of_row placed h

  -- where the task is to be placed from g on
  abbrev Goal : List (Placed ℕ) → Option Going → Type 0
  Goal placed' x = Reach placed₀ placed' x (landed k (from_core c r w (m - 1 - g.core) g.core (pieces_of_row placed₀ g.row)))

  reached : (placed' : List (Placed ℕ)) (x : Option Going) (o : Landing Stand)
      → from_core c r w (m - 1 - g.core) g.core (pieces_of_row placed₀ g.row) ≡ o → Reach placed placed' x (landed k o) → Goal placed' x
  reached placed' x o e there = rw (e, ← u.same) there

  -- the row is laid out
  module _ (records : List Record) (lies : take h.len records ≡ map record_for row)
      (more : take (h.len + 1) records ≡ map record_for row ++ (record_for w ∷ [])) where
    lies-is : pieces_in (take h.len records) ≡ row
    lies-is = ap pieces_in lies ∙ pieces-back row

    more-is : pieces_in (take (h.len + 1) records) ≡ row ++ (w ∷ [])
    more-is =
        ap pieces_in more
        ∙ (map-append piece_in (map record_for row) (record_for w ∷ [])
        ∙ cc (pieces-back row, piece-back w))

    ask-fits : Sized w → AskFits c (row ++ (w ∷ []))
    ask-fits size = record {
      costs = u.fits.costs;
      few = omega (arith, length-append row (w ∷ []), row-length placed h u.fits.seated, u.fits.free);
      sizes = each_snoc Sized row w u.fits.sizes size;
    }

    pub judge-fits : Sized w → AskFits c (pieces_in (take (h.len + 1) records))
    judge-fits size = rw more-is (ask-fits size)

    pub split-fits : Sized w → AskFits c (pieces_in (take h.len records) ++ (w ∷ []))
    split-fits size = rw lies-is (ask-fits size)

    -- and asked of
    module _ (low : p < m) {v : Verdict} (verdict-is : v ≡ verdict_of c (pieces_in (take (h.len + 1) records))) where
      answer-is : passes (verdict_of c (row ++ (w ∷ []))) ≡ passes v
      answer-is = ap (λ (l : List Piece). passes (verdict_of c l)) (sym more-is) ∙ ap passes (sym verdict-is)

      pub one-done : v ≡ Passes → (next : Row) → next.len ≡ h.len + 1 → row_numbers next ≡ row_numbers h ++ (length placed ∷ [])
          → {placed' : List (Placed ℕ)} → placed' ≡ placed ++ (seat_of p k w ∷ []) → Goal placed' (Some (record { core = p; row = next }))
      one-done e next len with {placed'} put = reached placed' (Some (record { core = p; row = next })) (in_one c r w p row)
          (u.on low ∙ from_one c r w p row (m - 1 - p) (answer-is ∙ ap passes e))
          (rw put (record {
            core_is = refl;
            seated = seated-more placed (seat_of p k w) h next u.fits.seated len with;
            row_is = row-more placed (seat_of p k w) h next u.fits.seated len with;
            placed-is = refl;
          }))

      module _ (fails : v ≡ Passes → ⊥) where
        fails-is : passes (verdict_of c (row ++ (w ∷ []))) ≡ false
        fails-is = answer-is ∙ not-passes v fails

        module _ (next : Row) (len : next.len ≡ 0) (none : row_numbers next ≡ []) where
          next-fits : LandFits c placed (record { core = p + 1; row = next })
          next-fits = record {
            costs = u.fits.costs;
            room = omega (arith, u.fits.room);
            seated = seated-none placed next len none;
            free = omega (arith, len);
            sizes = rw (row-none placed next len none) tt;
          }

          pub last-trying : m ≤ p + 1 → Trying m c r w placed₀ g (p + 1) next placed
          last-trying last =
              let end : m - 1 - p ≡ zero = omega arith in
              record {
                fits = next-fits;
                same = u.same;
                on = λ h. absurd (omega arith);
                end = λ past. u.on low ∙ rw end (from-stuck c r w p row fails-is);
              }

          module _ {z : Option Cut} (split-is : z ≡ greatest_split c r (pieces_in (take h.len records)) w) (on : p + 1 < m) where
            left : m - 1 - p ≡ suc (m - 1 - (p + 1))
            left = omega arith

            cut-is : greatest_split c r row w ≡ z
            cut-is = ap (λ (l : List Piece). greatest_split c r l w) (sym lies-is) ∙ sym split-is

            pub next-trying : z ≡ None → Trying m c r w placed₀ g (p + 1) next placed
            next-trying no-cut = record {
              fits = next-fits;
              same = u.same;
              on = λ h. u.on low
                  ∙ rw (left, from_next c r w p row (m - 1 - (p + 1)) fails-is (cut-is ∙ no-cut), row-none placed next len none, add-one p);
              end = λ past. absurd (omega arith);
            }

            -- next is the empty row, to which the number of the last piece is added
            pub both-done : {x t : ℕ} → z ≡ cut_at x t → {a b : Piece} → a ≡ first_piece w x t → b ≡ last_piece c w x t
                → {mid placed' : List (Placed ℕ)} → mid ≡ placed ++ (seat_of p k a ∷ []) → placed' ≡ mid ++ (seat_of (p + 1) k b ∷ [])
                → (last : Row) → last.len ≡ next.len + 1 → row_numbers last ≡ row_numbers next ++ (length mid ∷ [])
                → Goal placed' (Some (record { core = p + 1; row = last }))
            both-done {x} {t} cut {a} {b} a-is b-is {mid} {placed'} one two last longer with =
                let l = seat_of (p + 1) k b in
                let start = seated-none mid next len none in
                reached placed' (Some (record { core = p + 1; row = last })) (in_two c r w p x t)
                (u.on low ∙ rw left (from-both c r w p row (m - 1 - (p + 1)) x t fails-is (cut-is ∙ cut)))
                (rw (← a-is, ← b-is) (record {
                  core_is = add-one p;
                  seated = rw two (seated-more mid l next last start longer with);
                  row_is =
                      ap (λ (z : List (Placed ℕ)). pieces_of_row z last) two
                      ∙ (row-more mid l next last start longer with
                      ∙ ap (λ (z : List Piece). z ++ (b ∷ [])) (row-none mid next len none));
                  placed-is =
                      two
                      ∙ (ap (λ (z : List (Placed ℕ)). z ++ (l ∷ [])) one
                      ∙ (append_assoc placed (seat_of p k a ∷ []) (l ∷ [])
                      ∙ ap (λ (q : ℕ). placed ++ (seat_of p k a ∷ seat_of q k b ∷ [])) (add-one p)));
                }))
