-- Laws of the pieces of a core while they lie in arrays: how they come there from a plan's row, and that what is written of them is what is to be answered.
-- Assumes nothing.
--
--   seat-laid             a record set, and the place of its task beside it, lie behind those before
--   seat_of q t            a stored piece on core q
--   row_to s q i           what the layout s has at the first i places of core q's row
--   seats-more, seats-all         one place more is laid; and where all that count are, it is the core's row
--   seats-past            a core past the sixteen has nothing
--   map-firsts            what is made of each of the first n
--   titled-seats          pieces called by the names of their tasks are those that are placed
--   titled-run            pieces called by their places are the records
--   titled-pieces, titled-all     either are the pieces that lie there, and the first n of n are all
--   pieces-there, seats-front     those of all the records, and the first n seats
--   paper-front           what is answered looks at the first n alone
--   paper-many            more than 79 are refused
--   run-paper, seats-paper        what is answered for the arrays is what is answered for the records, and for what is placed
use mathlib.Core.Path.{◌≡◌, refl, sym, ap, ◌∙◌}
use mathlib.Core.Bool.{Bool, true, false}
use mathlib.Core.List.{List, [], ◌∷◌, ◌++◌, map, map-map}
use Prim.Native.Nat.{ℕ, zero, suc, ◌+◌, ◌≤◌, ◌<◌}
use native.Mathlib.Numerals.{add-one}
use native.Mathlib.Omega.{arith}
use borrow.Author.Tests.{lt-leb}
use lib.ListN.{length, take, get_or, set, length-map, get_or-eq_default}
use lib.Seq.{take_all, get_or-set_same, get_or-set_other, get_or-take, ext_get_or}
use Rattle.std.proofs.lemmas.List.{get_or-map, take-map}
use Rattle.demand.specs.declared.Piece.{Piece}
use Rattle.demand.specs.declared.Costs.{Costs}
use Rattle.demand.specs.Lists.{firsts}
use Rattle.demand.specs.declared.Record.{Record}
use Rattle.demand.specs.Records.{outside, piece_in, record_for}
use Rattle.demand.specs.Answer.{check_run}
use Rattle.demand.proofs.ArrayLaws.{firsts-length, firsts_at, firsts-take, firsts_same}
use Rattle.demand.proofs.RecordLaws.{piece-back}
use Rattle.task.specs.declared.Task.{Task}
use Rattle.walks.specs.Way.{Placed}
use Rattle.plan.specs.declared.Stored.{Stored}
use Rattle.plan.specs.declared.Layout.{Layout}
use Rattle.plan.specs.Layout.{kept_piece, blank}
use Rattle.plan.proofs.Lists.{map_snoc}
use Rattle.listing.specs.Text.{decimal}
use Rattle.listing.specs.Listing.{row_pieces}
use Rattle.listing.specs.Papers.{refused}
use Rattle.listing.specs.Why.{Titled, pieces_in, why_paper, by_place, why_run, titled_placed, row_seats, why_seats}
use Rattle.listing.specs.Ways.SeatArrays.{no_record, piece_at, seat_in, seats_laid, titled_at, titled_in, SeatLaid}
use Rattle.listing.proofs.EntryLaws.{row_numbers, row_next}

-- ---- one more is laid

pub seat-laid : (ks : List ℕ) (a : List Record) (i k : ℕ) (p : Piece) (r : Record) → i < 79 → length a ≡ 79 → length ks ≡ 79 → r ≡ record_for p
    → SeatLaid ks a i k p (set ks i k) (set a i r)
seat-laid ks a i k p r low long wide is = record { seats = λ q. by q }
  where
    by : (q : ℕ) → seats_laid q (set ks i k) (set a i r) (i + 1) ≡ seats_laid q ks a i ++ (record { on = q; item = k; piece = p } ∷ [])
    by q =
        let before : firsts (seat_in q (set ks i k) (set a i r)) i ≡ seats_laid q ks a i =
        firsts_same (seat_in q (set ks i k) (set a i r)) (seat_in q ks a) i
        (λ j h. cc (ap piece_in (get_or-set_other a i j r no_record (λ (e : j ≡ i). omega arith)), get_or-set_other ks i j k 0 (λ (e : j ≡ i). omega arith))) in
        let here : piece_at (set a i r) i ≡ p =
        ap piece_in (get_or-set_same a i r no_record (omega arith) ∙ is) ∙ piece-back p in
        rw add-one (cc (before, here, get_or-set_same ks i k 0 (omega arith)))

-- ---- a row, place by place

abbrev pub seat_of : ℕ → Stored → Placed ℕ
seat_of q t = record { on = q; item = t.task; piece = kept_piece t }

abbrev pub row_to : Layout → ℕ → ℕ → List (Placed ℕ)
row_to s q i = map (λ j. seat_of q (get_or s.pieces j blank)) (take i (row_numbers s q))

module _ (s : Layout) (q : ℕ) (row : List ℕ) (is : row ≡ row_numbers s q) where
  pub seats-more : (ks : List ℕ) (a : List Record) (n i : ℕ) (t : Stored) (p : Piece) (ls : List ℕ) (b : List Record) → i < length row → seats_laid q ks a n ≡ row_to s q i
      → t ≡ get_or s.pieces (get_or row i 0) blank → p ≡ kept_piece t → SeatLaid ks a n t.task p ls b
      → seats_laid q ls b (n + 1) ≡ row_to s q (i + 1)
  seats-more ks a n i t p ls b low lies here piece laid =
      let seat : ◌≡◌ {A = Placed ℕ} (record { on = q; item = t.task; piece = p }) (seat_of q t) =
      ap (λ (x : Piece). record { on = q; item = t.task; piece = x }) piece in
      laid.seats q ∙ (cc (lies, seat) ∙ sym (row_next (seat_of q) s q row is i t low here))

  pub seats-all : (i : ℕ) → length row ≤ i → row_to s q i ≡ row_seats s q
  unfolding row_seats row_pieces
  seats-all i all =
      ap (map (λ j. seat_of q (get_or s.pieces j blank))) (take_all i (row_numbers s q) (omega (arith, ap length is)))
      ∙ sym (map-map (seat_of q) (λ j. get_or s.pieces j blank) (row_numbers s q))

pub seats-past : (s : Layout) (q : ℕ) → length s.lens ≡ 16 → 16 ≤ q → row_seats s q ≡ []
unfolding row_seats row_pieces
seats-past s q long h = rw (get_or-eq_default s.lens 0 {n = q} (omega arith))

-- ---- what they are called by

pub map-firsts : {A B : Type 0} (f : A → B) (g : ℕ → A) (n : ℕ) → map f (firsts g n) ≡ firsts (λ i. f (g i)) n
map-firsts f g zero = refl
map-firsts f g (suc n) = map_snoc f (firsts g n) (g n) ∙ ap (λ l. l ++ (f (g n) ∷ [])) (map-firsts f g n)

pub titled-seats : (ts : List Task) (q : ℕ) (ks : List ℕ) (a : List Record) (n : ℕ) → titled_in true ts ks a n ≡ map (titled_placed ts) (seats_laid q ks a n)
titled-seats ts q ks a n = sym (map-firsts (titled_placed ts) (seat_in q ks a) n)

pub titled-pieces : (b : Bool) (ts : List Task) (ks : List ℕ) (a : List Record) (n : ℕ) → pieces_in (titled_in b ts ks a n) ≡ firsts (piece_at a) n
titled-pieces b ts ks a n = map-firsts (λ (l : Titled). l.piece) (titled_at b ts ks a) n

by-place-behind : (k : ℕ) (ps : List Piece) (p : Piece) → by_place k (ps ++ (p ∷ [])) ≡ by_place k ps ++ (record { title = decimal (k + length ps); piece = p } ∷ [])
by-place-behind k [] p = (let e : k ≡ k + 0 = omega arith in ap (λ (j : ℕ). record { title = decimal j; piece = p } ∷ []) e)
by-place-behind k (r ∷ ps) p =
    let e : k + 1 + length ps ≡ k + suc (length ps) = omega arith in
    ap (λ (l : List Titled). record { title = decimal k; piece = r } ∷ l)
    (by-place-behind (k + 1) ps p ∙ ap (λ (j : ℕ). by_place (k + 1) ps ++ (record { title = decimal j; piece = p } ∷ [])) e)

pub titled-run : (ts : List Task) (ks : List ℕ) (a : List Record) (n : ℕ) → titled_in false ts ks a n ≡ by_place 1 (firsts (piece_at a) n)
titled-run ts ks a zero = refl
titled-run ts ks a (suc n) =
    let e : n + 1 ≡ 1 + length (firsts (piece_at a) n) = omega (arith, firsts-length (piece_at a) n) in
    ap (λ (l : List Titled). l ++ (titled_at false ts ks a n ∷ [])) (titled-run ts ks a n)
    ∙ (ap (λ (j : ℕ). by_place 1 (firsts (piece_at a) n) ++ (record { title = decimal j; piece = piece_at a n } ∷ [])) e
    ∙ sym (by-place-behind 1 (firsts (piece_at a) n) (piece_at a n)))

pub titled-all : (b : Bool) (ts : List Task) (ks : List ℕ) (a : List Record) (n : ℕ) → take n (titled_in b ts ks a n) ≡ titled_in b ts ks a n
titled-all b ts ks a n = firsts-take (titled_at b ts ks a) n n (omega arith)

-- the records of a slice, place by place
pub pieces-there : (a : List Record) → firsts (piece_at a) (length a) ≡ map piece_in a
pieces-there a =
    let long : length (firsts (piece_at a) (length a)) ≡ length a = firsts-length (piece_at a) (length a) in
    ext_get_or outside (firsts (piece_at a) (length a)) (map piece_in a) (long ∙ sym (length-map a piece_in))
    (λ i h. firsts_at (piece_at a) (length a) i outside (omega (arith, long))
    ∙ sym (get_or-map piece_in a i no_record outside (omega (arith, long))))

-- the first n seats lie in the first n records
pub seats-front : (q : ℕ) (ks : List ℕ) (a : List Record) (n : ℕ) → seats_laid q ks (take n a) n ≡ seats_laid q ks a n
seats-front q ks a n =
    firsts_same (seat_in q ks (take n a)) (seat_in q ks a) n
    (λ i h. ap (λ (r : Record). record { on = q; item = get_or ks i 0; piece = piece_in r }) (get_or-take n a i no_record h))

-- ---- what is answered

pub paper-front : (f : List ℕ) (c : Costs) (n : ℕ) (ls ks : List Titled) → take n ls ≡ take n ks → why_paper f c n ls ≡ why_paper f c n ks
unfolding why_paper check_run
paper-front f c n ls ks same =
    let front : take n (pieces_in ls) ≡ take n (pieces_in ks) =
    take-map (λ (l : Titled). l.piece) n ls ∙ (ap pieces_in same ∙ sym (take-map (λ (l : Titled). l.piece) n ks)) in
    rw (front, same)

pub paper-many : (f : List ℕ) (c : Costs) (n : ℕ) (ls : List Titled) → 79 < n → why_paper f c n ls ≡ refused 6 0
unfolding why_paper check_run
paper-many f c n ls h = rw (lt-leb n 79 h)

pub run-paper : (c : Costs) (ts : List Task) (ks : List ℕ) (a : List Record)
    → why_paper [] c (length a) (titled_in false ts ks a (length a)) ≡ why_run c (length a) (map piece_in a)
unfolding why_run
run-paper c ts ks a = ap (why_paper [] c (length a)) (titled-run ts ks a (length a) ∙ ap (by_place 1) (pieces-there a))

pub seats-paper : (f : List ℕ) (c : Costs) (ts : List Task) (q : ℕ) (ks : List ℕ) (a : List Record) (es : List (Placed ℕ)) → seats_laid q ks a (length a) ≡ es
    → why_paper f c (length a) (titled_in true ts ks a (length a)) ≡ why_seats f c ts es
seats-paper f c ts q ks a es lies =
    let long : length a ≡ length es = sym (firsts-length (seat_in q ks a) (length a)) ∙ ap (λ (l : List (Placed ℕ)). length l) lies in
    ap (why_paper f c (length a)) (titled-seats ts q ks a (length a) ∙ ap (map (titled_placed ts)) lies)
    ∙ ap (λ (m : ℕ). why_paper f c m (map (titled_placed ts) es)) long
