-- Laws of a run of records that lies in an array.
-- Assumes nothing.
--
--   records-length, records-at, records-take    79 of them, each by its place, and the first ones
--   record-named, record-other    a record by its kind's number
--   kind-outside          a record of another kind is outside the sizes
--   first-same            the first n records, by the first 7 · n numbers
--   record-back           the seven numbers of a record spell it
--   in_named, in_other    the piece of a record, by its kind's number
--   piece-back, pieces-back    a piece is that of its record
--   within_there, within_past    the piece of the record at a place, and past the last
--   put_there, put_past    a record written there
--   pieces-length, pieces-all    as many pieces as records
--   place-good, place-bad  the search for the first bad record, one record on
use mathlib.Core.Path.{◌≡◌, refl, sym, ap, ◌∙◌}
use mathlib.Core.Bool.{true, false}
use mathlib.Core.List.{List, [], ◌∷◌, ◌++◌, map}
use Prim.Native.Nat.{ℕ, zero, suc, ◌+◌, ◌*◌, ◌≤◌, ◌<◌}
use native.Mathlib.Nat.{add-zero}
use native.Mathlib.Omega.{arith}
use borrow.Author.Tests.{le-leb, lt-leb}
use lib.ListN.{length, take, drop, get_or, get_or-map, length-map, set}
use Rattle.std.proofs.lemmas.List.{take_more, take_more_set}
use lib.Seq.{take_all}
use Rattle.demand.specs.declared.Kind.{Kind}
use Rattle.demand.specs.declared.Piece.{Piece}
use Rattle.demand.specs.Kinds.{kind_number, kind_most, kind_of}
use Rattle.demand.specs.Lists.{firsts}
use Rattle.demand.specs.declared.Record.{Record}
use Rattle.demand.specs.Records.{outside, piece_in, pieces_in, record_for, record_spelt, record_at, records_of, numbers_of, record_within, put_record}
use Rattle.demand.specs.Sizes.{run_most, sized}
use Rattle.demand.specs.Answer.{first_bad}
use Rattle.demand.proofs.SizeLaws.{first-bad-good, first-bad-here}
use Rattle.demand.proofs.KindLaws.{kind-back, kind-narrow}
use Rattle.demand.proofs.ArrayLaws.{firsts-length, firsts_at, firsts-take, firsts_same}

-- ---- all places

pub records-length : (a : List ℕ) → length (records_of a) ≡ run_most
unfolding records_of
records-length a = firsts-length (record_at a) run_most

pub records-at : (a : List ℕ) (i : ℕ) (d : Piece) → i < run_most → get_or (records_of a) i d ≡ record_at a i
unfolding records_of
records-at a i d h = firsts_at (record_at a) run_most i d h

pub records-take : (a : List ℕ) (i : ℕ) → i ≤ run_most → take i (records_of a) ≡ firsts (record_at a) i
unfolding records_of
records-take a i h = firsts-take (record_at a) run_most i h

-- ---- records that are lent

pub in_named : (r : Record) → r.kind ≤ kind_most
    → record { kind = kind_of r.kind; budget = r.budget; window = r.window; period = r.period; jitter = r.jitter; preempt = r.preempt; migrate = r.migrate } ≡ piece_in r
unfolding piece_in
in_named r named = simp (le-leb r.kind kind_most named)

pub in_other : (r : Record) → kind_most < r.kind → piece_in r ≡ outside
unfolding piece_in
in_other r other = simp (lt-leb r.kind kind_most other)

pub piece-back : (p : Piece) → piece_in (record_for p) ≡ p
unfolding record_for
piece-back p =
    sym (in_named (record_for p) (kind-narrow p.kind))
    ∙ λ j. record {
      kind = kind-back p.kind j;
      budget = p.budget;
      window = p.window;
      period = p.period;
      jitter = p.jitter;
      preempt = p.preempt;
      migrate = p.migrate;
    }

pub pieces-back : (ps : List Piece) → pieces_in (map record_for ps) ≡ ps
pieces-back [] = refl
pieces-back (p ∷ ps) = cc (piece-back p, pieces-back ps)

-- a record at a place, and past the last

pub within_there : (rs : List Record) (i : ℕ) (d : Record) → i < length rs → piece_in (get_or rs i d) ≡ record_within rs i
unfolding record_within
within_there rs i d low = sym (there rs i d outside low)
  where
    there : (rs : List Record) (i : ℕ) (d : Record) (e : Piece) → i < length rs → get_or (pieces_in rs) i e ≡ piece_in (get_or rs i d)
    there [] i d e low = absurd (omega arith)
    there (r ∷ rs) zero d e low = refl
    there (r ∷ rs) (suc i) d e low = there rs i d e (omega arith)

pub within_past : (rs : List Record) (i : ℕ) → length rs ≤ i → outside ≡ record_within rs i
unfolding record_within
within_past rs i high = sym (past rs i high)
  where
    past : (rs : List Record) (i : ℕ) → length rs ≤ i → get_or (pieces_in rs) i outside ≡ outside
    past [] i high = refl
    past (r ∷ rs) zero high = absurd (omega arith)
    past (r ∷ rs) (suc i) high = past rs i (omega arith)

pub put_there : (rs : List Record) (i : ℕ) (p : Piece) → i < length rs → set rs i (record_for p) ≡ put_record rs i p
unfolding put_record
put_there rs i p low = simp (lt-leb (length rs) i low)

pub put_past : (rs : List Record) (i : ℕ) (p : Piece) → length rs ≤ i → rs ≡ put_record rs i p
unfolding put_record
put_past rs i p high = simp (le-leb (length rs) i high)

pub pieces-length : (rs : List Record) → length (pieces_in rs) ≡ length rs
pieces-length rs = length-map rs piece_in

-- all of them
pub pieces-all : (rs : List Record) → take (length rs) (pieces_in rs) ≡ pieces_in rs
pieces-all rs = take_all (length rs) (pieces_in rs) (omega (arith, pieces-length rs))

-- ---- a record

-- seven reads make a record, where the first is a kind's number
pub record-named : (a : List ℕ) (i : ℕ) (k : Kind) → get_or a (7 * i) 0 ≤ kind_most → k ≡ kind_of (get_or a (7 * i) 0)
    → record {
      kind = k;
      budget = get_or a (7 * i + 1) 0;
      window = get_or a (7 * i + 2) 0;
      period = get_or a (7 * i + 3) 0;
      jitter = get_or a (7 * i + 4) 0;
      preempt = get_or a (7 * i + 5) 0;
      migrate = get_or a (7 * i + 6) 0;
    } ≡ record_at a i
unfolding record_at
record-named a i k named e = rw e (in_named (record_spelt a i) named)

pub record-other : (a : List ℕ) (i : ℕ) → kind_most < get_or a (7 * i) 0 → record_at a i ≡ outside
unfolding record_at
record-other a i other = in_other (record_spelt a i) other

pub kind-outside : (a : List ℕ) (i : ℕ) → kind_most < get_or a (7 * i) 0 → sized (record_at a i) ≡ false
unfolding sized
kind-outside a i other = rw (record-other a i other)

record_same : (a b : List ℕ) (i : ℕ) → ((k : ℕ) → k < 7 * i + 7 → get_or a k 0 ≡ get_or b k 0) → record_at a i ≡ record_at b i
unfolding record_at
record_same a b i same =
    cc (
      same (7 * i) (omega arith),
      same (7 * i + 1) (omega arith),
      same (7 * i + 2) (omega arith),
      same (7 * i + 3) (omega arith),
      same (7 * i + 4) (omega arith),
      same (7 * i + 5) (omega arith),
      same (7 * i + 6) (omega arith),
    )

-- the first n records, by the first 7 · n numbers
pub first-same : (a b : List ℕ) (n : ℕ) → ((k : ℕ) → k < 7 * n → get_or a k 0 ≡ get_or b k 0) → firsts (record_at a) n ≡ firsts (record_at b) n
first-same a b n same = firsts_same (record_at a) (record_at b) n (λ i under. record_same a b i (λ k low. same k (omega arith)))

-- the seven numbers of a record spell it
pub record-back : (a : List ℕ) (i : ℕ) (p : Piece) → ((k : ℕ) → k < 7 → get_or a (7 * i + k) 0 ≡ get_or (numbers_of p) k 0) → record_at a i ≡ p
record-back a i p at =
    let head : get_or a (7 * i) 0 ≡ kind_number p.kind = rw add-zero at (at 0 (omega arith)) in
    let kind : p.kind ≡ kind_of (get_or a (7 * i) 0) = rw head (sym (kind-back p.kind)) in
    sym (record-named a i p.kind (omega (arith, head, kind-narrow p.kind)) kind)
    ∙ λ j. record {
      kind = p.kind;
      budget = at 1 (omega arith) j;
      window = at 2 (omega arith) j;
      period = at 3 (omega arith) j;
      jitter = at 4 (omega arith) j;
      preempt = at 5 (omega arith) j;
      migrate = at 6 (omega arith) j;
    }

-- records written one by one
pub record-next : (rs : List Record) (ps : List Piece) (i : ℕ) (r : Record) (d : Piece) → length rs ≡ length ps → i < length ps
    → take i rs ≡ take i (map record_for ps) → r ≡ record_for (get_or ps i d) → take (i + 1) (set rs i r) ≡ take (i + 1) (map record_for ps)
record-next rs ps i r d long here before is =
    let last : get_or (map record_for ps) i (record_for d) ≡ r = get_or-map record_for ps i d ∙ sym is in
    take_more_set rs i r (omega (arith, long))
    ∙ (ap (λ (l : List Record). l ++ (r ∷ [])) before
    ∙ (ap (λ (q : Record). take i (map record_for ps) ++ (q ∷ [])) (sym last)
    ∙ sym (take_more (map record_for ps) i (record_for d) (omega (arith, length-map ps record_for, here)))))

-- the search for the first bad record, one record on
module _ (rs : List Record) (i : ℕ) (here : i < length rs) where
  at-place : (d : Record) → get_or (pieces_in rs) i (piece_in d) ≡ piece_in (get_or rs i d)
  at-place d = get_or-map piece_in rs i d

  pub place-good : (p : Piece) (d : Record) → p ≡ piece_in (get_or rs i d) → sized p ≡ true
      → first_bad (i + 1) (drop i (pieces_in rs)) ≡ first_bad (i + 1 + 1) (drop (i + 1) (pieces_in rs))
  place-good p d is e = first-bad-good (pieces_in rs) i (piece_in d) (omega (arith, pieces-length rs)) (ap sized (at-place d ∙ sym is) ∙ e)

  pub place-bad : (p : Piece) (d : Record) → p ≡ piece_in (get_or rs i d) → sized p ≡ false → first_bad (i + 1) (drop i (pieces_in rs)) ≡ i + 1
  place-bad p d is e = first-bad-here (pieces_in rs) i (piece_in d) (omega (arith, pieces-length rs)) (ap sized (at-place d ∙ sym is) ∙ e)
