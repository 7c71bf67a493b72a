-- A record of a piece, as it is lent: its kind by number, and its six figures x, D, T, J, P, M in their order. In bytes it is spelt by seven numbers, in that order.
--
--   outside              a piece that is outside the sizes
--   piece_in r           the piece that the record r is
--   pieces_in rs         the pieces that the records rs are
--   record_for p         the record of the piece p
--   record_within rs i    the piece of the record at place i, and nothing but zeros past the last place
--   put_record rs i p      the record of p written at place i; past the last place nothing changes
--   given a i k          the k-th number behind the kind of the record at place i of the numbers a
--   record_spelt a i     the record that the seven numbers at place i spell
--   record_at a i         the piece that it is
--   records_of a          the pieces at all 79 places
--   numbers_of p          the seven numbers of a piece
use Rattle.std.specs.Prelude.{cond, List, [], ◌∷◌, map, ℕ, ◌+◌, ◌*◌, leb, get_or, length, set}
use Rattle.demand.specs.declared.Kind.TheVariants.{Whole}
use Rattle.demand.specs.declared.Piece.{Piece}
use Rattle.demand.specs.declared.Record.{Record}
use Rattle.demand.specs.Kinds.{kind_number, kind_most, kind_of}
use Rattle.demand.specs.Lists.{firsts}
use Rattle.demand.specs.Sizes.{run_most}

abbrev pub outside : Piece
outside = record { kind = Whole; budget = 0; window = 0; period = 0; jitter = 0; preempt = 0; migrate = 0 }

-- Another kind is outside the sizes, whatever the six figures are.
unfoldable pub piece_in : Record → Piece
piece_in r =
    cond (leb r.kind kind_most)
    (record { kind = kind_of r.kind; budget = r.budget; window = r.window; period = r.period; jitter = r.jitter; preempt = r.preempt; migrate = r.migrate })
    outside

abbrev pub pieces_in : List Record → List Piece
pieces_in rs = map piece_in rs

unfoldable pub record_for : Piece → Record
record_for p =
    record { kind = kind_number p.kind; budget = p.budget; window = p.window; period = p.period; jitter = p.jitter; preempt = p.preempt; migrate = p.migrate }

unfoldable pub record_within : List Record → ℕ → Piece
record_within rs i = get_or (pieces_in rs) i outside

unfoldable pub put_record : List Record → ℕ → Piece → List Record
put_record rs i p = cond (leb (length rs) i) rs (set rs i (record_for p))

-- ---- in numbers

-- the k-th number behind the kind of the record at place i
abbrev pub given : List ℕ → ℕ → ℕ → ℕ
given a i k = get_or a (7 * i + k) 0

abbrev pub record_spelt : List ℕ → ℕ → Record
record_spelt a i =
    record { kind = get_or a (7 * i) 0; budget = given a i 1; window = given a i 2; period = given a i 3; jitter = given a i 4; preempt = given a i 5; migrate = given a i 6 }

unfoldable pub record_at : List ℕ → ℕ → Piece
record_at a i = piece_in (record_spelt a i)

unfoldable pub records_of : List ℕ → List Piece
records_of a = firsts (record_at a) run_most

abbrev pub numbers_of : Piece → List ℕ
numbers_of p = kind_number p.kind ∷ p.budget ∷ p.window ∷ p.period ∷ p.jitter ∷ p.preempt ∷ p.migrate ∷ []
