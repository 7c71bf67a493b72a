-- The plan's rows and words, from what the walk placed: document 01, "The plan keeps each core's row ..". One piece at a time, from nothing on, so
-- that what is not used stays zero and two equal plans are equal structs.
--
--   stored k q           the piece q of the task at place k, as the plan keeps it
--   piece_numbered ps i   the piece with the number i, as the verdict sees it
--   put_of s p k q        one piece more, on core p
--   none                 nothing placed
--   layout_on s l         each piece of l in turn
--   tasks_on s p          the number of tasks on core p
use Rattle.std.specs.Prelude.{cond, List, [], ◌∷◌, ℕ, ◌+◌, ◌*◌, ◌^◌, leb, set, get_or, replicate}
use Rattle.std.specs.Int.Count.{ones}
use Rattle.std.specs.Int.Bits.{bit_or}
use Rattle.demand.specs.declared.Piece.{Piece}
use Rattle.demand.specs.Kinds.{kind_number, kind_of}
use Rattle.plan.specs.declared.Stored.{Stored}
use Rattle.plan.specs.declared.Layout.{Layout}
use Rattle.walks.specs.Way.{Placed}
use Rattle.task.specs.Tasks.{cores_most}
use Rattle.plan.specs.Sizes.{pieces_most, row_most}

abbrev pub stored : ℕ → Piece → Stored
stored k q = record { task = k; kind = kind_number q.kind; budget = q.budget; window = q.window; period = q.period; jitter = q.jitter; preempt = q.preempt; migrate = q.migrate }

abbrev pub kept_piece : Stored → Piece
kept_piece s = record { kind = kind_of s.kind; budget = s.budget; window = s.window; period = s.period; jitter = s.jitter; preempt = s.preempt; migrate = s.migrate }

abbrev pub blank : Stored
blank = record { task = 0; kind = 0; budget = 0; window = 0; period = 0; jitter = 0; preempt = 0; migrate = 0 }

abbrev pub piece_numbered : List Stored → ℕ → Piece
piece_numbered ps i = kept_piece (get_or ps i blank)

unfoldable pub put_of : Layout → ℕ → ℕ → Piece → Layout
put_of s p k q = record {
  count = s.count + 1;
  pieces = set s.pieces s.count (stored k q);
  rows = set s.rows (p * row_most + get_or s.lens p 0) s.count;
  lens = set s.lens p (get_or s.lens p 0 + 1);
  words = set s.words p (bit_or (get_or s.words p 0) (2 ^ k));
}

unfoldable pub none : Layout
none = record { count = 0; pieces = replicate pieces_most blank; rows = replicate (cores_most * row_most) 0; lens = replicate cores_most 0; words = replicate cores_most 0 }

abbrev pub layout_on : Layout → List (Placed ℕ) → Layout
layout_on s [] = s
layout_on s (e ∷ l) = layout_on (put_of s e.on e.item e.piece) l

-- the number of tasks on a core: the ones of its word
unfoldable pub tasks_on : Layout → ℕ → ℕ
tasks_on s p = cond (leb cores_most p) 0 (ones (get_or s.words p 0))
