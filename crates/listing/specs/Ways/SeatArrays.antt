-- How the pieces of a core lie in arrays: their records, and beside them the places of their tasks.
--
--   no_record             zeros
--   piece_at a i           the piece that the record at place i of a is
--   seats_laid q ks a n    the first n, on core q: the records of a, of the tasks at the places ks
--   SeatLaid ks a i k p ls b      the piece p of the task at place k was laid behind the first i of ks and a, which gives ls and b
--   titled_in b ts ks a n  the same, called by the names of these tasks in ts; or, where b is false, by their own places from 1
--   front_of s             the line in front of a listing, where a task found no room
use Rattle.std.specs.Prelude.{Bool, true, false, Option, Some, None, ◌≡◌, List, [], ◌∷◌, ◌++◌, ℕ, ◌+◌, get_or}
use Rattle.demand.specs.declared.Piece.{Piece}
use Rattle.demand.specs.declared.Record.{Record}
use Rattle.demand.specs.Lists.{firsts}
use Rattle.demand.specs.Records.{piece_in}
use Rattle.task.specs.declared.Task.{Task}
use Rattle.task.specs.Tasks.{task_at}
use Rattle.walks.specs.Way.{Placed}
use Rattle.listing.specs.declared.whys.NoRoom.{NoRoom}
use Rattle.listing.specs.Text.{decimal}
use Rattle.listing.specs.Listing.{spelling}
use Rattle.listing.specs.Why.{Titled, no_room_line}

abbrev pub no_record : Record
no_record = record { kind = 0; budget = 0; window = 0; period = 0; jitter = 0; preempt = 0; migrate = 0 }

abbrev pub piece_at : List Record → ℕ → Piece
piece_at a i = piece_in (get_or a i no_record)

abbrev pub seat_in : ℕ → List ℕ → List Record → ℕ → Placed ℕ
seat_in q ks a i = record { on = q; item = get_or ks i 0; piece = piece_at a i }

abbrev pub seats_laid : ℕ → List ℕ → List Record → ℕ → List (Placed ℕ)
seats_laid q ks a n = firsts (seat_in q ks a) n

abbrev pub title_in : Bool → List Task → List ℕ → ℕ → List ℕ
title_in true ts ks i = spelling (task_at ts (get_or ks i 0)).name
title_in false ts ks i = decimal (i + 1)

abbrev pub titled_at : Bool → List Task → List ℕ → List Record → ℕ → Titled
titled_at b ts ks a i = record { title = title_in b ts ks i; piece = piece_at a i }

abbrev pub titled_in : Bool → List Task → List ℕ → List Record → ℕ → List Titled
titled_in b ts ks a n = firsts (titled_at b ts ks a) n

abbrev pub front_of : Option NoRoom → List ℕ
front_of None = []
front_of (Some s) = no_room_line s.place (spelling s.name) s.cores

pub record SeatLaid (ks : List ℕ) (a : List Record) (i k : ℕ) (p : Piece) (ls : List ℕ) (b : List Record) : Type 0 where
  pub seats : (q : ℕ) → seats_laid q ls b (i + 1) ≡ seats_laid q ks a i ++ (record { on = q; item = k; piece = p } ∷ [])
