-- What a text that is asked for in a lent buffer comes to: document 01, "Refusal numbers".
--
--   Paper                 a refusal's number with what it carries, or a text
--   Note                  what is said of a text: a refusal's number and what it carries, or 0 and the text's length
--   note r                what an answer says: the length, or what is refused
--   note_of p room         what is said of it, where the buffer has so many bytes: the refusal; 10 with the length needed, where that is more; else 0 with the text's length
--   left p old            what the buffer then holds: all of the text and the bytes beyond it, or what it held
use Rattle.std.specs.Prelude.{cond, List, ℕ, leb, length, Result, Ok, Err}
use Rattle.task.specs.declared.faults.Refused.{Refused}
use Rattle.task.specs.Faults.{number_of}
use Rattle.listing.specs.Text.{over}

pub data Paper : Type 0 where
  refused : (number carries : ℕ) → Paper
  written : List ℕ → Paper

pub record Note : Type 0 where
  pub number : ℕ
  pub carries : ℕ

abbrev pub note : Result ℕ Refused → Note
note (Ok n) = record { number = 0; carries = n }
note (Err r) = record { number = number_of r.fault; carries = r.carries }

abbrev pub note_of : Paper → ℕ → Note
note_of (refused n k) room = record { number = n; carries = k }
note_of (written text) room = record { number = cond (leb (length text) room) 0 10; carries = length text }

abbrev pub left : Paper → List ℕ → List ℕ
left (refused n k) old = old
left (written text) old = over text old
