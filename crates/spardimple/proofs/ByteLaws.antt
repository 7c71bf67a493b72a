-- Laws of the records that bytes spell.
-- Assumes nothing.
--
--   numbers-at            the number at a place
--   pieces-length         so many records as there are 28 bytes
--   lent-pieces           the records that are read are those that the bytes spell
use mathlib.Core.Path.{◌≡◌}
use mathlib.Core.List.{List}
use Prim.Native.Nat.{ℕ, ◌/◌, ◌<◌}
use lib.ListN.{length, get_or}
use Rattle.demand.specs.Lists.{firsts}
use Rattle.demand.specs.Records.{piece_in, pieces_in, record_spelt, record_at}
use Rattle.demand.proofs.ArrayLaws.{firsts-length, firsts_at}
use Rattle.listing.proofs.SeatLaws.{map-firsts}
use Rattle.spardimple.specs.Bytes.{number_at, numbers_spelt, pieces_of}

module _ (s : List ℕ) where
  pub numbers-at : (k : ℕ) → k < length s / 4 → get_or (numbers_spelt s) k 0 ≡ number_at s k
  unfolding numbers_spelt
  numbers-at k h = firsts_at (number_at s) (length s / 4) k 0 h

  pub pieces-length : length (pieces_of s) ≡ length s / 28
  unfolding pieces_of
  pieces-length = firsts-length (record_at (numbers_spelt s)) (length s / 28)

  pub lent-pieces : pieces_in (firsts (record_spelt (numbers_spelt s)) (length s / 28)) ≡ pieces_of s
  unfolding pieces_of record_at
  lent-pieces = map-firsts piece_in (record_spelt (numbers_spelt s)) (length s / 28)
