-- `play::play_bytes` meets its contract: what the desk is after all bytes, it is after those that are left.
-- Assumes nothing.
use mathlib.Core.Path.{◌≡◌}
use lib.ListN.{drop}
use Rattle.desk.specs.Desk.{played_bytes}
use Rattle.desk.proofs.play.play_bytes.Given as goal

abbrev pub invariant-loop-b : goal.invariant-loop-b
invariant-loop-b g l = played_bytes l.initial.desk l.bytes ≡ played_bytes l.desk (drop l.b-index l.bytes)
