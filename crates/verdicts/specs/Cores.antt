-- A core under judgement: charged pieces that can be counted with, so that no sum wraps.
--
--   IsCore qs             at most 79 pieces, each within its range
--   laid_piece qs i       the charged piece at place i, and zeros past the last place
--   lay_piece qs i q      the charged piece q laid out at place i; past the last place nothing changes
--   lay_records qs c ps   the records ps charged, in place of the first of qs
use Rattle.std.specs.Prelude.{cond, List, map, ◌++◌, ℕ, ◌≤◌, leb, length, drop, get_or, set}
use Rattle.demand.specs.declared.Piece.{Piece}
use Rattle.demand.specs.declared.Costs.{Costs}
use Rattle.demand.specs.declared.Charged.{Charged}
use Rattle.demand.specs.Sizes.{Each, run_most}
use Rattle.demand.specs.Ways.Ranges.{Ranged, charged_within, no_charge}

abbrev pub IsCore : List Charged → Type 0
IsCore qs = (length qs ≤ run_most) × Each Ranged qs

unfoldable pub laid_piece : List Charged → ℕ → Charged
laid_piece qs i = get_or qs i no_charge

unfoldable pub lay_piece : List Charged → ℕ → Charged → List Charged
lay_piece qs i q = cond (leb (length qs) i) qs (set qs i q)

unfoldable pub lay_records : List Charged → Costs → List Piece → List Charged
lay_records qs c ps = map (charged_within c) ps ++ drop (length ps) qs
