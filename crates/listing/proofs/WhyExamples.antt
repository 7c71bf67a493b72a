-- K7's listing whole, and that of an empty core, by the definitions: document 02, E1. So the words, the fields and their order are as docs/LISTINGS.md has them.
-- Assumes nothing.
use mathlib.Core.Path.{◌≡◌, refl}
use mathlib.Core.List.{[], ◌∷◌}
use Prim.Native.Nat.{ℕ}
use Rattle.demand.specs.declared.Piece.{Piece}
use Rattle.demand.specs.declared.Costs.{Costs}
use Rattle.demand.specs.declared.Kind.TheVariants.{Whole}
use Rattle.demand.specs.Charge.{no_costs, charge, ipi_cost, charged, core_of, stall}
use Rattle.demand.specs.Demand.{ceil, jobs_due, interrupts, blocking, load, demand, least_live}
use Rattle.demand.specs.Busy.{least_holding, busy_load, busy_sum, busy_length}
use Rattle.demand.specs.Verdict.{verdict}
use Rattle.demand.specs.Why.{slack, least_slack, due_ask, busy_ask, core_shown, shown_of}
use Rattle.lines.specs.Lines.{bytes_of}
use Rattle.listing.specs.Text.{digits_onto}
use Rattle.listing.specs.Why.{signed, why_head, ask_line, why_foot, why_text, by_place}

costs : Costs
costs = record { relo = 0; schedo = 0; tseto = 0; ipb = 4; beto = 0; migro = 0; ipio = 0; ipij = 0; precision = 0 }

whole : ℕ → ℕ → ℕ → Piece
whole x d t = record { kind = Whole; budget = x; window = d; period = t; jitter = 0; preempt = 0; migrate = 0 }

k7-listed : why_text costs (by_place 1 (whole 8 10 50 ∷ whole 1 12 50 ∷ []))
    ≡ bytes_of "why\toverloaded\t11\t4\npiece\t1\twhole\t1\t8\t0\npiece\t2\twhole\t0\t0\t0\ntotal\t12\nslack\t-1\n"
unfolding why_text why_head ask_line why_foot signed digits_onto shown_of core_shown due_ask busy_ask slack least_slack verdict busy_length least_holding busy_sum busy_load demand load blocking interrupts jobs_due ceil least_live core_of charged charge ipi_cost stall costs whole
k7-listed = refl

none-listed : why_text no_costs [] ≡ bytes_of "why\tpasses\t0\t0\n"
unfolding why_text why_head digits_onto shown_of core_shown least_slack verdict busy_length least_holding busy_sum demand blocking least_live core_of stall
none-listed = refl
