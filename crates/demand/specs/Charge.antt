-- A piece and its charge: document 01, "A piece and its charge".
--
--   no_costs              all nine are 0
--   charge c p           C', the charged time                      000, equations 7 and 9 and the one for the last subtask
--   ipi_cost c p          what each IPI costs p: IpiO for a piece that came from elsewhere, else 0
--   charged c p          all that demand, busy length and verdict look at: they ask for no kind
--   core_of c ps          the charged pieces of a core
use Rattle.std.specs.Prelude.{cond, List, map, ℕ, ◌+◌, ◌*◌, max}
use Rattle.demand.specs.declared.Piece.{Piece}
use Rattle.demand.specs.declared.Costs.{Costs}
use Rattle.demand.specs.declared.Charged.{Charged}
use Rattle.demand.specs.Kinds.{departs, arrives}

abbrev pub no_costs : Costs
no_costs = record { relo = 0; schedo = 0; tseto = 0; ipb = 0; beto = 0; migro = 0; ipio = 0; ipij = 0; precision = 0 }

unfoldable pub charge : Costs → Piece → ℕ
charge c p =
    p.budget + 2 * c.schedo + c.tseto + p.preempt + cond (departs p.kind) (c.ipb + c.beto + c.migro) 0 + cond (arrives p.kind) p.migrate 0

unfoldable pub ipi_cost : Costs → Piece → ℕ
ipi_cost c p = cond (arrives p.kind) c.ipio 0

unfoldable pub charged : Costs → Piece → Charged
charged c p =
    record { charge = charge c p; window = p.window; period = p.period; jitter = p.jitter; release = c.relo + c.tseto; ipi = ipi_cost c p; ipij = c.ipij }

unfoldable pub core_of : Costs → List Piece → List Charged
core_of c ps = map (charged c) ps

-- How long the core can be held up: max(IpB, SchedO + TsetO), the size of b(t) and the first term of the tight window.
unfoldable pub stall : Costs → ℕ
stall c = max c.ipb (c.schedo + c.tseto)
