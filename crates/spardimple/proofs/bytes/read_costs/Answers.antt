-- `bytes::read_costs` meets its contract: nine numbers, each within the 36 bytes.
use Rattle.spardimple.specs.Bytes.{costs_spelt}
use Rattle.spardimple.proofs.bytes.read_costs.Goals as goal

pub returns : goal.returns
unfolding costs_spelt
returns c =
    λ i. record {
      relo = c.number_at.ensures i;
      schedo = c.number_at-2.ensures i;
      tseto = c.number_at-3.ensures i;
      ipb = c.number_at-4.ensures i;
      beto = c.number_at-5.ensures i;
      migro = c.number_at-6.ensures i;
      ipio = c.number_at-7.ensures i;
      ipij = c.number_at-8.ensures i;
      precision = c.number_at-9.ensures i;
    }
