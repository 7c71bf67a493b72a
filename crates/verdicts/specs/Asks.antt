-- What a charged piece is shown to ask for (`ask`, in `demand/specs/Why.antt`), of any number: where one is past its bound, nothing.
--
--   no_ask                zeros
--   ask_within v t q      what q asks for at the length t, beside the verdict v
use Rattle.std.specs.Prelude.{cond, ◌&&◌, ℕ, leb}
use Rattle.demand.specs.declared.Ask.{Ask}
use Rattle.demand.specs.declared.Charged.{Charged}
use Rattle.demand.specs.declared.Verdict.{Verdict}
use Rattle.demand.specs.Sizes.{length_most}
use Rattle.demand.specs.Why.{ask}
use Rattle.demand.specs.Ways.Ranges.{ranged}

abbrev pub no_ask : Ask
no_ask = record { jobs = 0; demand = 0; interrupts = 0 }

unfoldable pub ask_within : Verdict → ℕ → Charged → Ask
ask_within v t q = cond (leb t length_most && ranged q) (ask v t q) no_ask
