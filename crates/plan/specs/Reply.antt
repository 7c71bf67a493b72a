-- An answer as document 01 gives it: the refusal's number with what it carries, or 0 and 0, and a plan beside it. The code gives a `Result`, of which
-- `specs/Plan.antt` says which answer it is.
use Rattle.std.specs.Prelude.{ℕ}
use Rattle.plan.specs.declared.Plan.{Plan}

pub record Reply : Type 0 where
  pub number : ℕ
  pub carries : ℕ
  pub plan : Plan
