-- `demand_at` meets its contract: 0, or the figure of the records that the bytes spell.
use Rattle.std.specs.Prelude.{Ok, Option, Some, None, unwrap_or}
use mathlib.Core.Path.{◌≡◌, refl, sym, ap, ◌∙◌}
use Prim.Native.Nat.{ℕ}
use Rattle.spardimple.specs.Whys.{figure_number}
use Rattle.spardimple.proofs.LentLaws.{unlent-demand, lent-demand}
use Rattle.spardimple.proofs.demand_at.Goals as goal

found-number : (f : Option ℕ) → unwrap_or f 0 ≡ figure_number (Ok f)
found-number None = refl
found-number (Some n) = refl

pub returns-in_default : goal.returns-in_default
returns-in_default c = record { exact = unlent-demand c.args.records.now c.args.costs.now c.in_default.field-0 c.in_default.ensures c.args.t }

pub returns-in_default-lent : goal.returns-in_default-lent
returns-in_default-lent c = record { exact = unlent-demand c.args.records.now c.args.costs.now c.in_default-lent.field-0 c.in_default-lent.ensures c.args.t }

pub returns-in_default-demand_of : goal.returns-in_default-demand_of
returns-in_default-demand_of c = record {
  exact =
      let s = c.args in
      let read = c.in-Ok-lent.ensures in
      sym (ap figure_number c.in_default-demand_of.is)
      ∙ lent-demand s.records.now s.costs.now c.in-Ok-lent.costs c.in-Ok-lent.run'.now read.0 read.1 read.2 s.t c.demand_of.result c.demand_of.ensures.exact;
}

pub returns : goal.returns
returns c = record {
  exact =
      let s = c.args in
      let read = c.in-Ok-lent.ensures in
      c.unwrap_or.ensures ∙ found-number c.in-Ok-demand_of.demand ∙ sym (ap figure_number c.in-Ok-demand_of.is)
      ∙ lent-demand s.records.now s.costs.now c.in-Ok-lent.costs c.in-Ok-lent.run'.now read.0 read.1 read.2 s.t c.demand_of.result c.demand_of.ensures.exact;
}
