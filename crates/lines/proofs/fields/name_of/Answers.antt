-- `fields::name_of` meets its contract: the bytes stand in the array, zeros behind them.
-- Assumes nothing.
use mathlib.Core.Path.{◌≡◌, sym, ap, ◌∙◌}
use Rattle.std.proofs.Common.{false, rules, ℕ, List, ◌++◌, length, drop, replicate}
use Rattle.task.specs.Names.{name_most}
use Rattle.demand.specs.Lists.{padded}
use Rattle.lines.proofs.FieldLaws.{name-laid, name-bad}
use Rattle.lines.proofs.fields.name_of.Goals as goal

pub returns-then-not-well_formed : goal.returns-then-not-well_formed
returns-then-not-well_formed c =
    let f = c.args.f.now in
    let laid : c.copy_from_slice.new.self ++ drop (length f) (replicate name_most 0) ≡ padded name_most 0 f =
    ap (λ (l : List ℕ). l ++ drop (length f) (replicate name_most 0)) c.copy_from_slice.ensures.after ∙ name-laid f c.if-f-gt-NAME_MOST.false in
    let bad : c.well_formed-2.result ≡ false = search rules in
    sym (name-bad f _ laid (sym c.well_formed-2.ensures.exact ∙ bad))
