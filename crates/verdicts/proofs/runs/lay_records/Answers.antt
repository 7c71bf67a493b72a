-- `runs::lay_records` meets its contract: so far the first records lie there, charged.
use Rattle.std.proofs.Common.{arith, ◌≡◌, ℕ, min, List, ap, length, take, get_or, ◌<◌}
use mathlib.Core.Path.{sym, ◌∙◌}
use Rattle.std.proofs.lemmas.List.{get_or-map, get_or-take, length-take, take_min}
use Rattle.demand.specs.declared.Piece.{Piece}
use Rattle.demand.specs.declared.Record.{Record}
use Rattle.demand.specs.Records.{outside, piece_in, pieces_in}
use Rattle.demand.specs.Sizes.{run_most}
use Rattle.demand.proofs.RecordLaws.{pieces-length}
use Rattle.verdicts.specs.Cores.{lay_records}
use Rattle.verdicts.proofs.CoreLaws.{lay-records-none, lay-records-more}
use Rattle.verdicts.proofs.runs.lay_records.Goals as goal

pub loop-place-init : goal.loop-place-init
loop-place-init c = lay-records-none c.args.core.now c.args.costs

-- the piece of the record at a place
read : (rs : List Record) (n i : ℕ) (d : Record) (p : Piece) → i < length (take n rs) → p ≡ piece_in (get_or (take n rs) i d) → get_or (pieces_in rs) i outside ≡ p
read rs n i d p here is =
    let low : i < length rs = omega (arith, length-take n rs) in
    get_or-map piece_in rs i d outside low ∙ (ap piece_in (sym (get_or-take n rs i d (omega (arith, length-take n rs)))) ∙ sym is)

pub loop-place-preserved : goal.loop-place-preserved
loop-place-preserved c =
    let s = c.args in
    let i = c.loop-place.place in
    let rs = s.records.now in
    let low = c.loop-place-test.true in
    let many = length-take c.min-count.result rs in
    let at = read rs c.min-count.result i _ c.piece_in.result low c.piece_in.ensures.exact in
    let more = lay-records-more s.core.now s.costs (pieces_in rs) i outside (omega (arith, low, many, pieces-length rs)) (omega (arith, low, many, c.told-core, c.min-count.ensures)) in
    cc (more, at, c.charged_piece.ensures.exact, c.loop-place.invariant)

pub returns : goal.returns
returns c = record {
  exact =
      let s = c.args in
      let ps = pieces_in s.records.now in
      let i = c.loop-place.place in
      let many = length-take c.min-count.result s.records.now in
      let end : i ≡ min run_most (length ps) = omega (arith, many, pieces-length s.records.now, c.min-count.ensures, c.loop-place-test.false) in
      let same = ap (λ (n : ℕ). take n ps) end ∙ take_min run_most ps in
      c.loop-place.invariant ∙ ap (λ (l : List Piece). lay_records s.core.now s.costs l) same;
}
