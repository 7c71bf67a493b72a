-- `whys::write_why` meets its contract: refused as the records are; else by what the listing's writer wrote, or counted.
use mathlib.Core.Path.{◌≡◌, sym, ◌∙◌}
use mathlib.Core.List.{◌++◌, map}
use native.Mathlib.Omega.{arith}
use borrow.Author.Rules.{rules}
use lib.ListN.{length}
use Rattle.std.specs.Prelude.{Err}
use Rattle.task.specs.Faults.{refused_as}
use Rattle.demand.specs.Records.{piece_in}
use Rattle.listing.specs.Why.{why_text}
use Rattle.listing.specs.Ways.SeatArrays.{titled_in, front_of}
use Rattle.listing.proofs.WhyPaperLaws.{shown-all, showing-unshown, why-barred, written-answers, counted-answers}
use Rattle.listing.proofs.whys.write_why.Goals as goal

pub returns-in_err-shown : goal.returns-in_err-shown
returns-in_err-shown c =
    let s = c.args in
    let same : c.from_residual.result ≡ Err (refused_as c.in_err-shown.field-0.0) = search rules in
    let bad = showing-unshown s.costs (length s.records.now) (map piece_in s.records.now) c.in_err-shown.field-0.0 (sym c.show_records.ensures.exact ∙ c.in_err-shown.was) in
    let barred = why-barred (front_of s.stuck) s.costs s.by_name s.tasks.list s.places.now s.records.now c.in_err-shown.field-0.0 bad (length s.buf.now) s.buf.now in
    rw same (record { value = (barred.0, barred.1); number_bound = (barred.2, barred.3) })

pub write_whole-k-requires : goal.write_whole-k-requires
write_whole-k-requires c =
    let s = c.args in
    let so = shown-all s.costs s.records.now c.in_ok-shown.shown (sym c.show_records.ensures.exact ∙ c.in_ok-shown.was) in
    record { at = λ a. search (rules, arith) }

pub returns-then-room-k : goal.returns-then-room-k
returns-then-room-k c =
    let s = c.args in
    let so = shown-all s.costs s.records.now c.in_ok-shown.shown (sym c.show_records.ensures.exact ∙ c.in_ok-shown.was) in
    let text = front_of s.stuck ++ why_text s.costs (titled_in s.by_name s.tasks.list s.places.now s.records.now (length s.records.now)) in
    let whole = c.write_whole-k.ensures text (λ lent left r e. (search rules, search rules)) in
    record {
      value = counted-answers (front_of s.stuck) s.costs s.by_name s.tasks.list s.places.now s.records.now so.0 s.buf.now _ _ whole.0 whole.1 c.if-room-k.true;
      number_bound = (omega arith, omega (arith, whole.2, so.0.few));
    }

pub returns : goal.returns
returns c =
    let s = c.args in
    let so = shown-all s.costs s.records.now c.in_ok-shown.shown (sym c.show_records.ensures.exact ∙ c.in_ok-shown.was) in
    let text = front_of s.stuck ++ why_text s.costs (titled_in s.by_name s.tasks.list s.places.now s.records.now (length s.records.now)) in
    let whole = c.write_whole-k.ensures text (λ lent left r e. (search rules, search rules)) in
    record {
      value = written-answers (front_of s.stuck) s.costs s.by_name s.tasks.list s.places.now s.records.now so.0 s.buf.now _ _ whole.0 whole.1 c.if-room-k.false;
      number_bound = (omega arith, omega (arith, whole.2, so.0.few));
    }
