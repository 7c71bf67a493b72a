-- `sheets::listed` meets its contract: refused as the plan is; else its listing.
use mathlib.Core.Path.{◌≡◌, sym, ap, ◌∙◌}
use native.Mathlib.Omega.{arith}
use lib.ListN.{length}
use borrow.Author.Rules.{rules}
use Rattle.std.specs.Prelude.{Err}
use Rattle.listing.specs.Listing.{listing_of}
use Rattle.spardimple.specs.Sheets.{listed, paper_of}
use Rattle.spardimple.proofs.SheetLaws.{over-length}
use Rattle.spardimple.proofs.StepLaws.{planning-paper, refusal-paper, refusal-small, refused-writes, written-writes}
use Rattle.spardimple.proofs.sheets.listed.Goals as goal

pub returns-in_err-plan : goal.returns-in_err-plan
returns-in_err-plan c =
    let sheet = c.args.bytes.now in
    let why = c.in_err-plan.field-0.0 in
    let same : c.from_residual.result ≡ Err why = search rules in
    rw same (refused-writes (paper_of sheet) why (refusal-paper sheet why c.in_err-plan.ensures) (refusal-small sheet why c.in_err-plan.ensures) c.args.out.now)

pub returns : goal.returns
returns c =
    let sheet = c.args.bytes.now in
    let text = listing_of c.in_ok-plan.plan in
    let wrote = c.write_listing-length.ensures.exact in
    written-writes (paper_of sheet) text (planning-paper sheet ∙ ap listed (sym c.in_ok-plan.ensures)) c.args.out.now c.write_listing-length.new.buf
    c.write_listing-length.result (length c.write_listing-length.new.buf) wrote.0 (omega (arith, wrote.2)) (ap length wrote.1 ∙ over-length text c.args.out.now)
    wrote.1 c.said.result c.said.ensures
