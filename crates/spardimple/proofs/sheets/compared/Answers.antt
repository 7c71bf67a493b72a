-- `sheets::compared` meets its contract: the listing of both.
use mathlib.Core.Path.{refl, ap, ◌∙◌}
use native.Mathlib.Omega.{arith}
use lib.ListN.{length}
use Rattle.listing.specs.Diff.{diff_of}
use Rattle.listing.specs.Papers.{written}
use Rattle.spardimple.proofs.SheetLaws.{over-length}
use Rattle.spardimple.proofs.StepLaws.{written-writes}
use Rattle.spardimple.proofs.sheets.compared.Goals as goal

pub returns : goal.returns
returns c =
    let text = diff_of c.args.first c.args.second in
    let wrote = c.write_diff-length.ensures.exact in
    written-writes (written text) text refl c.args.out.now c.write_diff-length.new.buf
    c.write_diff-length.result (length c.write_diff-length.new.buf) wrote.0 (omega (arith, wrote.2)) (ap length wrote.1 ∙ over-length text c.args.out.now)
    wrote.1 c.said.result c.said.ensures
