-- `orders::deed_of` meets its contract: by its bytes a field of six is `retime`, and one of eight is `withdraw`.
-- Assumes nothing.
use mathlib.Core.Path.{◌≡◌}
use Rattle.std.proofs.Common.{rules}
use Rattle.std.proofs.lemmas.Slice.Eq.{text_from_reads}
use Rattle.lines.specs.Lines.{bytes_of}
use Rattle.lines.specs.Orders.{deed_of}
use Rattle.lines.proofs.orders.deed_of.Goals as goal

pub returns-in-retime : goal.returns-in-retime
unfolding deed_of
returns-in-retime c =
    let is : c.args.f.now ≡ bytes_of "retime" = text_from_reads c.args.f.now (bytes_of "retime") (search rules) (search rules) in
    rw is

pub returns-in-withdraw : goal.returns-in-withdraw
unfolding deed_of
returns-in-withdraw c =
    let is : c.args.f.now ≡ bytes_of "withdraw" = text_from_reads c.args.f.now (bytes_of "withdraw") (search rules) (search rules) in
    rw is
