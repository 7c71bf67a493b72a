-- `forms::word_of` meets its contract: by its bytes a field of seven is `machine`.
-- Assumes nothing.
use mathlib.Core.Path.{◌≡◌}
use Rattle.std.proofs.Common.{rules}
use Rattle.std.proofs.lemmas.Slice.Eq.{text_from_reads}
use Rattle.lines.specs.Lines.{bytes_of}
use Rattle.lines.specs.Forms.{word_of}
use Rattle.lines.proofs.forms.word_of.Goals as goal

pub returns-in-machine : goal.returns-in-machine
unfolding word_of
returns-in-machine c =
    let is : c.args.f.now ≡ bytes_of "machine" = text_from_reads c.args.f.now (bytes_of "machine") (search rules) (search rules) in
    rw is
