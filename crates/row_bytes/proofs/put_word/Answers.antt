-- `row_bytes::put_word` meets its contract. Assumes nothing.
use mathlib.Core.Path.{sym, ◌∙◌}
use lib.Seq.{sets-eq}
use Rattle.std.proofs.Common.{w64}
use Rattle.std.specs.Int.{to_le_bytes}
use Rattle.rows.proofs.Bytes.{word_laid}
use Rattle.row_bytes.proofs.put_word.Goals as goal

pub returns : goal.returns
returns c =
    let a = c.args in
    rw (c.copy_from_slice.ensures.after, c.to_le_bytes.ensures) (sym (sets-eq (to_le_bytes w64 a.x) a.out.now 0 c.requires) ∙ word_laid a.out.now a.x c.requires)
