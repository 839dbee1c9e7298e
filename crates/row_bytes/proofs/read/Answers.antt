-- `row_bytes::read` meets its contract. Assumes nothing.
use mathlib.Core.Path.{sym, ◌∙◌}
use native.Mathlib.Omega.{arith}
use Rattle.rows.proofs.Bytes.{row_out, row_fits}
use Rattle.row_bytes.proofs.read.Goals as goal

pub returns-then-bytes-p : goal.returns-then-bytes-p
returns-then-bytes-p c = c.empty.ensures ∙ sym (row_out _ _ (omega arith))

pub returns : goal.returns
returns c = row_fits _ _ _ (omega arith) c.read_word.ensures c.read_word-2.ensures
