-- `row_bytes::read_word` meets its contract. Assumes nothing.
use native.Mathlib.Omega.{arith}
use Rattle.rows.proofs.Bytes.{word_read}
use Rattle.row_bytes.proofs.read_word.Goals as goal

pub returns : goal.returns
returns c =
    word_read c.args.bytes.now (λ i. omega (arith, c.type_inv.bytes i)) _ (omega arith)
