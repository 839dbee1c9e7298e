-- `row_bytes::put` meets its contract. Assumes nothing.
use native.Mathlib.Omega.{arith}
use Rattle.rows.proofs.Bytes.{put_misfits, put_fits}
use Rattle.row_bytes.proofs.put.Goals as goal

pub returns-then-out-lt16 : goal.returns-then-out-lt16
returns-then-out-lt16 c = put_misfits _ _ _ (omega arith)

pub returns-then-out-at : goal.returns-then-out-at
returns-then-out-at c = put_misfits _ _ _ (omega arith)

pub returns : goal.returns
returns c =
    let a = c.args in
    put_fits a.out.now a.at a.s _ _ (omega arith) c.put_word.ensures c.put_word-2.ensures
