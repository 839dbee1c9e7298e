-- `offerings::keep_row` meets its contract. Assumes nothing.
use native.Mathlib.Omega.{arith}
use Rattle.calls.proofs.Gives.{keep_row_is}
use Rattle.offerings.proofs.keep_row.Goals as goal

pub returns : goal.returns
returns c = keep_row_is _ _ _ _ _ _ (omega arith) (omega arith) (omega arith) c.with-next.ensures c.union-next.ensures c.set.ensures
