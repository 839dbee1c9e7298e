-- `offerings::keep_full` meets its contract. Assumes nothing.
use native.Mathlib.Omega.{arith}
use Rattle.calls.proofs.Gives.{keep_full_is}
use Rattle.offerings.proofs.keep_full.Goals as goal

pub returns : goal.returns
returns c = keep_full_is _ _ _ _ _ (omega arith) (omega arith) c.with-next.ensures c.union-next.ensures
