-- `recovery::unopened` meets its contract. Assumes nothing.
use native.Mathlib.Omega.{arith}
use Rattle.calls.proofs.Gives.{unopened_is}
use borrow.Author.Rules.{rules}
use Rattle.openings.proofs.unopened.Goals as goal

pub returns : goal.returns
returns c = unopened_is _ _ _ (omega arith) c.empty-nobody.ensures c.none-rows.ensures
