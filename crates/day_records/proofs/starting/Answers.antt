-- `day_records::starting` meets its contract. Assumes nothing.
use native.Mathlib.Omega.{arith}
use borrow.Author.Rules.{rules}
use Rattle.executions.proofs.Gives.{starting_is}
use Rattle.day_records.proofs.starting.Goals as goal

pub returns : goal.returns
returns c = starting_is _ _ _ _ _ (search rules) c.padded-serials.ensures (omega arith) c.empty-stopped.ensures c.none-rows.ensures
