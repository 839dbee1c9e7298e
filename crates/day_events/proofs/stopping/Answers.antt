-- `day_events::stopping` meets its contract. Assumes nothing.
use native.Mathlib.Omega.{arith}
use Rattle.executions.proofs.Gives.{stopping_is}
use Rattle.day_events.proofs.stopping.Goals as goal

pub returns : goal.returns
returns c = stopping_is _ _ _ (omega arith) c.with-next.ensures
