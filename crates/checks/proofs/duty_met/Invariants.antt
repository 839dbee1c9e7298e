-- `checks::duty_met` meets its contract: the members of the rows that are not left are covered. Assumes nothing.
use Rattle.sets.specs.PlaceSets.{has}
use Rattle.rows.specs.Rows.{history_in}
use Rattle.checks.proofs.Checks.{Turns}
use Rattle.checks.proofs.Closed.{AllCovered}
use Rattle.checks.proofs.duty_met.Given as goal

abbrev pub invariant-loop-p : goal.invariant-loop-p
invariant-loop-p l = Turns l.n (has l.due) (λ p. AllCovered l.n (history_in l.n l.history) (has l.due) p) l.p-iterator.left
