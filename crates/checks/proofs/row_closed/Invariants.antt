-- `checks::row_closed` meets its contract: members that are not left are covered. Assumes nothing.
use Rattle.sets.specs.Sets.{count}
use Rattle.sets.specs.PlaceSets.{has}
use Rattle.rows.specs.Rows.{history_in}
use Rattle.answers.specs.Checks.{Covered}
use Rattle.checks.proofs.Checks.{Turns}
use Rattle.checks.proofs.row_closed.Given as goal

abbrev pub invariant-loop-m : goal.invariant-loop-m
invariant-loop-m l = Turns l.n (history_in l.n l.history l.p) (λ m. Covered l.n (history_in l.n l.history) (has l.due) l.p m) l.left

abbrev pub decreases-loop-m : goal.decreases-loop-m
decreases-loop-m l = count 128 (has l.left)
