-- `checks::all_recorded` meets its contract: the rows that are not left are the recorded ones. Assumes nothing.
use mathlib.Core.Path.{◌≡◌}
use mathlib.Core.Bool.{true}
use Rattle.sets.specs.Sets.{same}
use Rattle.sets.specs.PlaceSets.{has}
use Rattle.rows.specs.Rows.{rows_of, history_in}
use Rattle.checks.proofs.Checks.{Turns}
use Rattle.checks.proofs.all_recorded.Given as goal

abbrev pub invariant-loop-p : goal.invariant-loop-p
invariant-loop-p l = Turns l.n (has l.initial.p-iterator.left) (λ p. same l.n (history_in l.n l.history p) (rows_of l.rows p) ≡ true) l.p-iterator.left
