-- `checks::no_circle` meets its contract: the walk goes on, or it is over. Assumes nothing.
use Prim.Native.Nat.{◌+◌, ◌*◌}
use Rattle.sets.specs.Sets.{count}
use Rattle.sets.specs.PlaceSets.{has}
use Rattle.rows.specs.Rows.{history_in}
use Rattle.checks.proofs.Walk.{Walk}
use Rattle.checks.proofs.no_circle.Given as goal

abbrev pub invariant-loop-p : goal.invariant-loop-p
invariant-loop-p l = Walk l.n (history_in l.n l.history) l.path l.depth l.on l.left

abbrev pub decreases-loop-p : goal.decreases-loop-p
decreases-loop-p l = 2 * count 128 (has l.left) + l.depth
