-- `families::allowed` is safe and ends. Assumes nothing.
use Rattle.std.proofs.Common.{◌-◌}
use Rattle.reckoning_days.proofs.families.allowed.Given as goal

abbrev pub invariant-loop-list : goal.invariant-loop-list
invariant-loop-list l = Unit {0}

abbrev pub decreases-loop-list : goal.decreases-loop-list
decreases-loop-list l = 4294967296 - l.list
