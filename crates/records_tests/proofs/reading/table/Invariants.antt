-- `reading::table` is safe and ends: each line ends behind where it starts. Assumes nothing.
use Rattle.std.proofs.Common.{◌-◌, length}
use Rattle.records_tests.proofs.reading.table.Given as goal

abbrev pub invariant-loop-from : goal.invariant-loop-from
invariant-loop-from l = Unit {0}

abbrev pub decreases-loop-from : goal.decreases-loop-from
decreases-loop-from l = length l.input - l.from
