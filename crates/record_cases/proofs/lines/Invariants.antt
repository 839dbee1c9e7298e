-- `lines` is safe and ends. Assumes nothing.
use Rattle.std.proofs.Common.{◌+◌, ◌-◌, ◌≤◌, length}
use Rattle.record_cases.proofs.lines.Given as goal

abbrev pub invariant-loop-from : goal.invariant-loop-from
invariant-loop-from l = l.from ≤ length l.input + 1

abbrev pub decreases-loop-from : goal.decreases-loop-from
decreases-loop-from l = length l.input + 1 - l.from
