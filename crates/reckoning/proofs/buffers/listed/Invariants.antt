-- `buffers::listed` is safe and ends. Assumes nothing.
use Rattle.std.proofs.Common.{◌-◌, length}
use Rattle.reckoning.proofs.buffers.listed.Given as goal

abbrev pub invariant-loop-i : goal.invariant-loop-i
invariant-loop-i l = Unit {0}

abbrev pub decreases-loop-i : goal.decreases-loop-i
decreases-loop-i l = length l.list - l.i
