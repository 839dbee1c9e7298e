-- `desk::cuts` is safe: the count is at most the cuts passed. Assumes nothing.
use Rattle.std.proofs.Common.{◌≤◌}
use Rattle.records_tests.proofs.desk.cuts.Given as goal

abbrev pub invariant-loop-k : goal.invariant-loop-k
invariant-loop-k l = l.n ≤ l.k
