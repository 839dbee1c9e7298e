-- `lists::at_home` is safe: the count is at most the places passed. Assumes nothing.
use Rattle.std.proofs.Common.{◌≤◌}
use Rattle.records_tests.proofs.lists.at_home.Given as goal

abbrev pub invariant-loop-i : goal.invariant-loop-i
invariant-loop-i l = l.n ≤ l.i
