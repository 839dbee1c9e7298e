-- `bytes` is safe: no more bytes than digits. Assumes nothing.
use Rattle.std.proofs.Common.{◌≤◌}
use Rattle.scripts.proofs.bytes.Given as goal

abbrev pub invariant-loop-c : goal.invariant-loop-c
invariant-loop-c l = l.n ≤ l.c-index
