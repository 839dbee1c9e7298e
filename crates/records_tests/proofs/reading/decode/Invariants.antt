-- `reading::decode` is safe: no more bytes than digits, and the buffer keeps its length. Assumes nothing.
use Rattle.std.proofs.Common.{◌≡◌, ◌≤◌, length}
use Rattle.records_tests.proofs.reading.decode.Given as goal

abbrev pub invariant-loop-c : goal.invariant-loop-c
invariant-loop-c l = (l.n ≤ l.c-index) × (length l.out ≡ length l.initial.out)
