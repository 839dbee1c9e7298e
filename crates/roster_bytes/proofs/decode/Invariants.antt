-- `roster_bytes::decode` meets its contract. The invariant: the first i serials stand at the front of the list. Assumes nothing.
use mathlib.Core.Path.{◌≡◌}
use mathlib.Core.List.{◌++◌}
use lib.ListN.{drop}
use Rattle.layouts.specs.Records.{serials}
use Rattle.roster_bytes.proofs.decode.Given as goal

abbrev pub invariant-loop-i : goal.invariant-loop-i
invariant-loop-i l = l.list ≡ serials l.i (drop l.at l.bytes) ++ drop l.i l.initial.list
