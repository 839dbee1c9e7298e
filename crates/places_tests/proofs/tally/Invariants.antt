-- `places_tests::tally` meets its contract: what was counted and what is left are together the set's count. Assumes nothing.
use mathlib.Core.Path.{◌≡◌}
use Prim.Native.Nat.{◌+◌}
use Rattle.sets.specs.Sets.{count}
use Rattle.sets.specs.PlaceSets.{has}
use Rattle.places_tests.proofs.tally.Given as goal

abbrev pub invariant-loop : goal.invariant-loop
invariant-loop l = l.n + count 128 (has l.iterator'.left) ≡ count 128 (has l.fn.s)
