-- `readings::read_mourned` meets its contract. The invariant: reading the section from its front is reading it from the j-th serial
-- on, with the set and the lowest place so far. Assumes nothing.
use mathlib.Core.Path.{◌≡◌}
use Prim.Native.Nat.{◌+◌, ◌*◌, ◌≤◌}
use lib.ListN.{length, drop}
use Rattle.sets.specs.Sets.{nothing}
use Rattle.sets.specs.PlaceSets.{has, Words}
use Rattle.serials.specs.Seconds.{counts_as}
use Rattle.layouts.specs.Layout.{mourned_serials}
use Rattle.readings.proofs.Mournings.{onwards}
use Rattle.readings.proofs.read_mourned.Given as goal

abbrev pub invariant-loop-j : goal.invariant-loop-j
invariant-loop-j l =
    (l.at + l.j * 4 ≤ length l.bytes) × (l.from ≤ length l.roster) × Words l.set
    × (mourned_serials (counts_as l.firsts l.seconds) l.m l.roster 0 nothing (drop l.at l.bytes) ≡ onwards (counts_as l.firsts l.seconds) l.bytes l.at l.m l.roster l.j l.from (has l.set))
