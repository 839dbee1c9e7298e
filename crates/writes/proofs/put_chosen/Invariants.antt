-- `writes::put_chosen` meets its contract. The invariant: the bytes of those of the first i that are chosen stand at the front, p of
-- them. Assumes nothing.
use mathlib.Core.Path.{◌≡◌}
use Prim.Native.Nat.{◌≤◌}
use lib.ListN.{length, take}
use Rattle.sets.specs.PlaceSets.{has}
use Rattle.layouts.specs.Layout.{serials_bytes, chosen}
use Rattle.layouts.specs.Fronts.{front}
use Rattle.writes.proofs.put_chosen.Given as goal

abbrev pub invariant-loop-i : goal.invariant-loop-i
invariant-loop-i l =
    (l.p ≡ length (serials_bytes (chosen (has l.set) (take l.i l.roster)))) × (l.p ≤ length l.out)
    × (l.out ≡ front (serials_bytes (chosen (has l.set) (take l.i l.roster))) l.initial.out)
