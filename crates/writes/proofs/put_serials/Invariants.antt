-- `writes::put_serials` meets its contract. The invariant: the bytes of the first i serials stand at the front. Assumes nothing.
use mathlib.Core.Path.{◌≡◌}
use lib.ListN.{take}
use Rattle.layouts.specs.Layout.{serials_bytes}
use Rattle.layouts.specs.Fronts.{front}
use Rattle.writes.proofs.put_serials.Given as goal

abbrev pub invariant-loop-i : goal.invariant-loop-i
invariant-loop-i l = l.out ≡ front (serials_bytes (take l.i l.list)) l.initial.out
