-- `lookups::find_from` meets its contract. The invariant: looking from i on finds what looking from `from` on finds.
-- Assumes nothing.
use mathlib.Core.Path.{◌≡◌}
use Rattle.serials.specs.Rosters.{place_from}
use Rattle.lookups.proofs.find_from.Given as goal

abbrev pub invariant-loop-i : goal.invariant-loop-i
invariant-loop-i l = place_from l.from l.serial.0 l.roster ≡ place_from l.i l.serial.0 l.roster
