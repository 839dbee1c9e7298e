-- `lookups::find` meets its contract. The invariant: the serial's place is p and its place in what is left. Assumes nothing.
use mathlib.Core.Path.{◌≡◌}
use Prim.Native.Nat.{◌+◌}
use lib.ListN.{drop}
use Rattle.serials.specs.Rosters.{place_of}
use Rattle.lookups.proofs.find.Given as goal

abbrev pub invariant-loop-p : goal.invariant-loop-p
invariant-loop-p l = place_of l.serial.0 l.roster ≡ l.p + place_of l.serial.0 (drop l.p l.roster)
