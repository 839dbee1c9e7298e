-- `crew` and `hill` call one another: each call has fewer places absent, or is the hill's after the crew's. The crew's loop keeps the least of the places that it looked
-- at, the hill's the greatest of the records that it tried. Assumes nothing.
use mathlib.Core.Path.{◌≡◌}
use Prim.Native.Nat.{◌*◌, ◌-◌}
use Rattle.games.specs.Games.{absent_count, greatest}
use Rattle.games.proofs.Turns.{Choosing, lasts}
use Rattle.minimax.proofs.+crew_hill.Given as goal

abbrev pub decreases-crew : goal.decreases-crew
decreases-crew l = 2 * absent_count l.r

abbrev pub decreases-hill : goal.decreases-hill
decreases-hill l = 2 * absent_count l.r - 1

abbrev pub invariant-crew-loop-p : goal.invariant-crew-loop-p
invariant-crew-loop-p l = Choosing l.r l.p-iterator.left l.best

abbrev pub invariant-hill-loop-number : goal.invariant-hill-loop-number
invariant-hill-loop-number l = l.most ≡ greatest l.number (lasts l.r l.place.0)
