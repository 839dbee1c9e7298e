-- What is played of all the events is what is played of those that are left, after what has been played. Assumes nothing.
use mathlib.Core.Path.{◌≡◌}
use lib.ListN.{drop}
use Rattle.executions.specs.Promises.{played, played_from}
use Rattle.day_plays.proofs.play.Given as goal

abbrev pub invariant-loop-e : goal.invariant-loop-e
invariant-loop-e l = played l.fn.d l.events ≡ played_from l.p (drop l.e-index l.events)
