-- What is played of all the events is what is played of those that are left, after what has been played. Assumes nothing.
use mathlib.Core.Path.{◌≡◌}
use lib.ListN.{drop}
use Rattle.boundary.specs.Days.{played_now}
use Rattle.capi_days.proofs.Plays.{played_from_now}
use Rattle.capi_days.proofs.gm_day_play.Given as goal

abbrev pub invariant-loop-e : goal.invariant-loop-e
invariant-loop-e l = played_now l.fn.day l.events ≡ played_from_now l.p (drop l.e-index l.events)
