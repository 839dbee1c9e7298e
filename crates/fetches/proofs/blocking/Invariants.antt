-- `fetches::blocking` meets its contract. Assumes nothing.
use Rattle.sets.specs.PlaceSets.{has}
use Rattle.answers.specs.Views.{size, accepted_in}
use Rattle.answers.proofs.Gathering.{Gathered}
use Rattle.fetches.proofs.blocking.Given as goal

abbrev pub invariant-loop-p : goal.invariant-loop-p
invariant-loop-p l = Gathered (size l.count) (accepted_in l.count (has l.returned) (has l.full) l.rows) (has l.mourned) (has l.earlier) l.initial.p-iterator.left l.p-iterator.left l.known
