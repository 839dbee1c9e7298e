-- `undecided::free_among` meets its contract. Assumes nothing.
use Rattle.sets.specs.PlaceSets.{has}
use Rattle.answers.specs.Views.{size, recorded_in}
use Rattle.undecided.proofs.OpenPlaces.{Sorting}
use Rattle.undecided.proofs.free_among.Given as goal

abbrev pub invariant-loop-p : goal.invariant-loop-p
invariant-loop-p l = Sorting (size l.count) (recorded_in l.count (has l.returned) l.rows) l.fn.asked l.rest l.p-iterator.left l.free l.known
