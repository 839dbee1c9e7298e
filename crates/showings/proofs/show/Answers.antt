-- `showings::show` meets its contract. Assumes nothing.
use borrow.Author.Rules.{rules}
use Rattle.calls.specs.Promises.{size_of, accepted_of, shown}
use Rattle.showings.proofs.show.Goals as goal

pub returns : goal.returns
unfolding shown size_of accepted_of
returns c = record { value = c.show.ensures.value; first_after = c.show.ensures.first_after; second_after = c.show.ensures.second_after }
