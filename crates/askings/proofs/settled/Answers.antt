-- `askings::settled` meets its contract. Assumes nothing.
use borrow.Author.Rules.{rules}
use Rattle.calls.specs.Promises.{size_of, accepted_of, settled_of}
use Rattle.askings.proofs.settled.Goals as goal

pub returns : goal.returns
unfolding settled_of size_of accepted_of
returns c = c.settled.ensures
