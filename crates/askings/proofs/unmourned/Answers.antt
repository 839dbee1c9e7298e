-- `askings::unmourned` meets its contract. Assumes nothing.
use borrow.Author.Rules.{rules}
use Rattle.calls.specs.Promises.{size_of, accepted_of, unmourned_of}
use Rattle.askings.proofs.unmourned.Goals as goal

pub returns : goal.returns
unfolding unmourned_of size_of accepted_of
returns c = c.unmourned.ensures
