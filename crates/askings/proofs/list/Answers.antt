-- `askings::list` meets its contract. Assumes nothing.
use borrow.Author.Rules.{rules}
use Rattle.calls.specs.Promises.{size_of, accepted_of, listed_of}
use Rattle.askings.proofs.list.Goals as goal

pub returns : goal.returns
unfolding listed_of size_of accepted_of
returns c = record { value = c.list.ensures.value; out_after = c.list.ensures.out_after }
