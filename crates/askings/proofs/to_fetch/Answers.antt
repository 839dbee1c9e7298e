-- `askings::to_fetch` meets its contract. Assumes nothing.
use borrow.Author.Rules.{rules}
use Rattle.answers.specs.Fetches.{fetching_by}
use Rattle.calls.specs.Promises.{size_of, accepted_of, blocking_of, fetching_of}
use Rattle.askings.proofs.to_fetch.Goals as goal

pub returns : goal.returns
unfolding fetching_of blocking_of size_of accepted_of fetching_by
returns c = c.to_fetch.ensures
