-- `openings::with_second` meets its contract. Assumes nothing.
use borrow.Author.Rules.{rules}
use Rattle.calls.specs.Promises.{with_second}
use Rattle.openings.proofs.with_second.Goals as goal

pub returns : goal.returns
unfolding with_second
returns c = search rules
