-- `askings::unmourned_count` meets its contract. Assumes nothing.
use borrow.Author.Rules.{rules}
use Rattle.calls.proofs.Gives.{count_set}
use Rattle.askings.proofs.unmourned_count.Goals as goal

pub returns : goal.returns
returns c = count_set _ _ _ c.unmourned-all.ensures c.count.ensures
