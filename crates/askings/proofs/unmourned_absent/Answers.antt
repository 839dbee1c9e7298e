-- `askings::unmourned_absent` meets its contract. Assumes nothing.
use borrow.Author.Rules.{rules}
use Rattle.calls.proofs.Gives.{absent_set}
use Rattle.askings.proofs.unmourned_absent.Goals as goal

pub returns : goal.returns
returns c = absent_set _ _ _ c.unmourned-all.ensures c.difference.ensures
