-- `standings::unmourned` meets its contract. Assumes nothing.
use Rattle.answers.proofs.Answers.{unmourned_is}
use Rattle.standings.proofs.unmourned.Goals as goal

pub returns : goal.returns
returns c = unmourned_is _ _ _ _ c.roster-all.ensures c.difference.ensures
