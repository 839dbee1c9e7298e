-- `words::yes_code` meets its contract. Assumes nothing.
use borrow.Author.Rules.{rules}
use Rattle.boundary.specs.Words.{yes_code}
use Rattle.words.proofs.yes_code.Goals as goal

pub returns : goal.returns
unfolding yes_code
returns c = search rules
