-- `groups::roster_length` meets its contract. Assumes nothing.
use Rattle.answers.proofs.Groups.{length_size, length_there}
use borrow.Author.Rules.{rules}
use Rattle.groups.proofs.roster_length.Goals as goal

pub returns-then-n-serials : goal.returns-then-n-serials
returns-then-n-serials c = length_size _ _ _ c.size-n.ensures.value c.if-n-serials.true

pub returns : goal.returns
returns c = length_there _ _ _ c.size-n.ensures.value c.if-n-serials.false
