-- `openings::find` meets its contract. Assumes nothing.
use borrow.Author.Rules.{rules}
use Rattle.answers.specs.Groups.{alias_in, found_among}
use Rattle.calls.specs.Promises.{size_of, roster_of, seconds_of, alias_of, found_in}
use Rattle.openings.proofs.find.Goals as goal

pub returns : goal.returns
unfolding found_among alias_in found_in alias_of roster_of seconds_of size_of
returns c = c.find.ensures
