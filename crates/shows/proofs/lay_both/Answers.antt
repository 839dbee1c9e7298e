-- `shows::lay_both` meets its contract. Assumes nothing.
use Rattle.answers.specs.Shows.{laid_in}
use borrow.Author.Rules.{rules}
use Rattle.shows.proofs.lay_both.Goals as goal

pub returns : goal.returns
unfolding laid_in
returns c =
    record { first_after = c.lay.ensures; second_after = c.lay-2.ensures }
