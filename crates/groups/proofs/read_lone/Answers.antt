-- `groups::read_lone` meets its contract. Assumes nothing.
use Rattle.answers.proofs.Groups.{length_taken, read_by}
use borrow.Author.Rules.{rules}
use Rattle.groups.proofs.read_lone.Goals as goal

pub slice_bounds-read_lone-end : goal.slice_bounds-read_lone-end
slice_bounds-read_lone-end c = length_taken _ _ _ c.roster_length-n.ensures

pub slice_bounds-read_lone-end-2 : goal.slice_bounds-read_lone-end-2
slice_bounds-read_lone-end-2 c = length_taken _ _ _ c.roster_length-m.ensures

pub returns : goal.returns
returns c =
    read_by _ _ _ _ _ c.roster_length-n.ensures c.roster_length-m.ensures _ _ c.read_lone.ensures
