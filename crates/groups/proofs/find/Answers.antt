-- `groups::find` meets its contract. Assumes nothing.
use Rattle.answers.proofs.Groups.{length_taken, found_by}
use borrow.Author.Rules.{rules}
use Rattle.groups.proofs.find.Goals as goal

pub slice_bounds-look_up-end : goal.slice_bounds-look_up-end
slice_bounds-look_up-end c = length_taken _ _ _ c.roster_length-n.ensures

pub slice_bounds-look_up-end-2 : goal.slice_bounds-look_up-end-2
slice_bounds-look_up-end-2 c = length_taken _ _ _ c.roster_length-n.ensures

pub slice_bounds-look_up-end-3 : goal.slice_bounds-look_up-end-3
slice_bounds-look_up-end-3 c = length_taken _ _ _ c.roster_length-m.ensures

pub returns : goal.returns
returns c =
    found_by _ _ _ _ _ c.roster_length-n.ensures c.roster_length-m.ensures _ _ c.look_up.ensures
