-- `places::union` meets its contract. Assumes nothing.
use Rattle.sets.proofs.Words.{has_union}
use Rattle.places.proofs.union.Goals as goal

pub returns : goal.returns
returns c = has_union _ _
