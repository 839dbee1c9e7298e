-- `places::intersection` meets its contract. Assumes nothing.
use Rattle.sets.proofs.Words.{has_intersection}
use Rattle.places.proofs.intersection.Goals as goal

pub returns : goal.returns
returns c = has_intersection _ _
