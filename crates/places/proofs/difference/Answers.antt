-- `places::difference` meets its contract. Assumes nothing.
use Rattle.sets.proofs.Words.{has_difference}
use Rattle.places.proofs.difference.Goals as goal

pub returns : goal.returns
returns c = has_difference _ _
