-- `places::empty` meets its contract. Assumes nothing.
use mathlib.Core.Path.{refl}
use Rattle.sets.proofs.Words.{has_none}
use Rattle.places.proofs.empty.Goals as goal

pub returns : goal.returns
returns c = has_none _ refl refl
