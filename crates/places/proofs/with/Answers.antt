-- `places::with` meets its contract. Assumes nothing.
use Rattle.sets.proofs.Laws.{union_only}
use Rattle.places.proofs.with.Goals as goal

pub returns : goal.returns
returns c = union_only _ _ _ _ c.only-one.ensures c.union.ensures
