-- `places::without` meets its contract. Assumes nothing.
use Rattle.sets.proofs.Laws.{difference_only}
use Rattle.places.proofs.without.Goals as goal

pub returns : goal.returns
returns c = difference_only _ _ _ _ c.only-one.ensures c.difference.ensures
