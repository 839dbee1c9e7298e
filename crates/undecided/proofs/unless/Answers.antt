-- `answers::unless` meets its contract. Assumes nothing.
use Rattle.undecided.proofs.OpenPlaces.{unless_stays, unless_goes}
use Rattle.undecided.proofs.unless.Goals as goal

pub returns-then-stays : goal.returns-then-stays
returns-then-stays c = unless_stays _ _ _ c.if-stays.true

pub returns : goal.returns
returns c = unless_goes _ _ _ _ c.if-stays.false c.without.ensures
