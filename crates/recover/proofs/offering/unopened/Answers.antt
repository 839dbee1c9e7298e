-- `offering::unopened` meets its contract. Assumes nothing.
use mathlib.Core.Path.{refl}
use Rattle.recover.proofs.Readings.{unopened_is}
use Rattle.recover.proofs.offering.unopened.Goals as goal

pub returns : goal.returns
returns c = unopened_is _ _ refl c.open-refused.ensures
