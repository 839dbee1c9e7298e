-- `capi_days::day_of` meets its contract. Assumes nothing.
use Rattle.boundary.specs.Days.{day_of}
use Rattle.capi_days.proofs.day_of.Goals as goal

pub returns : goal.returns
unfolding day_of
returns c = c.day_in.ensures
