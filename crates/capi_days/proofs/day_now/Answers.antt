-- `capi_days::day_now` meets its contract. Assumes nothing.
use Rattle.boundary.specs.Days.{day_now}
use Rattle.capi_days.proofs.day_now.Goals as goal

pub returns : goal.returns
unfolding day_now
returns c = rw c.write_stopped.ensures
