-- `capi_days::write_stopped` meets its contract. Assumes nothing.
use mathlib.Core.Path.{refl}
use Rattle.boundary.specs.Days.{with_stopped}
use Rattle.capi_days.proofs.write_stopped.Goals as goal

pub returns : goal.returns
unfolding with_stopped
returns c = refl
