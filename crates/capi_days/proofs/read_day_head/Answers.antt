-- `capi_days::read_day_head` meets its contract. Assumes nothing.
use mathlib.Core.Path.{refl}
use Rattle.boundary.specs.Words.{set_at}
use Rattle.boundary.specs.Days.{kind_in, stopped_in}
use Rattle.capi_days.proofs.read_day_head.Goals as goal

pub returns : goal.returns
unfolding kind_in stopped_in set_at
returns c = record { kind_value = c.kind_of.ensures; count_value = refl; stopped_value = refl }
