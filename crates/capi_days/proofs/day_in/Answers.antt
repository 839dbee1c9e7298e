-- `capi_days::day_in` meets its contract. Assumes nothing.
use Rattle.capi_days.proofs.Days.{day_is}
use Rattle.capi_days.proofs.day_in.Goals as goal

pub returns : goal.returns
returns c = day_is _ _ (c.read_day_head-h.ensures.kind_value, (c.read_day_head-h.ensures.count_value, c.read_day_head-h.ensures.stopped_value)) _ _
