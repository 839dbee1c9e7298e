-- `capi_days::write_day_head` meets its contract. Assumes nothing.
use Rattle.boundary.specs.Days.{day_head_of}
use Rattle.capi_days.proofs.write_day_head.Goals as goal

pub returns : goal.returns
unfolding day_head_of
returns c = rw c.kind_word-word.ensures
