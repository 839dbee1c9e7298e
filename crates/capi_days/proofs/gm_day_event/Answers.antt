-- `capi_days::gm_day_event` meets its contract. Assumes nothing.
use Rattle.boundary.specs.Days.{event_of}
use Rattle.capi_days.proofs.Days.{event_is}
use Rattle.capi_days.proofs.gm_day_event.Goals as goal

pub returns : goal.returns
unfolding event_of
returns c = record { value = (event_is _ _ _ _ _ _ _ _ c.day_in-before.ensures c.happen-happened.ensures c.write_stopped.ensures c.done_code.ensures).0; head_after = (event_is _ _ _ _ _ _ _ _ c.day_in-before.ensures c.happen-happened.ensures c.write_stopped.ensures c.done_code.ensures).1.0; rows_after = (event_is _ _ _ _ _ _ _ _ c.day_in-before.ensures c.happen-happened.ensures c.write_stopped.ensures c.done_code.ensures).1.1 }
