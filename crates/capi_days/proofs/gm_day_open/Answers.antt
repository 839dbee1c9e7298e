-- `capi_days::gm_day_open` meets its contract. Assumes nothing.
use Rattle.refusals.proofs.Numbers.{as_numbered}
use Rattle.capi_days.proofs.Opens.{begins_done, begins_refused}
use Rattle.capi_days.proofs.gm_day_open.Goals as goal

pub returns-in-Ok : goal.returns-in-Ok
returns-in-Ok c = record { value = (begins_done _ _ _ _ _ _ c.open-begun.ensures c.in-Ok.is _ c.write_day_head.ensures).0; head_after = (begins_done _ _ _ _ _ _ c.open-begun.ensures c.in-Ok.is _ c.write_day_head.ensures).1.0; serials_after = (begins_done _ _ _ _ _ _ c.open-begun.ensures c.in-Ok.is _ c.write_day_head.ensures).1.1.0; rows_after = (begins_done _ _ _ _ _ _ c.open-begun.ensures c.in-Ok.is _ c.write_day_head.ensures).1.1.1 }

pub returns-in-Err : goal.returns-in-Err
returns-in-Err c = record { value = (begins_refused _ _ _ _ _ _ c.open-begun.ensures _ _ (as_numbered _) c.in-Err.is).0; head_after = (begins_refused _ _ _ _ _ _ c.open-begun.ensures _ _ (as_numbered _) c.in-Err.is).1.0; serials_after = (begins_refused _ _ _ _ _ _ c.open-begun.ensures _ _ (as_numbered _) c.in-Err.is).1.1.0; rows_after = (begins_refused _ _ _ _ _ _ c.open-begun.ensures _ _ (as_numbered _) c.in-Err.is).1.1.1 }
