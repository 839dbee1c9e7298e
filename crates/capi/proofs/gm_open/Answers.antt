-- `capi::gm_open` meets its contract. Assumes nothing.
use Rattle.refusals.proofs.Numbers.{as_numbered}
use Rattle.std.specs.Prelude.{Option, Some, None, Result, Ok, Err}
use borrow.Author.Rules.{rules}
use Rattle.capi.proofs.Opens.{opens_done, opens_refused}
use Rattle.capi.proofs.gm_open.Goals as goal

pub returns-in-Ok : goal.returns-in-Ok
returns-in-Ok c = record { value = (opens_done _ _ _ _ _ _ c.open-opened.ensures c.in-Ok.is _ c.write_head.ensures).0; head_after = (opens_done _ _ _ _ _ _ c.open-opened.ensures c.in-Ok.is _ c.write_head.ensures).1.0; serials_after = (opens_done _ _ _ _ _ _ c.open-opened.ensures c.in-Ok.is _ c.write_head.ensures).1.1.0; seconds_after = (opens_done _ _ _ _ _ _ c.open-opened.ensures c.in-Ok.is _ c.write_head.ensures).1.1.1.0; rows_after = (opens_done _ _ _ _ _ _ c.open-opened.ensures c.in-Ok.is _ c.write_head.ensures).1.1.1.1 }

pub returns-in-Err : goal.returns-in-Err
returns-in-Err c = record { value = (opens_refused _ _ _ _ _ _ c.open-opened.ensures _ _ (as_numbered _) c.in-Err.is).0; head_after = (opens_refused _ _ _ _ _ _ c.open-opened.ensures _ _ (as_numbered _) c.in-Err.is).1.0; serials_after = (opens_refused _ _ _ _ _ _ c.open-opened.ensures _ _ (as_numbered _) c.in-Err.is).1.1.0; seconds_after = (opens_refused _ _ _ _ _ _ c.open-opened.ensures _ _ (as_numbered _) c.in-Err.is).1.1.1.0; rows_after = (opens_refused _ _ _ _ _ _ c.open-opened.ensures _ _ (as_numbered _) c.in-Err.is).1.1.1.1 }
