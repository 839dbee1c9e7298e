-- `capi_records::put_reading` meets its contract. Assumes nothing.
use Rattle.refusals.proofs.Numbers.{as_numbered}
use Rattle.capi_records.proofs.Readings.{told_read, told_refused}
use Rattle.capi_records.proofs.put_reading.Goals as goal

pub returns-in-Ok : goal.returns-in-Ok
returns-in-Ok c = let w = told_read _ c.args.out.now _ _ c.in-Ok.is c.kind_word-word.ensures in record { value = w.0; out_after = w.1 }

pub returns-in-Err : goal.returns-in-Err
returns-in-Err c = let w = told_refused _ c.args.out.now _ _ (as_numbered _) c.in-Err.is in record { value = w.0; out_after = w.1 }
