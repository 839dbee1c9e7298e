-- `capi_records::gm_read_desk` meets its contract. Assumes nothing.
use Rattle.refusals.proofs.Numbers.{as_numbered}
use Rattle.capi_records.proofs.Readings.{sighted_seen, sighted_refused}
use Rattle.capi_records.proofs.gm_read_desk.Goals as goal

pub returns-in-Err : goal.returns-in-Err
returns-in-Err c =
    let w = sighted_refused _ c.args.bytes.now c.args.out.now _ c.read_desk.ensures.value _ _ (as_numbered _) c.in-Err.is in
    record { value = w.0; out_after = w.1.0; bytes_after = w.1.1 }

pub returns-in-Ok : goal.returns-in-Ok
returns-in-Ok c =
    let w = sighted_seen _ c.args.bytes.now c.args.out.now _ c.read_desk.ensures.value _ _ _ c.in-Ok.is c.read_desk.ensures.roster_after c.kind_word-word.ensures in
    record { value = w.0; out_after = w.1.0; bytes_after = w.1.1 }
