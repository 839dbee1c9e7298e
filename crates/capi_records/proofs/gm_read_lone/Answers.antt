-- `capi_records::gm_read_lone` meets its contract. Assumes nothing.
use borrow.Author.Rules.{rules}
use Rattle.capi_records.proofs.Readings.{told_same}
use Rattle.capi_records.proofs.gm_read_lone.Goals as goal

pub returns : goal.returns
returns c = record { value = (told_same _ _ _ _ _ c.read_lone-got.ensures (c.put_reading.ensures.value, c.put_reading.ensures.out_after)).0; out_after = (told_same _ _ _ _ _ c.read_lone-got.ensures (c.put_reading.ensures.value, c.put_reading.ensures.out_after)).1 }
