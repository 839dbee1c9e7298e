-- `day_records::heard` meets its contract. Assumes nothing.
use Rattle.day_records.proofs.Writes.{heard_is}
use Rattle.day_records.proofs.heard.Goals as goal

pub returns : goal.returns
returns c = heard_is _ _ _ _ _ _ c.below-all.ensures c.get-row.ensures c.intersection.ensures
