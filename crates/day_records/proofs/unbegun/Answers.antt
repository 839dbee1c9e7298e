-- `day_records::unbegun` meets its contract. Assumes nothing.
use Rattle.executions.proofs.Gives.{unbegun_is}
use Rattle.day_records.proofs.unbegun.Goals as goal

pub returns : goal.returns
returns c = unbegun_is _ _ c.starting-day.ensures
