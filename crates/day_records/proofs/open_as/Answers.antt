-- `day_records::open_as` meets its contract. Assumes nothing.
use mathlib.Core.Path.{sym, ◌∙◌}
use Rattle.serials.proofs.Rosters.{listed_sound}
use Rattle.executions.proofs.Gives.{begun_sound, begun_refused}
use Rattle.day_records.proofs.open_as.Goals as goal

pub starting-day-requires : goal.starting-day-requires
starting-day-requires c = ((listed_sound _).0 (sym c.check.ensures ∙ c.in-Ok.is)).few

pub returns-in-Ok : goal.returns-in-Ok
returns-in-Ok c = begun_sound _ _ _ _ c.check.ensures c.in-Ok.is c.starting-day.ensures

pub returns-in-Err : goal.returns-in-Err
returns-in-Err c = c.unbegun.ensures ∙ begun_refused _ _ _ _ c.check.ensures c.in-Err.is
