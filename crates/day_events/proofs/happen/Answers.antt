-- `day_events::happen` meets its contract. Assumes nothing.
use mathlib.Core.Path.{◌∙◌}
use Rattle.day_events.proofs.Faults.{fault_of_lem}
use Rattle.executions.proofs.Gives.{happened_refused, happened_allowed}
use Rattle.day_events.proofs.happen.Goals as goal

pub returns-in-Ok : goal.returns-in-Ok
returns-in-Ok c = happened_allowed _ _ _ _ (c.fault.ensures ∙ fault_of_lem _ _ _ c.size-n.ensures.value) c.in-Ok.is c.day_after.ensures

pub returns-in-Err : goal.returns-in-Err
returns-in-Err c = happened_refused _ _ _ _ (c.fault.ensures ∙ fault_of_lem _ _ _ c.size-n.ensures.value) c.in-Err.is
