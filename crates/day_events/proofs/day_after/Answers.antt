-- `day_events::day_after` meets its contract. Assumes nothing.
use mathlib.Core.Path.{sym, ◌∙◌}
use Rattle.executions.proofs.Days.{after_stop_lem, after_other}
use Rattle.day_events.proofs.day_after.Goals as goal

pub returns-then-e-eq1 : goal.returns-then-e-eq1
returns-then-e-eq1 c = c.stopping.ensures ∙ sym (after_stop_lem _ _ c.if-e-eq1.true)

pub returns : goal.returns
returns c = c.hearing.ensures ∙ sym (after_other _ _ c.if-e-eq1.false)
