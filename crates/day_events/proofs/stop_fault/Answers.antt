-- `day_events::stop_fault` meets its contract. Assumes nothing.
use mathlib.Core.Path.{sym, ◌∙◌}
use Rattle.day_events.proofs.Faults.{stop_off, stop_stopped, stop_free}
use Rattle.day_events.proofs.stop_fault.Goals as goal

pub returns-then-n-place : goal.returns-then-n-place
returns-then-n-place c = stop_off _ _ _ c.if-n-place.true

pub returns-then-contains : goal.returns-then-contains
returns-then-contains c = stop_stopped _ _ _ c.if-n-place.false (sym c.contains.ensures ∙ c.if-contains.true)

pub returns : goal.returns
returns c = stop_free _ _ _ c.if-n-place.false (sym c.contains.ensures ∙ c.if-contains.false)
