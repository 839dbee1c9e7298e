-- `day_events::hear_fault` meets its contract. Assumes nothing.
use mathlib.Core.Path.{sym, ◌∙◌}
use Rattle.day_events.proofs.Faults.{hear_off, hear_other_off, hear_stopped, hear_runs, hear_free}
use Rattle.day_events.proofs.hear_fault.Goals as goal

pub returns-then-n-place : goal.returns-then-n-place
returns-then-n-place c = hear_off _ _ _ _ c.if-n-place.true

pub returns-then-n-other : goal.returns-then-n-other
returns-then-n-other c = hear_other_off _ _ _ _ c.if-n-place.false c.if-n-other.true

pub returns-then-contains : goal.returns-then-contains
returns-then-contains c =
    hear_stopped _ _ _ _ c.if-n-place.false c.if-n-other.false (sym c.contains.ensures ∙ c.if-contains.true)

pub returns-then-contains-2 : goal.returns-then-contains-2
returns-then-contains-2 c =
    hear_free _ _ _ _ c.if-n-place.false c.if-n-other.false (sym c.contains.ensures ∙ c.if-contains.false) (sym c.contains-2.ensures ∙ c.if-contains-2.true)

pub returns : goal.returns
returns c =
    hear_runs _ _ _ _ c.if-n-place.false c.if-n-other.false (sym c.contains.ensures ∙ c.if-contains.false) (sym c.contains-2.ensures ∙ c.if-contains-2.false)
