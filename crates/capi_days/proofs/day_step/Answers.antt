-- `capi_days::day_step` meets its contract. Assumes nothing.
use Rattle.boundary.specs.Days.{event_of}
use Rattle.capi_days.proofs.Plays.{step_refused, step_on}
use Rattle.capi_days.proofs.day_step.Goals as goal

pub returns-then-p-ne0 : goal.returns-then-p-ne0
returns-then-p-ne0 c = step_refused _ _ c.if-p-ne0.true

pub returns : goal.returns
unfolding event_of
returns c =
    step_on _ _ _ _ _ _ _ c.if-p-ne0.false c.day_of-day.ensures c.kind_byte-kind.ensures c.step-played.ensures c.day_now-day.ensures c.play_code.ensures
