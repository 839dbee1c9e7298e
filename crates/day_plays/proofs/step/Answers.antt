-- `day_plays::step` meets its contract. Assumes nothing.
use mathlib.Core.Path.{sym, ◌∙◌}
use Rattle.executions.proofs.Gives.{stepped_refused, stepped_on}
use Rattle.day_plays.proofs.step.Goals as goal

pub returns-then-is_err : goal.returns-then-is_err
returns-then-is_err c = stepped_refused _ _ (sym c.is_err.ensures.value ∙ c.if-is_err.true)

pub returns : goal.returns
returns c = stepped_on _ _ _ _ (sym c.is_err.ensures.value ∙ c.if-is_err.false) c.happen-next.ensures c.counted.ensures
