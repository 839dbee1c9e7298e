-- `readings::read_lone` meets its contract: one law for each answer. Assumes nothing.
use Rattle.std.specs.Prelude.{Option, Some, None, Result, Ok, Err}
use mathlib.Core.Path.{sym, ◌∙◌}
use Rattle.refusals.proofs.Outcomes.{passed}
use Rattle.layouts.proofs.Readings.{lone_refused, lone_more, lone_read}
use Rattle.readings.proofs.read_lone.Goals as goal

pub returns-in_err-first : goal.returns-in_err-first
returns-in_err-first c = passed _ _ c.from_residual.ensures.1 ∙ lone_refused _ _ _ (sym c.read.ensures ∙ c.in_err-first.was)

pub returns-then-first-bytes : goal.returns-then-first-bytes
returns-then-first-bytes c = lone_more _ _ _ (sym c.read.ensures ∙ c.in_ok-first.was) c.if-first-bytes.true

pub returns : goal.returns
returns c = lone_read _ _ _ (sym c.read.ensures ∙ c.in_ok-first.was) c.if-first-bytes.false
