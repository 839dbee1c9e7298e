-- `capi_days::done_code` meets its contract. Assumes nothing.
use Rattle.std.proofs.Common.{sym, ap, ◌∙◌}
use Rattle.refusals.proofs.Numbers.{as_numbered}
use Rattle.boundary.specs.Days.{done_code}
use Rattle.capi_days.proofs.done_code.Goals as goal

pub returns-in-Ok : goal.returns-in-Ok
unfolding done_code
returns-in-Ok c = sym (ap done_code c.in-Ok.is)

pub returns-in-Err : goal.returns-in-Err
unfolding done_code
returns-in-Err c = as_numbered c.in-Err.refusal ∙ sym (ap done_code c.in-Err.is)
