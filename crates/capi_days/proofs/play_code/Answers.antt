-- `capi_days::play_code` meets its contract. Assumes nothing.
use Rattle.std.proofs.Common.{sym, ap}
use Rattle.boundary.specs.Days.{play_code}
use Rattle.capi_days.proofs.play_code.Goals as goal

pub returns-in-Ok : goal.returns-in-Ok
unfolding play_code
returns-in-Ok c = sym (ap play_code c.in-Ok.is)

pub returns-in-Err : goal.returns-in-Err
unfolding play_code
returns-in-Err c = sym (ap play_code c.in-Err.is)
