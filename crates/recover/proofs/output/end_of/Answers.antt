-- `output::end_of` meets its contract. Assumes nothing.
use Rattle.std.specs.Prelude.{Option, Some, None, Result, Ok, Err}
use Rattle.recover.specs.Gathered.{end_of}
use Rattle.recover.proofs.output.end_of.Goals as goal

pub returns-in-Ok : goal.returns-in-Ok
unfolding end_of
returns-in-Ok c = rw c.in-Ok.is

pub returns-in-Err : goal.returns-in-Err
unfolding end_of
returns-in-Err c = rw c.in-Err.is
