-- `words::end_of` meets its contract. Assumes nothing.
use mathlib.Core.Path.{sym, ap}
use borrow.Author.Rules.{rules}
use Rattle.boundary.specs.Words.{end_of}
use Rattle.words.proofs.end_of.Goals as goal

pub returns-in-Ok : goal.returns-in-Ok
unfolding end_of
returns-in-Ok c = sym (ap end_of c.in-Ok.is)

pub returns-in-Err : goal.returns-in-Err
unfolding end_of
returns-in-Err c = sym (ap end_of c.in-Err.is)
