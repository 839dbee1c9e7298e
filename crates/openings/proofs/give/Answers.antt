-- `openings::give` meets its contract. Assumes nothing.
use Rattle.std.specs.Prelude.{Option, Some, None, Result, Ok, Err}
use borrow.Author.Rules.{rules}
use Rattle.calls.proofs.Gives.{gave_given, gave_refused, gave_on}
use Rattle.openings.proofs.give.Goals as goal

pub with_second-swapped-requires : goal.with_second-swapped-requires
with_second-swapped-requires c = gave_on _ _ _ _ _ _ c.may_give-answer.ensures c.in-Ok.is

pub returns-in-Ok : goal.returns-in-Ok
returns-in-Ok c = gave_given _ _ _ _ c.may_give-answer.ensures _ c.in-Ok.is c.with_second-swapped.ensures

pub returns-in-Err : goal.returns-in-Err
returns-in-Err c = gave_refused _ _ _ _ c.may_give-answer.ensures _ c.in-Err.is
