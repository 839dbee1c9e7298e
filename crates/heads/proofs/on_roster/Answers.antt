-- `heads::on_roster` meets its contract. Assumes nothing.
use borrow.Author.Rules.{rules}
use Rattle.layouts.proofs.Heads.{own_lost, own_found}
use Rattle.heads.proofs.on_roster.Goals as goal

pub returns-in_default : goal.returns-in_default
returns-in_default c = own_lost _ _ _ _ _ _ _ c.locate.ensures c.in_default.is

pub returns : goal.returns
returns c = own_found _ _ _ _ _ _ _ c.locate.ensures _ c.in-Some.is
