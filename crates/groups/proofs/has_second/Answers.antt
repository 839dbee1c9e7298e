-- `groups::has_second` meets its contract. Assumes nothing.
use borrow.Author.Rules.{rules}
use Rattle.answers.proofs.Groups.{second_past}
use Rattle.groups.proofs.has_second.Goals as goal

pub returns-then-seconds-p : goal.returns-then-seconds-p
returns-then-seconds-p c = second_past c.args.seconds.now _ c.if-seconds-p.true
