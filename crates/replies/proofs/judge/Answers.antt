-- `replies::judge` meets its contract. Assumes nothing.
use mathlib.Core.Path.{sym, ◌∙◌}
use borrow.Author.Tests.{not-true, not-false}
use Rattle.answers.proofs.Groups.{take_roster, length_taken}
use Rattle.answers.proofs.Replies.{judged_roster, judged_entering}
use borrow.Author.Rules.{rules}
use Rattle.replies.proofs.judge.Goals as goal

pub slice_bounds-roster_is-end : goal.slice_bounds-roster_is-end
slice_bounds-roster_is-end c = length_taken _ _ _ c.roster_length-n.ensures

pub returns-then-not-roster_is : goal.returns-then-not-roster_is
returns-then-not-roster_is c = judged_roster _ _ _ _ _ _ _ _ (take_roster _ _ _ c.roster_length-n.ensures) (sym c.roster_is.ensures ∙ c.if-not-roster_is.true)

pub returns : goal.returns
returns c =
    c.enter.ensures ∙ judged_entering _ _ _ _ _ _ _ _ (take_roster _ _ _ c.roster_length-n.ensures) (sym c.roster_is.ensures ∙ c.if-not-roster_is.false)
