-- `replies::enter` meets its contract. Assumes nothing.
use mathlib.Core.Path.{sym, ◌∙◌}
use borrow.Author.Rules.{rules}
use Rattle.answers.proofs.Replies.{entering_back, entering_new, back_at}
use Rattle.replies.proofs.enter.Goals as goal

pub again-requires : goal.again-requires
again-requires c =
    back_at _ _ _ _ _ _ _ _ _ c.below-all.ensures c.intersection-back.ensures c.contains.ensures c.if-contains.true

pub returns-then-contains : goal.returns-then-contains
returns-then-contains c = c.again.ensures ∙ entering_back _ _ _ _ _ _ _ (back_at _ _ _ _ _ _ _ _ _ c.below-all.ensures c.intersection-back.ensures c.contains.ensures c.if-contains.true)

pub returns-then-accepts : goal.returns-then-accepts
returns-then-accepts c = entering_new _ _ _ _ _ _ _ (back_at _ _ _ _ _ _ _ _ _ c.below-all.ensures c.intersection-back.ensures c.contains.ensures c.if-contains.false) _ (sym c.accepts.ensures ∙ c.if-accepts.true)

pub returns : goal.returns
returns c = entering_new _ _ _ _ _ _ _ (back_at _ _ _ _ _ _ _ _ _ c.below-all.ensures c.intersection-back.ensures c.contains.ensures c.if-contains.false) _ (sym c.accepts.ensures ∙ c.if-accepts.false)
