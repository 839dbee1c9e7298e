-- `answers::blocked` meets its contract. Assumes nothing.
use mathlib.Core.Path.{sym, ap, ◌∙◌}
use Rattle.sets.specs.Sets.{without}
use Rattle.answers.proofs.Answers.{none_has, none_blocks, sure_blocks, blockers_are, some_blocker}
use Rattle.blocking.proofs.blocked.Goals as goal

pub returns-then-is_empty : goal.returns-then-is_empty
returns-then-is_empty c = none_blocks _ _ _ _ _ _ _ _ c.unheard-missing.ensures (none_has _ _ c.is_empty.ensures c.if-is_empty.true)

pub returns-then-not-is_empty : goal.returns-then-not-is_empty
returns-then-not-is_empty c =
    sure_blocks _ _ _ _ _ _ _ _ (c.without-rest.ensures ∙ ap (without _) c.unheard-missing.ensures) _ _ c.difference-sure.ensures c.is_empty-2.ensures (c.if-not-is_empty.true)

pub returns : goal.returns
returns c =
    sym (some_blocker _ _ _ _ _ _ _ (blockers_are _ _ _ _ _ _ _ _ (c.without-rest.ensures ∙ ap (without _) c.unheard-missing.ensures) _ c.narrowed-left.ensures) c.is_empty-3.ensures)
