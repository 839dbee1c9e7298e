-- `blocking::answer_for` meets its contract. Assumes nothing.
use mathlib.Core.Path.{sym, ◌∙◌}
use Rattle.answers.proofs.Answers.{answer_mourned, answer_blocked, answer_free}
use Rattle.blocking.proofs.answer_for.Goals as goal

pub returns-then-contains : goal.returns-then-contains
returns-then-contains c = answer_mourned _ _ _ _ _ (sym c.contains.ensures ∙ c.if-contains.true)

pub returns-then-blocked : goal.returns-then-blocked
returns-then-blocked c =
    answer_blocked _ _ _ _ _ (sym c.contains.ensures ∙ c.if-contains.false) (sym c.blocked.ensures ∙ c.if-blocked.true)

pub returns : goal.returns
returns c =
    answer_free _ _ _ _ _ (sym c.contains.ensures ∙ c.if-contains.false) (sym c.blocked.ensures ∙ c.if-blocked.false)
