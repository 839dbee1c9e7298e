-- `standings::kind_of` meets its contract. Assumes nothing.
use mathlib.Core.Path.{sym, ◌∙◌}
use Rattle.answers.proofs.Answers.{kind_full, kind_short}
use Rattle.standings.proofs.kind_of.Goals as goal

pub returns-then-contains : goal.returns-then-contains
returns-then-contains c = kind_full _ _ (sym c.contains.ensures ∙ c.if-contains.true)

pub returns : goal.returns
returns c = kind_short _ _ (sym c.contains.ensures ∙ c.if-contains.false)
