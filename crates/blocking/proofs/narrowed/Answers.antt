-- `answers::narrowed` meets its contract. Assumes nothing.
use mathlib.Core.Path.{sym, ◌∙◌}
use Rattle.answers.proofs.Answers.{narrowed_full, narrowed_other}
use Rattle.blocking.proofs.narrowed.Goals as goal

pub returns-then-full_back : goal.returns-then-full_back
returns-then-full_back c = narrowed_full _ _ _ (sym c.full_back.ensures ∙ c.if-full_back.true)

pub returns : goal.returns
returns c =
    narrowed_other _ _ _ _ _ _ _ (sym c.full_back.ensures ∙ c.if-full_back.false) c.before-own.ensures c.intersection-heard.ensures c.difference.ensures
