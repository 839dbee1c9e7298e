-- `answers::full_back` meets its contract. Assumes nothing.
use mathlib.Core.Path.{◌∙◌}
use Rattle.answers.proofs.Answers.{full_back_is}
use Rattle.standings.proofs.full_back.Goals as goal

pub returns : goal.returns
returns c = c.contains.ensures ∙ full_back_is _ _ _ _ _ _ _ c.roster-all.ensures c.intersection-back.ensures c.intersection-both.ensures
