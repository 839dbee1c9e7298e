-- `answers::roster` meets its contract. Assumes nothing.
use mathlib.Core.Path.{◌∙◌}
use Rattle.answers.proofs.Views.{roster_is_lem}
use Rattle.standings.proofs.roster.Goals as goal

pub returns : goal.returns
returns c = c.below.ensures ∙ roster_is_lem _
