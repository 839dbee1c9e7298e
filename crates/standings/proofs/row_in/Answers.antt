-- `answers::row_in` meets its contract. Assumes nothing.
use mathlib.Core.Path.{ap, ◌∙◌}
use Rattle.sets.specs.Sets.{intersection}
use Rattle.sets.specs.PlaceSets.{has}
use Rattle.rows.proofs.Laws.{has_row}
use Rattle.standings.proofs.row_in.Goals as goal

pub returns : goal.returns
returns c = c.intersection.ensures ∙ ap (intersection (has c.args.all)) (ap has c.get-row.ensures ∙ has_row _ _)
