-- `places::is_subset` meets its contract. Assumes nothing.
use mathlib.Core.Path.{◌∙◌}
use Rattle.sets.proofs.Laws.{subset_difference}
use Rattle.places.proofs.is_subset.Goals as goal

pub returns : goal.returns
returns c = c.is_empty.ensures ∙ subset_difference _ _ _ c.difference-rest.ensures
