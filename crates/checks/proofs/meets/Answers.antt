-- `checks::meets` meets its contract. Assumes nothing.
use mathlib.Core.Path.{ap, ◌∙◌}
use mathlib.Core.Bool.{not, not-not}
use Rattle.sets.specs.Sets.{any}
use Rattle.checks.proofs.meets.Goals as goal

pub returns : goal.returns
returns c = ap not c.is_empty.ensures ∙ not-not _ ∙ ap (any 128) c.intersection-common.ensures
