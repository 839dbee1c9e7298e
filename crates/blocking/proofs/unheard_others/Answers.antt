-- `answers::unheard_others` meets its contract. Assumes nothing.
use mathlib.Core.Path.{ap, ◌∙◌}
use Rattle.sets.specs.Sets.{without}
use Rattle.blocking.proofs.unheard_others.Goals as goal

pub returns : goal.returns
returns c = c.without.ensures ∙ ap (without c.args.place.0) c.unheard-rest.ensures
