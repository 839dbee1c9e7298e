-- `writes::count_below` meets its contract. Assumes nothing.
use mathlib.Core.Path.{◌∙◌}
use Rattle.writes.proofs.Laying.{count_on}
use Rattle.writes.proofs.count_below.Goals as goal

pub returns : goal.returns
returns c = c.count.ensures ∙ count_on _ _ _ _ c.requires c.below-first.ensures c.intersection-on.ensures
