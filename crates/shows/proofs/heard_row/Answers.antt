-- `shows::heard_row` meets its contract. Assumes nothing.
use mathlib.Core.Path.{ap, ◌∙◌}
use Rattle.sets.specs.Sets.{with}
use Rattle.sets.specs.PlaceSets.{kept}
use Rattle.histories.specs.Histories.{Row}
use borrow.Author.Rules.{rules}
use Rattle.shows.proofs.heard_row.Goals as goal

pub returns : goal.returns
returns c = c.with.ensures ∙ ap (λ (S : Row). kept (with c.args.place.0 S)) c.before-own.ensures
