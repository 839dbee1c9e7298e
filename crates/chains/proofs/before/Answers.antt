-- `chains::before` meets its contract. Assumes nothing.
use mathlib.Core.Path.{ap, ◌∙◌}
use Rattle.sets.specs.PlaceSets.{has}
use Rattle.answers.specs.Views.{size, recorded_in, reach_from}
use Rattle.answers.proofs.Walks.{before_row}
use borrow.Author.Rules.{rules}
use Rattle.chains.proofs.before.Goals as goal

pub returns : goal.returns
returns c =
    let s = c.args in
    c.reached.ensures ∙ ap (reach_from (size s.count) (recorded_in s.count (has s.returned) s.rows.now)) c.recorded-row.ensures ∙ before_row _ _ _ _
