-- `day_events::note_unless` meets its contract. Assumes nothing.
use mathlib.Core.Path.{sym, ◌∙◌}
use borrow.Author.Rules.{rules}
use Rattle.sets.specs.PlaceSets.{has}
use Rattle.day_events.proofs.Notes.{unless_stopped, unless_runs}
use Rattle.day_events.proofs.note_unless.Goals as goal

pub returns-then-contains : goal.returns-then-contains
returns-then-contains c =
    let a = c.args in
    unless_stopped (has a.stopped) a.other.0 _ _ (search rules) (sym c.contains.ensures ∙ c.if-contains.true)

pub returns : goal.returns
returns c =
    let a = c.args in
    c.note.ensures ∙ unless_runs (has a.stopped) a.other.0 _ _ (sym c.contains.ensures ∙ c.if-contains.false)
