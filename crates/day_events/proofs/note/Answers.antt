-- `day_events::note` meets its contract. Assumes nothing.
use mathlib.Core.Path.{◌∙◌}
use native.Mathlib.Omega.{arith}
use borrow.Author.Rules.{rules}
use Rattle.day_events.proofs.Notes.{note_is}
use Rattle.day_events.proofs.note.Goals as goal

pub returns : goal.returns
returns c = c.set.ensures ∙ note_is _ (search rules) _ _ _ _ c.get-row.ensures (omega arith) c.with.ensures
