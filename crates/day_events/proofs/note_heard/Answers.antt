-- `day_events::note_heard` meets its contract. Assumes nothing.
use mathlib.Core.Path.{◌∙◌}
use Rattle.day_events.proofs.Notes.{heard_full, heard_short}
use Rattle.day_events.proofs.note_heard.Goals as goal

pub returns-in-Full : goal.returns-in-Full
returns-in-Full c = c.note_running.ensures ∙ heard_full _ _ _ _ _ _ c.in-Full.is

pub returns-in-Short : goal.returns-in-Short
returns-in-Short c = c.note.ensures ∙ heard_short _ _ _ _ _ _ c.in-Short.is
