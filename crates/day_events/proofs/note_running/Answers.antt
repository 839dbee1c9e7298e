-- `day_events::note_running` meets its contract. Assumes nothing.
use mathlib.Core.Path.{◌∙◌}
use Rattle.sets.specs.PlaceSets.{has}
use Rattle.day_events.proofs.Notes.{table_again, running_start, running_next}
use Rattle.day_events.proofs.note_running.Goals as goal

pub loop-i-init : goal.loop-i-init
loop-i-init c = running_start (has c.args.stopped) _ _ c.requires

pub note_unless-requires : goal.note_unless-requires
note_unless-requires c = table_again _ _ c.loop-i.invariant

pub loop-i-preserved : goal.loop-i-preserved
loop-i-preserved c = c.note_unless.ensures ∙ running_next (has c.args.stopped) _ _ _ _ c.loop-i.invariant
