-- `day_events::note_running` meets its contract. Assumes nothing.
use mathlib.Core.Path.{◌≡◌}
use Rattle.sets.specs.Sets.{difference, below}
use Rattle.sets.specs.PlaceSets.{has}
use Rattle.rows.specs.Rows.{rows_of, table_of}
use Rattle.executions.specs.Executions.{noting}
use Rattle.day_events.proofs.note_running.Given as goal

abbrev pub invariant-loop-i : goal.invariant-loop-i
invariant-loop-i l = l.rows ≡ table_of (noting (difference (below l.i) (has l.stopped)) l.other.0 (rows_of l.initial.rows))
