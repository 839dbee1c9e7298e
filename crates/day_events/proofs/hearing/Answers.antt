-- `day_events::hearing` meets its contract. Assumes nothing.
use lib.ListN.{get_or}
use mir.Syntax.{w8}
use mir.Val.{Fits}
use borrow.Author.Rules.{rules}
use Rattle.rows.proofs.Tables.{table_of_rows}
use Rattle.executions.proofs.Gives.{hearing_is}
use Rattle.day_events.proofs.hearing.Goals as goal

pub note_heard-requires : goal.note_heard-requires
note_heard-requires c =
    table_of_rows c.args.d.rows (search rules) (λ i h. let f : Fits w8 (get_or c.args.d.rows i 0) = search rules in f.fits)

pub returns : goal.returns
returns c = hearing_is _ _ _ _ _ c.size-n.ensures.value c.note_heard.ensures
