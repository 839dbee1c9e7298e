-- `records::all_there` meets its contract. Assumes nothing.
use mathlib.Core.Path.{sym}
use Rattle.layouts.proofs.Lists.{past_there, room_there}
use Rattle.roster_bytes.proofs.all_there.Goals as goal

pub returns-then-bytes-at : goal.returns-then-bytes-at
returns-then-bytes-at c = sym (past_there _ _ _ c.if-bytes-at.true)

pub returns : goal.returns
returns c = room_there _ _ _ c.if-bytes-at.false
