-- `standings::recorded` meets its contract. Assumes nothing.
use Rattle.answers.proofs.Walks.{recorded_row, recorded_none}
use mathlib.Core.Path.{sym, ◌∙◌}
use Rattle.standings.proofs.recorded.Goals as goal

pub returns-then-contains : goal.returns-then-contains
returns-then-contains c =
    recorded_row _ _ _ _ _ c.roster-all.ensures c.intersection-back.ensures _ _ (sym c.contains.ensures ∙ c.if-contains.true) c.row_in.ensures

pub returns : goal.returns
returns c =
    recorded_none _ _ _ _ _ c.roster-all.ensures c.intersection-back.ensures _ _ (sym c.contains.ensures ∙ c.if-contains.false) c.empty.ensures
