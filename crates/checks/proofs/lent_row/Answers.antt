-- `checks::lent_row` meets its contract. Assumes nothing.
use Rattle.checks.proofs.Checks.{lent_is}
use Rattle.checks.proofs.lent_row.Goals as goal

pub returns : goal.returns
returns c n l = lent_is n _ _ _ l c.read.ensures
