-- `checks::spared_by` meets its contract. Assumes nothing.
use Rattle.checks.proofs.Checks.{all_spared, none_spared}
use Rattle.checks.proofs.spared_by.Goals as goal

pub returns-then-contains : goal.returns-then-contains
returns-then-contains c = all_spared _ _ _ c.contains.ensures c.if-contains.true

pub returns : goal.returns
returns c = none_spared _ _ _ _ c.contains.ensures c.if-contains.false c.empty.ensures
