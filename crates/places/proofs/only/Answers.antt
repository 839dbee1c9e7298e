-- `places::only` meets its contract. Assumes nothing.
use Rattle.sets.proofs.Words.{only_low, only_high, only_none}
use Rattle.places.proofs.only.Goals as goal

pub returns-then-p-lt64 : goal.returns-then-p-lt64
returns-then-p-lt64 c = only_low _ c.if-p-lt64.true

pub returns-then-p-lt128 : goal.returns-then-p-lt128
returns-then-p-lt128 c = only_high _ c.if-p-lt64.false c.if-p-lt128.true

pub returns-else-p-lt128 : goal.returns-else-p-lt128
returns-else-p-lt128 c = only_none _ _ c.if-p-lt128.false c.empty.ensures
