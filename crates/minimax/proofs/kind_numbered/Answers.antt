-- `minimax::kind_numbered` meets its contract. Assumes nothing.
use Rattle.games.proofs.Numbers.{kind_even, kind_odd}
use Rattle.minimax.proofs.kind_numbered.Goals as goal

pub returns-then-number-eq0 : goal.returns-then-number-eq0
returns-then-number-eq0 c = kind_even _ c.if-number-eq0.true

pub returns : goal.returns
returns c = kind_odd _ c.if-number-eq0.false
